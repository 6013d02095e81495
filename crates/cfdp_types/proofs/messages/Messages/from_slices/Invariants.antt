use Rattle.std.proofs.Common.{◌≡◌, map, take}
use Rattle.cfdp_types.proofs.messages.Messages.from_slices.Given as goal

abbrev pub invariant-loop-slice : goal.invariant-loop-slice
invariant-loop-slice l = l.items.items ≡ map (λ slice. slice.now) (take l.slice-index l.slices)
