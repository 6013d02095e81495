use Rattle.std.proofs.Common.{◌≡◌, map, take}
use Rattle.cfdp_session.proofs.order.slices_of.Given as goal

abbrev pub invariant-loop-message : goal.invariant-loop-message
invariant-loop-message l = map (λ slice. slice.now) l.slices.items ≡ take l.message-index l.messages
