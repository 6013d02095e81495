use Rattle.std.proofs.Common.{◌≡◌, ◌+◌, drop}
use Rattle.program_parking.specs.Parkings.{held}
use Rattle.program_parking.proofs.sharing.held_by.Given as goal

abbrev pub invariant-loop-place : goal.invariant-loop-place
invariant-loop-place l = l.sum + held l.source (drop l.place l.sources) (drop l.place l.lanes) ≡ held l.source l.sources l.lanes
