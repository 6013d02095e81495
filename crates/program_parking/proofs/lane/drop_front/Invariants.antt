use Rattle.std.proofs.Common.{◌≡◌, drop}
use Rattle.program_parking.specs.Lanes.{costs}
use Rattle.program_parking.proofs.lane.drop_front.Given as goal

abbrev pub invariant-loop-place : goal.invariant-loop-place
invariant-loop-place l = (l.waiting.items ≡ drop l._place l.fn.waiting.items) × (l.octets ≡ costs l.waiting.items)
