use Rattle.std.proofs.Common.{◌≡◌, drop}
use Rattle.program_parking.specs.Parkings.{larger, largest_lane}
use Rattle.program_parking.proofs.sharing.largest_lane.Given as goal

abbrev pub invariant-loop-place : goal.invariant-loop-place
invariant-loop-place l = larger l.source l.place (drop l.place l.sources) (drop l.place l.lanes) l.best ≡ largest_lane l.source l.sources l.lanes
