use Rattle.program_parking.proofs.ParkingFacts.{AreEmpty}
use Rattle.program_parking.proofs.parking.Parking.new.Given as goal

abbrev pub invariant-loop-place : goal.invariant-loop-place
invariant-loop-place l = AreEmpty l._place l.all.items
