use Rattle.std.proofs.Common.{◌≡◌, length, arith}
use Rattle.program_parking.proofs.ParkingFacts.{empty_kept, one_more_empty}
use Rattle.program_parking.proofs.parking.Parking.new.Goals as goal

pub loop-place-preserved : goal.loop-place-preserved
loop-place-preserved c = one_more_empty _ _ _ _ c.loop-place.invariant c.new.ensures c.in_ok-push.ensures.items

pub invariant_of-result : goal.invariant_of-result
invariant_of-result c =
    let many : length c.args.sources.items ≡ c.loop-place._place = omega arith in
    empty_kept _ _ _ _ _ many c.loop-place.invariant
