use Rattle.std.proofs.Common.{◌≡◌, ◌<◌, Some, length, slice_get, get_or, sym, arith}
use Rattle.program_parking.specs.Lanes.{lending}
use Rattle.program_parking.specs.Parkings.{ParkingValue}
use Rattle.program_parking.proofs.ParkingFacts.{any_lane, lane_there, lend_is, lending_costs, replaced_is, stepped_same}
use Rattle.program_parking.proofs.parking.Parking.lend.Goals as goal

pub invariant_of-self-2 : goal.invariant_of-self-2
invariant_of-self-2 c =
    let inside : c.args.place < length c.self.inside.lanes.items = grind (arith, c.len.ensures, c.if-place-len.false) in
    let there : slice_get c.self.inside.lanes.items c.args.place ≡ Some (get_or c.self.inside.lanes.items c.args.place any_lane) = lane_there _ _ inside in
    stepped_same _ _ _ _ _ _ _ _ _ there c.self.invariant.0 c.self.invariant.1 c.self.invariant.2 (c.in_ok-lent.ensures.ok _ there) (lending_costs (get_or c.self.inside.lanes.items c.args.place any_lane))

pub returns-clause-lent : goal.returns-clause-lent
returns-clause-lent c =
    let inside : c.args.place < length c.self.inside.lanes.items = grind (arith, c.len.ensures, c.if-place-len.false) in
    let there : slice_get c.self.inside.lanes.items c.args.place ≡ Some (get_or c.self.inside.lanes.items c.args.place any_lane) = lane_there _ _ inside in
    let p : ParkingValue = record { lanes = c.self.inside.lanes.items; sources = c.self.inside.sources.items; arrivals = c.self.inside.arrivals; room = c.self.inside.room; share = c.self.inside.share; remotes = c.self.inside.remotes } in
    lend_is p _ _ _ _ (sym c.self.view_is) there (c.in_ok-lent.ensures.lent _ there)

pub returns-clause-ok : goal.returns-clause-ok
returns-clause-ok c =
    let inside : c.args.place < length c.self.inside.lanes.items = grind (arith, c.len.ensures, c.if-place-len.false) in
    let there : slice_get c.self.inside.lanes.items c.args.place ≡ Some (get_or c.self.inside.lanes.items c.args.place any_lane) = lane_there _ _ inside in
    let p : ParkingValue = record { lanes = c.self.inside.lanes.items; sources = c.self.inside.sources.items; arrivals = c.self.inside.arrivals; room = c.self.inside.room; share = c.self.inside.share; remotes = c.self.inside.remotes } in
    replaced_is p _ _ lending _ _ (sym c.self.view_is) there (c.in_ok-lent.ensures.ok _ there)
