use Rattle.std.proofs.Common.{◌≡◌, Some, slice_get, sym}
use Rattle.program_parking.specs.Lanes.{without_number}
use Rattle.program_parking.specs.Parkings.{ParkingValue}
use Rattle.program_parking.proofs.ParkingFacts.{replaced_is, stepped_less, there_by}
use Rattle.program_parking.proofs.parking.Parking.forget.Goals as goal

pub invariant_of-self : goal.invariant_of-self
invariant_of-self c =
    let there : slice_get c.self.inside.lanes.items c.args.place ≡ Some c.in-Some.lane.now = there_by _ _ _ _ c.deref.ensures.value c.in-Some.ensures.lookup.3.0 c.in-Some.ensures.lookup.1 in
    stepped_less _ _ _ _ _ _ _ _ _ c.in-Some.lane.now _ there c.self.invariant.0 c.self.invariant.1 c.self.invariant.2 c.octets.ensures
    (c.forget_at-now.ensures.lanes c.in-Some.lane.now there) (c.forget_at-now.ensures.octets c.in-Some.lane.now there) (c.forget_at-now.ensures.less c.in-Some.lane.now there)

pub returns-in-Some : goal.returns-in-Some
returns-in-Some c =
    let there : slice_get c.self.inside.lanes.items c.args.place ≡ Some c.in-Some.lane.now = there_by _ _ _ _ c.deref.ensures.value c.in-Some.ensures.lookup.3.0 c.in-Some.ensures.lookup.1 in
    let p : ParkingValue = record { lanes = c.self.inside.lanes.items; sources = c.self.inside.sources.items; arrivals = c.self.inside.arrivals; room = c.self.inside.room; share = c.self.inside.share; remotes = c.self.inside.remotes } in
    replaced_is p _ _ (without_number c.args.number) c.in-Some.lane.now _ (sym c.self.view_is) there (c.forget_at-now.ensures.lanes c.in-Some.lane.now there)
