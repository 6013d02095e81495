use Rattle.std.proofs.Common.{◌≡◌, ◌+◌, ◌-◌, ◌≤◌, Some, slice_get, sym, arith}
use Rattle.program_parking.specs.Parkings.{ParkingValue, used}
use Rattle.program_parking.proofs.PlaceFacts.{within_room}
use Rattle.program_parking.proofs.ParkingFacts.{limit_is, own_within, parked_copy, stepped_room, there_by}
use Rattle.program_parking.proofs.parking.Parking.park.Goals as goal

pub overflow_add-self : goal.overflow_add-self
overflow_add-self c =
    let there : slice_get c.self.inside.lanes.items c.args.place ≡ Some c.in-Some.lane.now = there_by _ _ _ _ c.deref.ensures.value c.in-Some.ensures.lookup.3.0 c.in-Some.ensures.lookup.1 in
    let both = stepped_room _ _ _ _ _ _ _ _ _ _ _ _ c.in-Some.lane.now _ there c.self.invariant.0 c.self.invariant.1 c.self.invariant.2 c.octets-own.ensures (rw c.deref-2.ensures.value at c.source_of-source.ensures) (rw (c.deref-3.ensures.value, c.deref-4.ensures.value) at c.held_by-held.ensures) c.limit_of-limit.ensures
    (c.in_ok-now.ensures.ok c.in-Some.lane.now there) (c.in_ok-now.ensures.octets c.in-Some.lane.now there) (within_room _ _) in
    let sum : c.self.inside.octets - c.octets-own.result + c.in_ok-now.now ≡ used c.park_at.new.lanes.items = both.0 in
    let kept : used c.park_at.new.lanes.items ≤ c.self.inside.room = both.1.0 in
    omega arith

pub invariant_of-self-2 : goal.invariant_of-self-2
invariant_of-self-2 c =
    let there : slice_get c.self.inside.lanes.items c.args.place ≡ Some c.in-Some.lane.now = there_by _ _ _ _ c.deref.ensures.value c.in-Some.ensures.lookup.3.0 c.in-Some.ensures.lookup.1 in
    stepped_room _ _ _ _ _ _ _ _ _ _ _ _ c.in-Some.lane.now _ there c.self.invariant.0 c.self.invariant.1 c.self.invariant.2 c.octets-own.ensures (rw c.deref-2.ensures.value at c.source_of-source.ensures) (rw (c.deref-3.ensures.value, c.deref-4.ensures.value) at c.held_by-held.ensures) c.limit_of-limit.ensures
    (c.in_ok-now.ensures.ok c.in-Some.lane.now there) (c.in_ok-now.ensures.octets c.in-Some.lane.now there) (within_room _ _)

pub returns-clause-ok : goal.returns-clause-ok
returns-clause-ok c =
    let there : slice_get c.self.inside.lanes.items c.args.place ≡ Some c.in-Some.lane.now = there_by _ _ _ _ c.deref.ensures.value c.in-Some.ensures.lookup.3.0 c.in-Some.ensures.lookup.1 in
    let p : ParkingValue = record { lanes = c.self.inside.lanes.items; sources = c.self.inside.sources.items; arrivals = c.self.inside.arrivals; room = c.self.inside.room; share = c.self.inside.share; remotes = c.self.inside.remotes } in
    let in_time : c.in-Some.lane.now.floor ≤ c.args.number = grind (arith, c.floor.ensures, c.if-number-floor.false) in
    let counts : c.self.inside.arrivals ≡ 18446744073709551615 → ⊥ = grind (arith, c.if-self.false) in
    parked_copy p _ _ _ _ _ _ c.in-Some.lane.now _ _ (sym c.self.view_is) c.in_ok-from_slice.ensures there in_time counts
    (limit_is p c.in-Some.lane.now _ _ _ _ _ _ c.self.invariant.0 c.octets-own.ensures (rw c.deref-2.ensures.value at c.source_of-source.ensures) (rw (c.deref-3.ensures.value, c.deref-4.ensures.value) at c.held_by-held.ensures) c.limit_of-limit.ensures)
    (c.in_ok-now.ensures.ok c.in-Some.lane.now there)

pub park_at-requires-clause-room : goal.park_at-requires-clause-room
park_at-requires-clause-room c =
    let there : slice_get c.self.inside.lanes.items c.args.place ≡ Some c.in-Some.lane.now = there_by _ _ _ _ c.deref.ensures.value c.in-Some.ensures.lookup.3.0 c.in-Some.ensures.lookup.1 in
    own_within _ _ _ _ _ _ _ _ _ _ c.in-Some.lane.now there c.self.invariant.0 c.self.invariant.1 c.self.invariant.2 c.octets-own.ensures
    (rw c.deref-2.ensures.value at c.source_of-source.ensures) (rw (c.deref-3.ensures.value, c.deref-4.ensures.value) at c.held_by-held.ensures) c.limit_of-limit.ensures
