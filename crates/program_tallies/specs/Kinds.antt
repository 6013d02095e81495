-- Meaning. The kinds by which refusals are counted.
use Rattle.std.specs.Prelude.{ℕ, List, Option, None, Some, codes}
use Rattle.pdu_reading.specs.declared.fault.DecodeFault.{DecodeFault}
use Rattle.txn_events.specs.Refusal as lanes
use Rattle.entity_routing.specs.Refusal as entities
use Rattle.entity_routing.specs.declared.refusal.RouteRefusal.TheVariants as routes
use Rattle.entity_parts.specs.Refusals.{name_of, number_of}
use Rattle.entity_parts.specs.declared.refusal.EntityRefusal.{EntityRefusal}
use Rattle.entity_parts.specs.declared.refusal.EntityRefusal.TheVariants as answer
use Rattle.program_tallies.specs.declared.refusals.RefusalKind.{RefusalKind}
use Rattle.program_tallies.specs.declared.refusals.RefusalKind.TheVariants as kind

-- the kind of an entity's refusal: why, without what is sent back
abbrev pub kind_of : EntityRefusal → RefusalKind
kind_of (answer.Route why) = kind.Route why
kind_of (answer.Lane refused) = kind.Lane refused.why
kind_of answer.WrongLane = kind.WrongLane

-- the number that is printed for a kind: that of a foreign source comes after those of an entity
abbrev pub number_of_kind : RefusalKind → ℕ
number_of_kind (kind.Route why) = entities.refusal_number why
number_of_kind (kind.Lane why) = lanes.refusal_number why
number_of_kind kind.WrongLane = number_of answer.WrongLane
number_of_kind kind.ForeignSource = 27

-- the name that is printed for a kind, as octets
abbrev pub name_of_kind : RefusalKind → List ℕ
name_of_kind (kind.Route why) = entities.refusal_name why
name_of_kind (kind.Lane why) = lanes.refusal_name why
name_of_kind kind.WrongLane = name_of answer.WrongLane
name_of_kind kind.ForeignSource = codes "ForeignSource"

-- the decode fault, for octets that are not a PDU
abbrev pub fault_of : RefusalKind → Option DecodeFault
fault_of (kind.Route (routes.DecodeFault fault)) = Some fault
fault_of _ = None
