-- Meaning. Why an entity refuses an event, and why it cannot read a datagram.
use Rattle.std.specs.Prelude.{◌≡◌, ℕ, Bool, true, false, List, Result, Ok, Err, IsOk, codes}
use Rattle.pdu_reading.specs.Reading.{reading}
use Rattle.pdu_reading.specs.declared.fault.DecodeFault.{DecodeFault}
use Rattle.pdu_values.specs.Pdu.{PduValue}
use Rattle.txn_events.specs.Refusal as lanes
use Rattle.txn_events.specs.declared.refusal.Refusal.{Refusal}
use Rattle.txn_events.specs.declared.refusal.Refusal.TheVariants as refusal
use Rattle.lane_table.specs.Steps.{plainly}
use Rattle.entity_routing.specs.Refusal as entities
use Rattle.entity_routing.specs.declared.refusal.RouteRefusal.TheVariants as routes
use Rattle.entity_parts.specs.declared.refusal.EntityRefusal.{EntityRefusal}
use Rattle.entity_parts.specs.declared.refusal.EntityRefusal.TheVariants as answer

-- the number of a refusal, as it is printed
abbrev pub number_of : EntityRefusal → ℕ
number_of (answer.Route why) = entities.refusal_number why
number_of (answer.Lane refused) = lanes.refusal_number refused.why
number_of answer.WrongLane = 26

-- the name of a refusal, as it is printed, in octets
abbrev pub name_of : EntityRefusal → List ℕ
name_of (answer.Route why) = entities.refusal_name why
name_of (answer.Lane refused) = lanes.refusal_name refused.why
name_of answer.WrongLane = codes "WrongLane"

-- whether the refusal is temporary: memory ran out, or a user's queue was full
abbrev pub is_passing : EntityRefusal → Bool
is_passing (answer.Lane refused) = passes refused.why
  where
    passes : Refusal → Bool
    passes refusal.NoMemory = true
    passes refusal.QueueFull = true
    passes _ = false
is_passing _ = false

-- whether the event's transaction is out of reach: it does not exist, has ended, or the event has no lane
abbrev pub is_final : EntityRefusal → Bool
is_final (answer.Lane refused) = is_gone refused.why
  where
    is_gone : Refusal → Bool
    is_gone refusal.NoTransaction = true
    is_gone refusal.OldTransaction = true
    is_gone _ = false
is_final _ = true

-- why octets are not read: they are not a PDU, or memory ran out
abbrev pub IsNotRead : Result PduValue DecodeFault → EntityRefusal → Type 0
IsNotRead (Err fault) why = why ≡ answer.Route (routes.DecodeFault fault)
IsNotRead (Ok pdu) why = why ≡ answer.Lane (plainly refusal.NoMemory)

-- the octets are a PDU, but memory ran out
abbrev pub IsUnreadFrom : {A : Type 0} → List ℕ → Result A EntityRefusal → Type 0
IsUnreadFrom octets result = IsOk (reading octets) × (result ≡ Err (answer.Lane (plainly refusal.NoMemory)))
