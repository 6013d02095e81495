-- Meaning. The answers that a worker may get.
use Rattle.std.specs.Prelude.{◌≡◌, ℕ, List, Result, Ok}
use Rattle.atomic_table.specs.Seated.{TableId}
use Rattle.txn_events.specs.declared.event.Event.{Event}
use Rattle.pdu_values.specs.Pdu.{PduValue}
use Rattle.pdu_reading.specs.Reading.{reading}
use Rattle.config_reading.specs.Values.{ConfigValue}
use Rattle.entity_routing.specs.Routes.{routed_pdu}
use Rattle.entity_parts.specs.declared.refusal.EntityRefusal.{EntityRefusal}
use Rattle.shared_lanes.specs.Held.{HeldValue}
use Rattle.shared_entity.specs.Answering.{MayAnswer}

-- every answer is accepted that the entity may give to a PDU which some octets are read as
abbrev pub AcceptsAnswers : {A : Type 0} → (ℕ → TableId) → (HeldValue → Event → A → HeldValue → Type 0) → ConfigValue → (Result A EntityRefusal → Type 0) → Type 0
AcceptsAnswers queue gives config accepts =
    (octets : List ℕ) (pdu : PduValue) (answer : _) → reading octets ≡ Ok pdu → MayAnswer queue gives (routed_pdu config pdu) answer → accepts answer
