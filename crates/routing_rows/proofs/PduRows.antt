-- Worked routes of datagrams: the octets, and which lane is told of the PDU that they are read as, or why none is.
use Rattle.std.proofs.Common.{◌≡◌, ℕ, false, List, [], ◌∷◌, map, Ok, Err, refl}
use Rattle.cfdp_types.specs.declared.names.Class.TheVariants.{One}
use Rattle.pdu_values.specs.declared.bodies.Acknowledged.{Acknowledged}
use Rattle.pdu_values.specs.declared.bodies.Acknowledged.TheVariants as acknowledged
use Rattle.pdu_values.specs.declared.bodies.Prompt.TheVariants as prompts
use Rattle.pdu_values.specs.declared.bodies.TransactionStatus.TheVariants.{Terminated}
use Rattle.pdu_values.specs.declared.pdu.Direction.{Direction}
use Rattle.pdu_values.specs.declared.pdu.Direction.TheVariants.{TowardReceiver, TowardSender}
use Rattle.pdu_values.specs.declared.pdu.Body.{Body}
use Rattle.pdu_values.specs.declared.pdu.Body.TheVariants as body
use Rattle.pdu_values.specs.Pdu.{PduValue}
use Rattle.pdu_values.specs.Numbers.{number_of}
use Rattle.pdu_values.specs.Tlvs.{messages_in}
use Rattle.pdu_reading.specs.Items.{items_within, items_to_end}
use Rattle.pdu_reading.specs.FixedHeader.{header_of}
use Rattle.pdu_reading.specs.Reading.{body_of, fixed_header_at, fixed_header_fault, lv_at, metadata_at, number_at, reading}
use Rattle.pdu_reading.specs.declared.fault.DecodeFault.TheVariants.{TooShort}
use Rattle.txn_events.specs.declared.event.Event.TheVariants.{On}
use Rattle.txn_events.specs.declared.event.What.TheVariants as what
use Rattle.entity_config.specs.Reference.{reference_config}
use Rattle.entity_routing.specs.declared.refusal.RouteRefusal.TheVariants as refusals
use Rattle.entity_routing.specs.Routes.{pdu_place, routed_reading}

-- ---- octets: Metadata of the file "a", of three octets, to be kept as "b"

-- by the first octet, and the octets of the source, of the sequence number and of the destination
abbrev metadata_octets : ℕ → ℕ → ℕ → ℕ → List ℕ
metadata_octets first source seq destination = first ∷ 0x00 ∷ 0x0A ∷ 0x00 ∷ source ∷ seq ∷ destination ∷ 0x07 ∷ 0x00 ∷ 0x00 ∷ 0x00 ∷ 0x00 ∷ 0x03 ∷ 0x01 ∷ 0x61 ∷ 0x01 ∷ 0x62 ∷ []

abbrev metadata : Body
metadata = body.Metadata (record { closure = false; checksum_type = 0; size = 3; source_name = 97 ∷ []; destination_name = 98 ∷ []; messages = [] })

abbrev pdu : Direction → ℕ → ℕ → Body → PduValue
pdu direction source destination content = record {
  header = record { direction = direction; class = One; large = false; entity_octets = 1; sequence_octets = 1; source = record { 0 = source }; sequence = 5; destination = record { 0 = destination } };
  body = content;
}

-- from entity 1 to entity 2: alice's second receiving lane is told
comes : routed_reading reference_config (reading (metadata_octets 0x24 1 5 2))
    ≡ Ok (record { place = record { user = 0; lane = 3 }; event = On (record { source = record { 0 = 1 }; seq = 5 }) (what.Pdu (pdu TowardReceiver 1 2 metadata)) })
unfolding reading fixed_header_at fixed_header_fault header_of body_of number_at lv_at metadata_at items_to_end items_within messages_in number_of
comes = refl

-- to entity 3
to_another : routed_reading reference_config (reading (metadata_octets 0x24 1 5 3)) ≡ Err refusals.NotForUs
unfolding reading fixed_header_at fixed_header_fault header_of body_of number_at lv_at metadata_at items_to_end items_within messages_in number_of
to_another = refl

-- Metadata toward the sender
backwards : routed_reading reference_config (reading (metadata_octets 0x2C 2 5 2)) ≡ Err refusals.WrongDirection
unfolding reading fixed_header_at fixed_header_fault header_of body_of number_at lv_at metadata_at items_to_end items_within messages_in number_of
backwards = refl

-- from entity 3, which the configuration does not name
from_unknown : routed_reading reference_config (reading (metadata_octets 0x24 3 5 2)) ≡ Err refusals.NoRoute
unfolding reading fixed_header_at fixed_header_fault header_of body_of number_at lv_at metadata_at items_to_end items_within messages_in number_of
from_unknown = refl

-- from the entity to itself
from_itself : routed_reading reference_config (reading (metadata_octets 0x24 2 4 2)) ≡ Err refusals.NoRoute
unfolding reading fixed_header_at fixed_header_fault header_of body_of number_at lv_at metadata_at items_to_end items_within messages_in number_of
from_itself = refl

-- no PDU
one_octet : routed_reading reference_config (reading (0x24 ∷ [])) ≡ Err (refusals.DecodeFault TooShort)
unfolding reading fixed_header_at number_at number_of
one_octet = refl

-- ---- PDUs

-- toward the sender the source counts, and the destination is not looked at
acknowledgements : map (λ destination. pdu_place reference_config (pdu TowardSender 2 destination (body.Ack (record { of = acknowledged.Eof; condition = 0; status = Terminated })))) (1 ∷ 2 ∷ 9 ∷ [])
    ≡ Ok (record { user = 1; lane = 0 }) ∷ Ok (record { user = 1; lane = 0 }) ∷ Ok (record { user = 1; lane = 0 }) ∷ []
acknowledgements = refl

-- of another entity's transaction, although the destination is the entity
of_another : pdu_place reference_config (pdu TowardSender 1 2 (body.Nak (record { start = 0; end = 0; requests = [] }))) ≡ Err refusals.NotForUs
of_another = refl

-- each kind goes one way
abbrev ack : Acknowledged → Body
ack of = body.Ack (record { of = of; condition = 0; status = Terminated })

kinds_to_receivers : map (λ content. pdu_place reference_config (pdu TowardReceiver 1 2 content)) (metadata ∷ ack acknowledged.Finished ∷ body.Prompt prompts.Nak ∷ ack acknowledged.Eof ∷ body.KeepAlive (record { progress = 0 }) ∷ [])
    ≡ Ok (record { user = 0; lane = 3 }) ∷ Ok (record { user = 0; lane = 3 }) ∷ Ok (record { user = 0; lane = 3 }) ∷ Err refusals.WrongDirection ∷ Err refusals.WrongDirection ∷ []
kinds_to_receivers = refl

kinds_to_senders : map (λ content. pdu_place reference_config (pdu TowardSender 2 1 content)) (metadata ∷ ack acknowledged.Finished ∷ body.Prompt prompts.Nak ∷ ack acknowledged.Eof ∷ body.KeepAlive (record { progress = 0 }) ∷ [])
    ≡ Err refusals.WrongDirection ∷ Err refusals.WrongDirection ∷ Err refusals.WrongDirection ∷ Ok (record { user = 1; lane = 0 }) ∷ Ok (record { user = 1; lane = 0 }) ∷ []
kinds_to_senders = refl

-- ---- where two refusals apply, the first is told

-- for another entity, the other way round
not_ours_first : map (λ source. pdu_place reference_config (pdu TowardSender source 2 metadata)) (1 ∷ 3 ∷ []) ≡ Err refusals.NotForUs ∷ Err refusals.NotForUs ∷ []
not_ours_first = refl

-- from no source, to another entity
not_ours_before_route : pdu_place reference_config (pdu TowardReceiver 3 3 metadata) ≡ Err refusals.NotForUs
not_ours_before_route = refl

-- from no source, and from the entity itself, the other way round
direction_before_route : map (λ source. pdu_place reference_config (pdu TowardReceiver source 2 (ack acknowledged.Eof))) (3 ∷ 2 ∷ []) ≡ Err refusals.WrongDirection ∷ Err refusals.WrongDirection ∷ []
direction_before_route = refl
