-- Meaning. Type, length and value: the optional fields after the fixed ones of a directive (CCSDS 727.0-B-5, 5.4),
-- and what is read from them.
use Rattle.std.specs.Prelude.{ℕ, ◌+◌, ◌-◌, ◌^◌, zero, suc, List, [], ◌∷◌, length, Option, Some, None, Bool, true, ◌&&◌, nat_lt, ◌==◌, if◌then◌else◌}
use Rattle.cfdp_types.specs.declared.key.EntityId.{EntityId}
use Rattle.pdu_values.specs.Numbers.{number_of, digits}

-- an optional field: its type and its value
pub record Tlv : Type 0 where
  pub kind : ℕ
  pub value : List ℕ

-- the type of a TLV that holds a message to the user
abbrev pub message_kind : ℕ
message_kind = 2

-- the type of a TLV that holds an entity ID
abbrev pub entity_id_kind : ℕ
entity_id_kind = 6

-- ---- what is read from them

-- the messages to the user, in order
unfoldable pub messages_in : List Tlv → List (List ℕ)
messages_in [] = []
messages_in (t ∷ ts) = if t.kind == message_kind then t.value ∷ messages_in ts else messages_in ts

-- the fault location: the first entity ID
unfoldable pub location_in : List Tlv → Option EntityId
location_in [] = None
location_in (t ∷ ts) = if t.kind == entity_id_kind then Some (record { 0 = number_of t.value }) else location_in ts

-- whether a TLV may stand among the optional fields of EOF and Finished: an entity ID must have 1 to 8 octets
abbrev pub may_locate : Tlv → Bool
may_locate t = if t.kind == entity_id_kind then nat_lt 0 (length t.value) && nat_lt (length t.value) 9 else true

-- ---- what is written

-- the TLV of a message to the user
abbrev pub message_tlv : List ℕ → Tlv
message_tlv message = record { kind = message_kind; value = message }

-- the least width, from `width` to this many octets more, that holds a number
unfoldable pub width_from : ℕ → ℕ → ℕ → ℕ
width_from zero width n = width
width_from (suc more) width n = if nat_lt n (256 ^ width) then width else width_from more (width + 1) n

-- the width in which an ID is written: `octets`, or the fewest that hold it where that is more, at most 8
abbrev pub octets_for : ℕ → ℕ → ℕ
octets_for octets n = width_from (8 - octets) octets n

-- the TLV of a fault location, if there is one
abbrev pub location_tlvs : ℕ → Option EntityId → List Tlv
location_tlvs entity_octets None = []
location_tlvs entity_octets (Some id) =
    record { kind = entity_id_kind; value = digits (octets_for entity_octets id.0) id.0 } ∷ []
