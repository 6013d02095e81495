-- Of the code. Writing octets into memory reserved beforehand, and what is written for a body.
use Rattle.std.specs.Prelude.{◌≡◌, ℕ, ◌+◌, ◌-◌, ◌*◌, ◌^◌, ◌<◌, ◌≤◌, List, ◌++◌, length, map, vec_len, vec_capacity, Vec}
use Rattle.pdu_values.specs.declared.pdu.Header.{Header}
use Rattle.pdu_values.specs.declared.pdu.Body.{Body}
use Rattle.pdu_values.specs.declared.pdu.Body.TheVariants as bodies
use Rattle.pdu_values.specs.Numbers.{digits}
use Rattle.pdu_values.specs.Tlvs.{message_tlv, location_tlvs}
use Rattle.pdu_values.specs.Spelling as spelling

-- the vector has room for more octets
abbrev pub HasRoom : {Z : Type 0} → Vec ℕ Z → List ℕ → Type 0
HasRoom v text = vec_len v + length text ≤ vec_capacity v

-- octets were appended
pub record Writes {Z : Type 0} (old new : Vec ℕ Z) (text : List ℕ) : Type 0 where
  pub items : new.items ≡ old.items ++ text
  pub len : vec_len new ≡ vec_len old + length text
  pub capacity : vec_capacity old ≤ vec_capacity new

-- the whole text was appended but for the rest, for which there is room
pub record WritesWith {Z : Type 0} (old now : Vec ℕ Z) (whole rest : List ℕ) : Type 0 where
  pub items : now.items ++ rest ≡ old.items ++ whole
  pub len : vec_len now + length rest ≡ vec_len old + length whole
  pub capacity : vec_capacity old ≤ vec_capacity now

-- a directive's code and its fields
abbrev pub behind_code : ℕ → List ℕ → List ℕ
behind_code code fields = digits 1 code ++ fields

-- the data field that is written for a body, where the header's IDs have this many octets: no spare bit is set, and
-- there are only the optional fields that the body needs
abbrev pub field_of : ℕ → ℕ → Body → List ℕ
field_of width entity_octets (bodies.Eof e) =
    behind_code 4 (spelling.eof width 0 (location_tlvs entity_octets e.location) e)
field_of width entity_octets (bodies.Finished f) =
    behind_code 5 (spelling.finished 0 (location_tlvs entity_octets f.location) f)
field_of width entity_octets (bodies.Ack a) = behind_code 6 (spelling.ack (spelling.acknowledged_subtype a.of) 0 a)
field_of width entity_octets (bodies.Metadata m) =
    behind_code 7 (spelling.metadata width 0 0 (map message_tlv m.messages) m)
field_of width entity_octets (bodies.Nak n) = behind_code 8 (spelling.nak width n)
field_of width entity_octets (bodies.Prompt p) = behind_code 9 (spelling.prompt 0 p)
field_of width entity_octets (bodies.KeepAlive k) = behind_code 12 (spelling.keep_alive width k)
field_of width entity_octets (bodies.FileData d) = spelling.file_data width d

-- a body whose data field can be written after a header whose IDs have this many octets
pub record FieldFits (width entity_octets : ℕ) (body : Body) : Type 0 where
  pub entity_octets_fit : spelling.IsIdLength entity_octets
  pub body_fits : spelling.BodyFits width body
  pub short : length (field_of width entity_octets body) < 2 ^ 16

-- the fixed header of a PDU of a type, before a data field of `size` octets
abbrev pub header_of : ℕ → ℕ → Header → List ℕ
header_of type_bit size header =
    digits 1 (32 + 16 * type_bit + 8 * spelling.direction_bit header.direction + 4 * spelling.mode_bit header.class + spelling.bit header.large)
    ++ (digits 2 size ++ (digits 1 (16 * (header.entity_octets - 1) + (header.sequence_octets - 1)) ++ spelling.ids header))

-- the whole PDU
abbrev pub text_of : ℕ → Header → Body → List ℕ
text_of size header body = header_of (spelling.type_bit body) size header ++ field_of (spelling.size_octets header.large) header.entity_octets body
