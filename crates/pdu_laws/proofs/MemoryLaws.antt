-- Reading itself never runs out of memory.
use Rattle.std.proofs.Common.{◌≡◌, ◌≢◌, ℕ, ◌/◌, Bool, true, false, cond, List, length, Option, Some, None, Result, Ok, Err, refl, sym, ◌∙◌, eqb, inl, inr}
use Rattle.std.specs.Prelude.{not, IsOk}
use Rattle.pdu_values.specs.declared.bodies.Acknowledged.{Acknowledged}
use Rattle.pdu_values.specs.declared.directive.Directive.{Directive}
use Rattle.pdu_values.specs.declared.directive.Directive.TheVariants as directives
use Rattle.pdu_values.specs.declared.pdu.Body.{Body}
use Rattle.pdu_reading.specs.declared.fixed_header.FixedHeader.{FixedHeader}
use Rattle.pdu_reading.specs.declared.fault.DecodeFault.{DecodeFault}
use Rattle.pdu_reading.specs.declared.fault.DecodeFault.TheVariants.{BadVersion, CrcPresent, LengthMismatch, NoFileName, NoMemory}
use Rattle.pdu_values.specs.Directive.{directive_with_code}
use Rattle.pdu_values.specs.Pdu.{PduValue}
use Rattle.pdu_values.specs.Spelling.{size_octets}
use Rattle.pdu_reading.specs.FixedHeader.{version, has_segment_metadata, is_file_data, has_crc, is_large}
use Rattle.pdu_reading.specs.Reading.{reading, pdu_from_fixed_header, fixed_header_at, fixed_header_fault, pdu_from_field, pdu_with_body, body_of, whole_body, ack_of, ack_of_kind, fields_of, directive_of, ack_at, eof_at, finished_at, metadata_at, nak_at, prompt_at, keep_alive_at, file_data_at, acknowledged_with_code, number_at, lacks_name, IsUnlessMemory}

-- a value, or a fault that is not want of memory
abbrev IsRead : {A : Type 0} → Result A DecodeFault → Type 0
IsRead (Ok x) = Unit {0}
IsRead (Err fault) = fault ≢ NoMemory

IsRead-cond : {A : Type 0} (b : Bool) (x y : Result A DecodeFault) → IsRead x → IsRead y → IsRead (cond b x y)
IsRead-cond true x y p q = p
IsRead-cond false x y p q = q

whole_is : (found : Option Body) → IsRead (whole_body found)
whole_is None = λ e. cc
whole_is (Some body) = IsRead-cond (lacks_name body) (Err NoFileName) (Ok body) (λ e. cc) tt

ack_kind_is : (kind : Option Acknowledged) (octets : List ℕ) → IsRead (ack_of_kind kind octets)
ack_kind_is None octets = λ e. cc
ack_kind_is (Some of) octets = whole_is (ack_at of octets)

ack_is : (found : Option (ℕ × List ℕ)) → IsRead (ack_of found)
ack_is None = λ e. cc
ack_is (Some x) = ack_kind_is (acknowledged_with_code (x.0 / 16)) x.1

fields_is : (width : ℕ) (kind : Option Directive) (octets : List ℕ) → IsRead (fields_of width kind octets)
fields_is width None octets = λ e. cc
fields_is width (Some directives.Eof) octets = whole_is (eof_at width octets)
fields_is width (Some directives.Finished) octets = whole_is (finished_at octets)
fields_is width (Some directives.Ack) octets = ack_is (number_at 1 octets)
fields_is width (Some directives.Metadata) octets = whole_is (metadata_at width octets)
fields_is width (Some directives.Nak) octets = whole_is (nak_at width octets)
fields_is width (Some directives.Prompt) octets = whole_is (prompt_at octets)
fields_is width (Some directives.KeepAlive) octets = whole_is (keep_alive_at width octets)

directive_is : (width : ℕ) (found : Option (ℕ × List ℕ)) → IsRead (directive_of width found)
directive_is width None = λ e. cc
directive_is width (Some x) = fields_is width (directive_with_code x.0) x.1

body_is : (o : FixedHeader) (field : List ℕ) → IsRead (body_of o field)
unfolding body_of
body_is o field = IsRead-cond (is_file_data o.first) _ _ (whole_is (file_data_at (size_octets (is_large o.first)) (has_segment_metadata o.lengths) field)) (directive_is (size_octets (is_large o.first)) (number_at 1 field))

pdu_is : (o : FixedHeader) (r : Result Body DecodeFault) → IsRead r → IsRead (pdu_with_body o r)
pdu_is o (Ok body) p = tt
pdu_is o (Err fault) p = p

-- a fault of the fixed_header is not want of memory
fault_is : (a b d : Bool) (fault : DecodeFault) → cond a (Some BadVersion) (cond b (Some CrcPresent) (cond d (Some LengthMismatch) None)) ≡ Some fault → fault ≢ NoMemory
fault_is true b d fault e = λ h. cc
fault_is false true d fault e = λ h. cc
fault_is false false true fault e = λ h. cc
fault_is false false false fault e = absurd cc

unless_is : (o : FixedHeader) (field : List ℕ) (fault : Option DecodeFault) → ((f : DecodeFault) → fault ≡ Some f → f ≢ NoMemory) → IsRead (pdu_from_field o field fault)
unless_is o field None p = pdu_is o (body_of o field) (body_is o field)
unless_is o field (Some fault) p = p fault refl

opened_is : (x : Option (FixedHeader × List ℕ)) → IsRead (pdu_from_fixed_header x)
unfolding fixed_header_fault
opened_is None = λ e. cc
opened_is (Some x) = unless_is x.0 x.1 (fixed_header_fault x.0 x.1) (λ f e. fault_is (not (eqb (version x.0.first) 1)) (has_crc x.0.first) (not (eqb (length x.1) x.0.size)) f e)

not_memory : {A : Type 0} (r : Result A DecodeFault) → IsRead r → r ≢ Err NoMemory
not_memory (Ok x) p = λ e. cc
not_memory (Err fault) p = λ e. p cc

pub reading_is_not_memory : (octets : List ℕ) → reading octets ≢ Err NoMemory
unfolding reading
reading_is_not_memory octets = not_memory (pdu_from_fixed_header (fixed_header_at octets)) (opened_is (fixed_header_at octets))

-- where memory ran out all else is well
pub memory_last : (octets : List ℕ) (result : Result PduValue DecodeFault) → IsUnlessMemory result (reading octets) → result ≡ Err NoMemory → IsOk (reading octets)
memory_last octets result (inl same) none = absurd (reading_is_not_memory octets (sym same ∙ none))
memory_last octets result (inr other) none = other.1
