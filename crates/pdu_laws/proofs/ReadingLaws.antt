-- The whole: what is read is spelled so, and what is spelled so is read.
use Rattle.std.proofs.Common.{◌≡◌, ℕ, ◌/◌, ◌%◌, ◌^◌, ◌<◌, ◌≤◌, Bool, true, false, cond, not, ◌==◌, inl, inr, List, ◌++◌, length, map, Option, Some, None, Result, Ok, Err, refl, sym, ap, subst, ◌∙◌, arith}
use Rattle.std.specs.Prelude.{IfOk}
use Rattle.std.specs.List.{flat_map}
use Rattle.std.proofs.lemmas.Bool.{eqb-true, eqb-false, eq-eqb, ne_eqb}
use Rattle.std.proofs.lemmas.List.{length-append}
use Rattle.pdu_reading.specs.declared.fixed_header.FixedHeader.{FixedHeader}
use Rattle.pdu_values.specs.declared.bodies.Acknowledged.{Acknowledged}
use Rattle.pdu_values.specs.declared.bodies.Acknowledged.TheVariants as acknowledged
use Rattle.pdu_values.specs.declared.directive.Directive.{Directive}
use Rattle.pdu_values.specs.declared.directive.Directive.TheVariants as directives
use Rattle.pdu_values.specs.declared.pdu.Header.{Header}
use Rattle.pdu_values.specs.declared.pdu.Body.{Body}
use Rattle.pdu_values.specs.declared.pdu.Body.TheVariants as bodies
use Rattle.pdu_reading.specs.declared.fault.DecodeFault.{DecodeFault}
use Rattle.pdu_reading.specs.declared.fault.DecodeFault.TheVariants.{TooShort, BadVersion, CrcPresent, LengthMismatch, UnknownDirective, FieldCut, NoFileName, NoMemory}
use Rattle.pdu_reading.specs.FirstFault.{SpellsNameless}
use Rattle.pdu_values.specs.Directive.{directive_code, directive_with_code}
use Rattle.pdu_values.specs.Pdu.{PduValue}
use Rattle.pdu_values.specs.Numbers.{digits}
use Rattle.pdu_values.specs.Tlvs.{message_tlv}
use Rattle.pdu_values.specs.Spelling.{Choice, plain_choice, size_octets, lv, tlv, segment, file_data, data_field, type_bit, first_octet, lengths_octet, spelling, written, IsIdLength, BodyFits, Fits, HeaderFits, IsBodyChoice, IsChoice, Spells, acknowledged_subtype, Keeps, plain_tlvs, spare_limit, plain_subtype, eof, finished, ack, metadata, nak, prompt, keep_alive}
use Rattle.pdu_reading.specs.FixedHeader.{version, has_crc, is_large, entity_octets, sequence_octets, has_segment_metadata, is_file_data, header_of}
use Rattle.pdu_reading.specs.Reading.{number_at, fixed_header_at, fixed_header_fault, eof_at, finished_at, metadata_at, nak_at, prompt_at, keep_alive_at, file_data_at, lacks_name, whole_body, fields_of, directive_of, body_of, pdu_with_body, pdu_from_field, pdu_from_fixed_header, reading, IsUnlessMemory, IsFound}
use Rattle.pdu_values.proofs.Numbers.{IsOctets}
use Rattle.pdu_laws.proofs.BitLaws.{directive_code-is, directive_with_code-again, directive_code-below}
use Rattle.pdu_laws.proofs.FieldLaws.{Takes, number_takes, number_again}
use Rattle.pdu_laws.proofs.TlvLaws.{plain_locates, plain_tells, messages_shorter}
use Rattle.pdu_values.proofs.WidthLaws.{location_short}
use Rattle.pdu_laws.proofs.HeaderLaws.{fixed_header_text, FixedHeaderFits, TakesFixedHeader, fixed_header_takes, fixed_header_again, fixed_header_of, kind_again, FixedHeaderFits-fixed_header_of, spelling-is, header_again, flag_of_first, no_fault_again, HasNoFault, HasNoFault-from_none, first_octet-is, lengths_octet-is, lengths_of}
use Rattle.pdu_laws.proofs.BodyLaws.{FieldsFit, answer_of, IsAll, IsReadAs, whole_read, IsSpelled, eof_is_spelled, finished_is_spelled, ack_is_read, metadata_is_spelled, nak_is_spelled, prompt_is_spelled, keep_alive_is_spelled, file_data_is_spelled}
use Rattle.pdu_laws.proofs.NameLaws.{fields_and_names, fields_fit, names_fit, lacking, lacking_is}
use Rattle.pdu_laws.proofs.BodyAgainLaws.{eof_again, finished_again, ack_again, metadata_again, nak_again, prompt_again, keep_alive_again, file_data_again}

-- ---- a data field that is read is spelled so

fields_read : (width control : ℕ) (flag : Bool) (d : Directive) (octets : List ℕ) → IsOctets octets → IsAll (fields_of width (Some d) octets) → IsReadAs width control 0 flag (digits 1 (directive_code d) ++ octets) (fields_of width (Some d) octets)
fields_read width control flag directives.Eof octets h all =
    whole_read width control 0 flag (digits 1 (directive_code directives.Eof) ++ octets) (eof_at width octets) (λ body e. eof_is_spelled width control flag octets body h e) all
fields_read width control flag directives.Finished octets h all =
    whole_read width control 0 flag (digits 1 (directive_code directives.Finished) ++ octets) (finished_at octets) (λ body e. finished_is_spelled width control flag octets body h e) all
fields_read width control flag directives.Ack octets h all = ack_is_read width control flag octets h all
fields_read width control flag directives.Metadata octets h all =
    whole_read width control 0 flag (digits 1 (directive_code directives.Metadata) ++ octets) (metadata_at width octets) (λ body e. metadata_is_spelled width control flag octets body h e) all
fields_read width control flag directives.Nak octets h all =
    whole_read width control 0 flag (digits 1 (directive_code directives.Nak) ++ octets) (nak_at width octets) (λ body e. nak_is_spelled width control flag octets body h e) all
fields_read width control flag directives.Prompt octets h all =
    whole_read width control 0 flag (digits 1 (directive_code directives.Prompt) ++ octets) (prompt_at octets) (λ body e. prompt_is_spelled width control flag octets body h e) all
fields_read width control flag directives.KeepAlive octets h all =
    whole_read width control 0 flag (digits 1 (directive_code directives.KeepAlive) ++ octets) (keep_alive_at width octets) (λ body e. keep_alive_is_spelled width control flag octets body h e) all

coded_read : (width control : ℕ) (flag : Bool) (field rest : List ℕ) (code : ℕ) (kind : Option Directive) → Takes field (digits 1 code) rest → directive_with_code code ≡ kind → IsAll (fields_of width kind rest) → IsReadAs width control 0 flag field (fields_of width kind rest)
coded_read width control flag field rest code None takes kind_is all = absurd all
coded_read width control flag field rest code (Some d) takes kind_is all =
    let field_is : field ≡ digits 1 (directive_code d) ++ rest = takes.parts ∙ ap (λ (k : ℕ). digits 1 k ++ rest) (directive_code-is code d kind_is) in
    subst (λ (f : List ℕ). IsReadAs width control 0 flag f (fields_of width (Some d) rest)) (sym field_is) (fields_read width control flag d rest takes.rest_octets all)

directive_read : (width control : ℕ) (flag : Bool) (field : List ℕ) (found : Option (ℕ × List ℕ)) → IsOctets field → number_at 1 field ≡ found → IsAll (directive_of width found) → IsReadAs width control 0 flag field (directive_of width found)
directive_read width control flag field None h found_is all = absurd all
directive_read width control flag field (Some x) h found_is all =
    let code = number_takes 1 field x.0 x.1 h found_is in
    coded_read width control flag field x.1 x.0 (directive_with_code x.0) code.takes refl all

-- a data field that was read
abbrev IsRead : FixedHeader → List ℕ → Result Body DecodeFault → Type 0
IsRead o field result = IsReadAs (size_octets (is_large o.first)) (o.lengths / 128) (o.first / 16 % 2) (has_segment_metadata o.lengths) field result

body_step : (o : FixedHeader) (field : List ℕ) (b : Bool) → IsOctets field → is_file_data o.first ≡ b → IsAll (cond b (whole_body (file_data_at (size_octets (is_large o.first)) (has_segment_metadata o.lengths) field)) (directive_of (size_octets (is_large o.first)) (number_at 1 field)))
    → IsRead o field (cond b (whole_body (file_data_at (size_octets (is_large o.first)) (has_segment_metadata o.lengths) field)) (directive_of (size_octets (is_large o.first)) (number_at 1 field)))
body_step o field true h is all =
    let flag = has_segment_metadata o.lengths in
    let found = file_data_at (size_octets (is_large o.first)) flag field in
    let kind : 1 ≡ o.first / 16 % 2 = sym (eqb-true (o.first / 16 % 2) 1 is) in
    subst (λ (k : ℕ). IsReadAs (size_octets (is_large o.first)) (o.lengths / 128) k flag field (whole_body found)) kind
    (whole_read (size_octets (is_large o.first)) (o.lengths / 128) 1 flag field found (λ body e. file_data_is_spelled (size_octets (is_large o.first)) (o.lengths / 128) flag field body h e) all)
body_step o field false h is all =
    let flag = has_segment_metadata o.lengths in
    let kind : 0 ≡ o.first / 16 % 2 = omega (arith, eqb-false (o.first / 16 % 2) 1 is) in
    subst (λ (k : ℕ). IsReadAs (size_octets (is_large o.first)) (o.lengths / 128) k flag field (directive_of (size_octets (is_large o.first)) (number_at 1 field))) kind (directive_read (size_octets (is_large o.first)) (o.lengths / 128) flag field (number_at 1 field) h refl all)

body_is_read : (o : FixedHeader) (field : List ℕ) → IsOctets field → IsAll (body_of o field) → IsRead o field (body_of o field)
unfolding body_of
body_is_read o field h all = body_step o field (is_file_data o.first) h refl all

-- a body that is answered has its names
abbrev ok : Body → Result Body DecodeFault
ok body = Ok body

answered_ok : (b : Bool) (x y : Body) → ok y ≡ cond b (Err NoFileName) (Ok x) → (b ≡ false) × (x ≡ y)
answered_ok true x y e = absurd cc
answered_ok false x y e = (refl, cc)

abbrev nameless : Result Body DecodeFault
nameless = Err NoFileName

answered_nameless : (b : Bool) (x : Body) → nameless ≡ cond b (Err NoFileName) (Ok x) → b ≡ true
answered_nameless true x e = refl
answered_nameless false x e = absurd cc

-- ---- the written data field is not much longer than any other

plain_short : (large : Bool) (header : Header) (body : Body) (choice : Choice) → IsIdLength header.entity_octets → BodyFits (size_octets large) body → IsBodyChoice choice body → length (data_field (size_octets large) choice body) < 2 ^ 16
    → length (data_field (size_octets large) (plain_choice (record { header = header; body = body })) body) < 2 ^ 16
unfolding digits
plain_short false header (bodies.Eof e) choice is fits is_choice short = omega (arith, location_short header.entity_octets e.location is fits.location)
plain_short false header (bodies.Finished f) choice is fits is_choice short = omega (arith, location_short header.entity_octets f.location is fits.location)
plain_short false header (bodies.Ack a) choice is fits is_choice short = omega arith
plain_short false header (bodies.Metadata m) choice is fits is_choice short =
    let kept = is_choice.tlvs.kept in
    let shorter : length (flat_map tlv (map message_tlv m.messages)) ≤ length (flat_map tlv choice.tlvs) = subst (λ (ms : List (List ℕ)). length (flat_map tlv (map message_tlv ms)) ≤ length (flat_map tlv choice.tlvs)) kept (messages_shorter choice.tlvs) in
    let written : List ℕ = flat_map tlv (map message_tlv m.messages) in
    let chosen : List ℕ = flat_map tlv choice.tlvs in
    omega (
      arith,
      length-append m.source_name (lv m.destination_name ++ written),
      length-append m.source_name (lv m.destination_name ++ chosen),
      length-append m.destination_name written,
      length-append m.destination_name chosen,
      shorter,
      short,
    )
plain_short false header (bodies.Nak n) choice is fits is_choice short = short
plain_short false header (bodies.Prompt p) choice is fits is_choice short = omega arith
plain_short false header (bodies.KeepAlive k) choice is fits is_choice short = omega arith
plain_short false header (bodies.FileData f) choice is fits is_choice short =
    omega (arith, length-append (segment choice.flag choice.state choice.segment_metadata) (file_data (size_octets false) f), short)
plain_short true header (bodies.Eof e) choice is fits is_choice short = omega (arith, location_short header.entity_octets e.location is fits.location)
plain_short true header (bodies.Finished f) choice is fits is_choice short = omega (arith, location_short header.entity_octets f.location is fits.location)
plain_short true header (bodies.Ack a) choice is fits is_choice short = omega arith
plain_short true header (bodies.Metadata m) choice is fits is_choice short =
    let kept = is_choice.tlvs.kept in
    let shorter : length (flat_map tlv (map message_tlv m.messages)) ≤ length (flat_map tlv choice.tlvs) = subst (λ (ms : List (List ℕ)). length (flat_map tlv (map message_tlv ms)) ≤ length (flat_map tlv choice.tlvs)) kept (messages_shorter choice.tlvs) in
    let written : List ℕ = flat_map tlv (map message_tlv m.messages) in
    let chosen : List ℕ = flat_map tlv choice.tlvs in
    omega (
      arith,
      length-append m.source_name (lv m.destination_name ++ written),
      length-append m.source_name (lv m.destination_name ++ chosen),
      length-append m.destination_name written,
      length-append m.destination_name chosen,
      shorter,
      short,
    )
plain_short true header (bodies.Nak n) choice is fits is_choice short = short
plain_short true header (bodies.Prompt p) choice is fits is_choice short = omega arith
plain_short true header (bodies.KeepAlive k) choice is fits is_choice short = omega arith
plain_short true header (bodies.FileData f) choice is fits is_choice short =
    omega (arith, length-append (segment choice.flag choice.state choice.segment_metadata) (file_data (size_octets true) f), short)

-- ---- what is read is spelled so

-- the header and the data field, put one after the other
abbrev laid : ℕ → ℕ → ℕ → List ℕ → List ℕ → List ℕ
laid first size lengths ids field = (digits 1 first ++ (digits 2 size ++ (digits 1 lengths ++ ids))) ++ field

abbrev ids_of : FixedHeader → List ℕ
ids_of o = digits (entity_octets o.lengths) o.source ++ (digits (sequence_octets o.lengths) o.sequence ++ digits (entity_octets o.lengths) o.destination)

-- a data field that spells a body
abbrev IsFieldOf : FixedHeader → List ℕ → Body → Type 0
IsFieldOf o field body = IsSpelled (size_octets (is_large o.first)) (o.lengths / 128) (o.first / 16 % 2) (has_segment_metadata o.lengths) field body

abbrev pdu_of : FixedHeader → Body → PduValue
pdu_of o body = record { header = header_of o; body = body }

spelled_whole : (o : FixedHeader) (field : List ℕ) (body : Body) → HasNoFault o field → (r : IsFieldOf o field body) → fixed_header_text o ++ field ≡ spelling r.choice (pdu_of o body)
unfolding spelling header_of
spelled_whole o field body sound r =
    let choice = r.choice in
    let first : o.first ≡ first_octet (pdu_of o body) = sym (first_octet-is o field body sound r.kind_is) in
    let lengths : o.lengths ≡ lengths_octet choice (header_of o) = sym (lengths_octet-is o choice r.control_is r.flag_is) in
    let size : o.size ≡ length (data_field (size_octets (is_large o.first)) choice body) = sym sound.size_is ∙ ap length r.spelled in
    ap (λ (k : ℕ). laid k o.size o.lengths (ids_of o) field) first
    ∙ ap (λ (k : ℕ). laid (first_octet (pdu_of o body)) k o.lengths (ids_of o) field) size
    ∙ ap (λ (k : ℕ). laid (first_octet (pdu_of o body)) (length (data_field (size_octets (is_large o.first)) choice body)) k (ids_of o) field) lengths
    ∙ ap (λ (os : List ℕ). laid (first_octet (pdu_of o body)) (length (data_field (size_octets (is_large o.first)) choice body)) (lengths_octet choice (header_of o)) (ids_of o) os) r.spelled

field_short : (o : FixedHeader) (field : List ℕ) (body : Body) → FixedHeaderFits o → HasNoFault o field → (r : IsFieldOf o field body) → length (data_field (size_octets (is_large o.first)) r.choice body) < 2 ^ 16
field_short o field body fits sound r = omega (arith, ap length r.spelled, sound.size_is, fits.size)

fixed_header_fits : (o : FixedHeader) → FixedHeaderFits o → HeaderFits (header_of o)
unfolding header_of
fixed_header_fits o fits = record {
  entity_octets = record { least = omega arith; most = omega arith };
  sequence_octets = record { least = omega arith; most = omega arith };
  source = fits.source;
  sequence = fits.sequence;
  destination = fits.destination;
}

choice_whole : (o : FixedHeader) (field : List ℕ) (body : Body) → FixedHeaderFits o → HasNoFault o field → (r : IsFieldOf o field body) → IsChoice r.choice (pdu_of o body)
unfolding header_of
choice_whole o field body fits sound r = record {
  control = omega (arith, r.control_is, fits.lengths);
  body = r.is_choice;
  data_field = field_short o field body fits sound r;
}

-- a datagram without a fault in its header
record IsDatagram (octets : List ℕ) (o : FixedHeader) (field : List ℕ) : Type 0 where
  pub taken : TakesFixedHeader octets o field
  pub sound : HasNoFault o field

whole_spelled : (octets : List ℕ) (o : FixedHeader) (field : List ℕ) (body : Body) → IsDatagram octets o field → IsFieldOf o field body → lacks_name body ≡ false → Spells octets (pdu_of o body)
unfolding header_of
whole_spelled octets o field body d r named =
    let fits = fields_and_names (size_octets (is_large o.first)) body r.fits named in
    let header = fixed_header_fits o d.taken.fits in
    record {
      choice = r.choice;
      is_choice = choice_whole o field body d.taken.fits d.sound r;
      fits = record {
        header = header;
        body = fits;
        data_field = plain_short (is_large o.first) (header_of o) body r.choice header.entity_octets fits r.is_choice (field_short o field body d.taken.fits d.sound r);
      };
      spelled = d.taken.takes.parts ∙ spelled_whole o field body d.sound r;
    }

whole_nameless : (octets : List ℕ) (o : FixedHeader) (field : List ℕ) (body : Body) → IsDatagram octets o field → IsFieldOf o field body → lacks_name body ≡ true → SpellsNameless octets
unfolding header_of
whole_nameless octets o field (bodies.Eof e) d r lacks = absurd cc
whole_nameless octets o field (bodies.Finished f) d r lacks = absurd cc
whole_nameless octets o field (bodies.Ack a) d r lacks = absurd cc
whole_nameless octets o field (bodies.Metadata m) d r lacks = record {
  header = header_of o;
  metadata = m;
  choice = r.choice;
  header_fits = fixed_header_fits o d.taken.fits;
  metadata_fits = r.fits;
  nameless = lacking m lacks;
  is_choice = choice_whole o field (bodies.Metadata m) d.taken.fits d.sound r;
  spelled = d.taken.takes.parts ∙ spelled_whole o field (bodies.Metadata m) d.sound r;
}
whole_nameless octets o field (bodies.Nak n) d r lacks = absurd cc
whole_nameless octets o field (bodies.Prompt p) d r lacks = absurd cc
whole_nameless octets o field (bodies.KeepAlive k) d r lacks = absurd cc
whole_nameless octets o field (bodies.FileData f) d r lacks = absurd cc

-- what is spelled where a PDU or Metadata that leaves a name out is read
abbrev IsRight : List ℕ → Result PduValue DecodeFault → Type 0
IsRight octets (Ok pdu) = Spells octets pdu
IsRight octets (Err NoFileName) = SpellsNameless octets
IsRight octets (Err TooShort) = Unit {0}
IsRight octets (Err BadVersion) = Unit {0}
IsRight octets (Err CrcPresent) = Unit {0}
IsRight octets (Err LengthMismatch) = Unit {0}
IsRight octets (Err UnknownDirective) = Unit {0}
IsRight octets (Err FieldCut) = Unit {0}
IsRight octets (Err NoMemory) = Unit {0}

from_body : (octets : List ℕ) (o : FixedHeader) (field : List ℕ) (found : Result Body DecodeFault) → IsDatagram octets o field → IsOctets field → body_of o field ≡ found → IsRight octets (pdu_with_body o found)
from_body octets o field (Ok body) d h body_is =
    let r = body_is_read o field h (subst IsAll (sym body_is) tt) in
    let named = answered_ok (lacks_name r.body) r.body body (sym body_is ∙ r.answered) in
    subst (λ (b : Body). Spells octets (pdu_of o b)) named.1 (whole_spelled octets o field r.body d r.spelled named.0)
from_body octets o field (Err NoFileName) d h body_is =
    let r = body_is_read o field h (subst IsAll (sym body_is) tt) in
    whole_nameless octets o field r.body d r.spelled (answered_nameless (lacks_name r.body) r.body (sym body_is ∙ r.answered))
from_body octets o field (Err TooShort) d h body_is = tt
from_body octets o field (Err BadVersion) d h body_is = tt
from_body octets o field (Err CrcPresent) d h body_is = tt
from_body octets o field (Err LengthMismatch) d h body_is = tt
from_body octets o field (Err UnknownDirective) d h body_is = tt
from_body octets o field (Err FieldCut) d h body_is = tt
from_body octets o field (Err NoMemory) d h body_is = tt

-- a fault of the header is not that a name is left out
header_right : (a b d : Bool) (octets : List ℕ) (fault : DecodeFault) → cond a (Some BadVersion) (cond b (Some CrcPresent) (cond d (Some LengthMismatch) None)) ≡ Some fault → IsRight octets (Err fault)
header_right true b d octets fault e = let same : BadVersion ≡ fault = cc in subst (λ (f : DecodeFault). IsRight octets (Err f)) same tt
header_right false true d octets fault e = let same : CrcPresent ≡ fault = cc in subst (λ (f : DecodeFault). IsRight octets (Err f)) same tt
header_right false false true octets fault e = let same : LengthMismatch ≡ fault = cc in subst (λ (f : DecodeFault). IsRight octets (Err f)) same tt
header_right false false false octets fault e = absurd cc

from_fault : (octets : List ℕ) (o : FixedHeader) (field : List ℕ) (found : Option DecodeFault) → TakesFixedHeader octets o field → fixed_header_fault o field ≡ found → IsRight octets (pdu_from_field o field found)
unfolding fixed_header_fault
from_fault octets o field None taken fault_is = from_body octets o field (body_of o field) (record { taken = taken; sound = HasNoFault-from_none o field fault_is }) taken.takes.rest_octets refl
from_fault octets o field (Some fault) taken fault_is =
    header_right (not (version o.first == 1)) (has_crc o.first) (not (length field == o.size)) octets fault fault_is

from_fixed_header : (octets : List ℕ) (found : Option (FixedHeader × List ℕ)) → IsOctets octets → fixed_header_at octets ≡ found → IsRight octets (pdu_from_fixed_header found)
from_fixed_header octets None h fixed_header_is = tt
from_fixed_header octets (Some x) h fixed_header_is = from_fault octets x.0 x.1 (fixed_header_fault x.0 x.1) (fixed_header_takes octets x h fixed_header_is) refl

reading_is_right : (octets : List ℕ) → IsOctets octets → IsRight octets (reading octets)
unfolding reading
reading_is_right octets h = from_fixed_header octets (fixed_header_at octets) h refl

pub read_is_spelled : (octets : List ℕ) (pdu : PduValue) → IsOctets octets → reading octets ≡ Ok pdu → Spells octets pdu
read_is_spelled octets pdu h e = subst (IsRight octets) e (reading_is_right octets h)

-- what is read fits its fields, so it can be written
pub read_fits : (octets : List ℕ) (pdu : PduValue) → IsOctets octets → reading octets ≡ Ok pdu → Fits pdu
read_fits octets pdu h e = let spells = read_is_spelled octets pdu h e in spells.fits

-- where it is read that a name is left out, such Metadata is spelled
pub read_is_nameless : (octets : List ℕ) → IsOctets octets → reading octets ≡ Err NoFileName → SpellsNameless octets
read_is_nameless octets h e = subst (IsRight octets) e (reading_is_right octets h)

-- ---- what is spelled so is read

some_octets : (large : Bool) → 1 ≤ size_octets large
some_octets false = omega arith
some_octets true = omega arith

directive_again : (o : FixedHeader) (d : Directive) (octets : List ℕ) (body : Body) → o.first / 16 % 2 ≡ 0 → fields_of (size_octets (is_large o.first)) (Some d) octets ≡ answer_of body → body_of o (digits 1 (directive_code d) ++ octets) ≡ answer_of body
unfolding body_of
directive_again o d octets body kind fields =
    let directive : is_file_data o.first ≡ false = ne_eqb (o.first / 16 % 2) 1 (λ is. omega (arith, kind)) in
    rw (directive, number_again 1 (directive_code d) octets (directive_code-below d), directive_with_code-again d) fields

body_again : (o : FixedHeader) (choice : Choice) (body : Body) → o.first / 16 % 2 ≡ type_bit body → has_segment_metadata o.lengths ≡ choice.flag → FieldsFit (size_octets (is_large o.first)) body → IsBodyChoice choice body
    → body_of o (data_field (size_octets (is_large o.first)) choice body) ≡ answer_of body
unfolding body_of
body_again o choice (bodies.Eof e) kind flag fits free =
    directive_again o directives.Eof (eof (size_octets (is_large o.first)) choice.spare choice.tlvs e) (bodies.Eof e) kind (rw (eof_again (size_octets (is_large o.first)) choice.spare choice.tlvs e fits free.spare free.tlvs) refl)
body_again o choice (bodies.Finished f) kind flag fits free =
    directive_again o directives.Finished (finished choice.spare choice.tlvs f) (bodies.Finished f) kind (rw (finished_again choice.spare choice.tlvs f fits free.spare free.tlvs) refl)
body_again o choice (bodies.Ack a) kind flag fits free =
    directive_again o directives.Ack (ack choice.subtype choice.spare a) (bodies.Ack a) kind (ack_again choice.subtype choice.spare a fits free.subtype free.spare)
body_again o choice (bodies.Metadata m) kind flag fits free =
    directive_again o directives.Metadata (metadata (size_octets (is_large o.first)) choice.reserved choice.spare choice.tlvs m) (bodies.Metadata m) kind
    (rw (metadata_again (size_octets (is_large o.first)) choice.reserved choice.spare choice.tlvs m fits free.reserved free.spare free.tlvs) refl)
body_again o choice (bodies.Nak n) kind flag fits free =
    directive_again o directives.Nak (nak (size_octets (is_large o.first)) n) (bodies.Nak n) kind (rw (nak_again (size_octets (is_large o.first)) n (some_octets (is_large o.first)) fits) refl)
body_again o choice (bodies.Prompt p) kind flag fits free =
    directive_again o directives.Prompt (prompt choice.spare p) (bodies.Prompt p) kind (rw (prompt_again choice.spare p free.spare) refl)
body_again o choice (bodies.KeepAlive k) kind flag fits free =
    directive_again o directives.KeepAlive (keep_alive (size_octets (is_large o.first)) k) (bodies.KeepAlive k) kind (rw (keep_alive_again (size_octets (is_large o.first)) k fits) refl)
body_again o choice (bodies.FileData f) kind flag fits free =
    let is_data : is_file_data o.first ≡ true = eq-eqb (o.first / 16 % 2) 1 kind in
    rw (is_data, flag, file_data_again (size_octets (is_large o.first)) choice.flag choice.state choice.segment_metadata f fits free.state free.segment_metadata) refl

spelling_is_answered : (choice : Choice) (pdu : PduValue) → HeaderFits pdu.header → FieldsFit (size_octets pdu.header.large) pdu.body → IsChoice choice pdu → reading (spelling choice pdu) ≡ pdu_with_body (fixed_header_of choice pdu) (answer_of pdu.body)
unfolding reading
spelling_is_answered choice pdu header fits is_choice =
    let o = fixed_header_of choice pdu in
    let field = data_field (size_octets pdu.header.large) choice pdu.body in
    let again = lengths_of choice pdu header is_choice in
    let large : is_large o.first ≡ pdu.header.large = flag_of_first pdu in
    let read_again : body_of o field ≡ answer_of pdu.body =
    subst (λ (l : Bool). body_of o (data_field (size_octets l) choice pdu.body) ≡ answer_of pdu.body) large
    (body_again o choice pdu.body (kind_again pdu) again.flag_again (subst (λ (l : Bool). FieldsFit (size_octets l) pdu.body) (sym large) fits) is_choice.body) in
    ap reading (spelling-is choice pdu header is_choice)
    ∙ rw (
      fixed_header_again o field (FixedHeaderFits-fixed_header_of choice pdu header is_choice),
      no_fault_again choice pdu,
      read_again,
    ) refl

pub spelling_is_read : (choice : Choice) (pdu : PduValue) → Fits pdu → IsChoice choice pdu → reading (spelling choice pdu) ≡ Ok pdu
spelling_is_read choice pdu fits is_choice =
    spelling_is_answered choice pdu fits.header (fields_fit (size_octets pdu.header.large) pdu.body fits.body) is_choice
    ∙ rw (names_fit (size_octets pdu.header.large) pdu.body fits.body, header_again choice pdu fits.header is_choice) refl

pub spelled_is_read : (octets : List ℕ) (pdu : PduValue) → Spells octets pdu → reading octets ≡ Ok pdu
spelled_is_read octets pdu spells = ap reading spells.spelled ∙ spelling_is_read spells.choice pdu spells.fits spells.is_choice

pub nameless_is_read : (octets : List ℕ) → SpellsNameless octets → reading octets ≡ Err NoFileName
nameless_is_read octets s =
    let pdu : PduValue = record { header = s.header; body = bodies.Metadata s.metadata } in
    ap reading s.spelled ∙ spelling_is_answered s.choice pdu s.header_fits s.metadata_fits s.is_choice ∙ rw (lacking_is s.metadata s.nameless) refl

-- ---- the written spelling

spare_free : (body : Body) → 0 < spare_limit body
spare_free (bodies.Eof e) = omega arith
spare_free (bodies.Finished f) = omega arith
spare_free (bodies.Ack a) = omega arith
spare_free (bodies.Metadata m) = omega arith
spare_free (bodies.Nak n) = omega arith
spare_free (bodies.Prompt p) = omega arith
spare_free (bodies.KeepAlive k) = omega arith
spare_free (bodies.FileData f) = omega arith

acknowledged_subtype-below : (of : Acknowledged) → acknowledged_subtype of < 16
acknowledged_subtype-below acknowledged.Eof = omega arith
acknowledged_subtype-below acknowledged.Finished = omega arith

plain_subtype-below : (body : Body) → plain_subtype body < 16
plain_subtype-below (bodies.Eof e) = omega arith
plain_subtype-below (bodies.Finished f) = omega arith
plain_subtype-below (bodies.Ack a) = acknowledged_subtype-below a.of
plain_subtype-below (bodies.Metadata m) = omega arith
plain_subtype-below (bodies.Nak n) = omega arith
plain_subtype-below (bodies.Prompt p) = omega arith
plain_subtype-below (bodies.KeepAlive k) = omega arith
plain_subtype-below (bodies.FileData f) = omega arith

plain_keeps : (width entity_octets : ℕ) (body : Body) → IsIdLength entity_octets → BodyFits width body → Keeps (plain_tlvs entity_octets body) body
plain_keeps width entity_octets (bodies.Eof e) is fits = plain_locates entity_octets e.location is fits.location
plain_keeps width entity_octets (bodies.Finished f) is fits = plain_locates entity_octets f.location is fits.location
plain_keeps width entity_octets (bodies.Ack a) is fits = tt
plain_keeps width entity_octets (bodies.Metadata m) is fits = plain_tells m.messages fits.messages
plain_keeps width entity_octets (bodies.Nak n) is fits = tt
plain_keeps width entity_octets (bodies.Prompt p) is fits = tt
plain_keeps width entity_octets (bodies.KeepAlive k) is fits = tt
plain_keeps width entity_octets (bodies.FileData f) is fits = tt

plain_is_body_choice : (pdu : PduValue) → Fits pdu → IsBodyChoice (plain_choice pdu) pdu.body
plain_is_body_choice pdu fits = record {
  state = omega arith;
  segment_metadata = omega arith;
  spare = spare_free pdu.body;
  reserved = omega arith;
  subtype = plain_subtype-below pdu.body;
  tlvs = plain_keeps (size_octets pdu.header.large) pdu.header.entity_octets pdu.body fits.header.entity_octets fits.body;
}

pub plain_is_choice : (pdu : PduValue) → Fits pdu → IsChoice (plain_choice pdu) pdu
plain_is_choice pdu fits = record { control = omega arith; body = plain_is_body_choice pdu fits; data_field = fits.data_field }

pub written_is_spelled : (pdu : PduValue) → Fits pdu → Spells (written pdu) pdu
unfolding written
written_is_spelled pdu fits = record { choice = plain_choice pdu; is_choice = plain_is_choice pdu fits; fits = fits; spelled = refl }

-- the round trip: what is written is read again
pub written_is_read : (pdu : PduValue) → Fits pdu → reading (written pdu) ≡ Ok pdu
written_is_read pdu fits = spelled_is_read (written pdu) pdu (written_is_spelled pdu fits)

-- octets spell one PDU at most
pub spelled_once : (octets : List ℕ) (a b : PduValue) → Spells octets a → Spells octets b → a ≡ b
spelled_once octets a b spells_a spells_b =
    let same : ok a ≡ ok b = sym (spelled_is_read octets a spells_a) ∙ spelled_is_read octets b spells_b in cc
  where
    ok : PduValue → Result PduValue DecodeFault
    ok pdu = Ok pdu

-- ---- what a reader in code answers

pub is_found : (octets : List ℕ) (result : Result PduValue DecodeFault) → IsOctets octets → IsUnlessMemory result (reading octets) → IfOk result (λ pdu. Spells octets pdu)
is_found octets (Ok pdu) h (inl same) = read_is_spelled octets pdu h (sym same)
is_found octets (Ok pdu) h (inr memory) = let wrong = memory.0 in absurd cc
is_found octets (Err fault) h answer = tt

pub is_only : (octets : List ℕ) (result : Result PduValue DecodeFault) → IsUnlessMemory result (reading octets) → (pdu : PduValue) → Spells octets pdu → IsFound result pdu
is_only octets result answer pdu spells =
    let read_so : reading octets ≡ Ok pdu = spelled_is_read octets pdu spells in
    elim answer [ inl same ↦ inl (same ∙ read_so) | inr memory ↦ inr memory.0 ]
