-- Which fault is read, by the octets at their places.
use Rattle.std.proofs.Common.{◌≡◌, ℕ, ◌+◌, ◌-◌, ◌*◌, ◌/◌, ◌^◌, ◌<◌, ◌≤◌, Bool, true, false, cond, ltb, not, ◌&&◌, ◌||◌, ◌==◌, ◌⊎◌, inl, inr, List, [], ◌∷◌, length, take, drop, Option, Some, None, Result, Ok, Err, refl, sym, ap, subst, ◌∙◌, arith}
use Rattle.std.specs.Prelude.{is_none}
use Rattle.std.proofs.lemmas.Bool.{eqb-true, and_parts, eq-eqb, ne_eqb, lt-ltb, le-ltb, cases_lt, cases_eq}
use Rattle.std.proofs.lemmas.List.{length-drop, drop-drop}
use Rattle.pdu_values.specs.declared.bodies.Acknowledged.{Acknowledged}
use Rattle.pdu_values.specs.declared.directive.Directive.{Directive}
use Rattle.pdu_values.specs.declared.directive.Directive.TheVariants as directives
use Rattle.pdu_reading.specs.declared.fixed_header.FixedHeader.{FixedHeader}
use Rattle.pdu_values.specs.declared.pdu.Body.{Body}
use Rattle.pdu_reading.specs.declared.fault.DecodeFault.{DecodeFault}
use Rattle.pdu_reading.specs.declared.fault.DecodeFault.TheVariants.{TooShort, BadVersion, CrcPresent, LengthMismatch, UnknownDirective, FieldCut, NoFileName, NoMemory}
use Rattle.pdu_values.specs.Directive.{directive_with_code}
use Rattle.pdu_values.specs.Pdu.{PduValue}
use Rattle.pdu_values.specs.Numbers.{number_of}
use Rattle.pdu_reading.specs.Items.{◌>>=◌}
use Rattle.pdu_reading.specs.FixedHeader.{entity_octets, sequence_octets, version, is_file_data, has_crc, is_large, has_segment_metadata}
use Rattle.pdu_reading.specs.Reading.{number_at, fixed_header_at, fixed_header_fault, acknowledged_with_code, eof_at, finished_at, ack_at, metadata_at, nak_at, prompt_at, keep_alive_at, file_data_at, lacks_name, whole_body, ack_of_kind, ack_of, fields_of, directive_of, body_of, pdu_with_body, reading}
use Rattle.pdu_reading.specs.FirstFault.{ids_octets, number_fault, header_fault, acknowledges_other, has_unknown_code, is_unknown_directive, IsCut, IsUnknown, IsFirstFault}
use Rattle.pdu_values.specs.Spelling.{size_octets}
use Rattle.pdu_values.proofs.Numbers.{IsOctets}
use Rattle.pdu_laws.proofs.ReadingLaws.{spelled_is_read, read_is_spelled, nameless_is_read, read_is_nameless}
use Rattle.pdu_laws.proofs.BitLaws.{directive_code-is}
use Rattle.pdu_laws.proofs.FieldLaws.{octets_again}

-- ---- numbers at the front

number_short : (width : ℕ) (octets : List ℕ) → length octets < width → number_at width octets ≡ None
unfolding number_at
number_short width octets lt = rw (lt-ltb (length octets) width lt) refl

number_long : (width : ℕ) (octets : List ℕ) → width ≤ length octets → number_at width octets ≡ Some (number_of (take width octets), drop width octets)
unfolding number_at
number_long width octets le = rw (le-ltb (length octets) width le) refl

octet_front : (a : ℕ) (rest : List ℕ) → number_at 1 (a ∷ rest) ≡ Some (a, rest)
unfolding number_at number_of
octet_front a rest =
    let value : a * 256 ^ 0 + 0 ≡ a = omega arith in
    rw (octets_again 1 (a ∷ []) rest refl) (ap (λ (n : ℕ). some (n, rest)) value)
  where
    some : ℕ × List ℕ → Option (ℕ × List ℕ)
    some x = Some x

pair_front : (a b : ℕ) (rest : List ℕ) → number_at 2 (a ∷ b ∷ rest) ≡ Some (256 * a + b, rest)
unfolding number_at number_of
pair_front a b rest =
    let value : a * 256 ^ 1 + (b * 256 ^ 0 + 0) ≡ 256 * a + b = omega arith in
    rw (octets_again 2 (a ∷ b ∷ []) rest refl) (ap (λ (n : ℕ). some (n, rest)) value)
  where
    some : ℕ × List ℕ → Option (ℕ × List ℕ)
    some x = Some x

-- ---- the header by its places

-- the IDs and the sequence number, behind the first four octets
abbrev ids_at : ℕ → ℕ → ℕ → List ℕ → Option (FixedHeader × List ℕ)
ids_at first size lengths rest =
    number_at (entity_octets lengths) rest >>= (λ source. number_at (sequence_octets lengths) source.1 >>= (λ sequence. number_at (entity_octets lengths) sequence.1 >>= (λ destination.
    Some (record { first = first; size = size; lengths = lengths; source = source.0; sequence = sequence.0; destination = destination.0 }, destination.1))))

fixed_header_front : (first high low lengths : ℕ) (rest : List ℕ) → fixed_header_at (first ∷ high ∷ low ∷ lengths ∷ rest) ≡ ids_at first (256 * high + low) lengths rest
unfolding fixed_header_at
fixed_header_front first high low lengths rest =
    rw (octet_front first (high ∷ low ∷ lengths ∷ rest), pair_front high low (lengths ∷ rest), octet_front lengths rest) refl

ids_short : (first size lengths : ℕ) (rest : List ℕ) → length rest < ids_octets lengths → ids_at first size lengths rest ≡ None
ids_short first size lengths rest lt =
    let e = entity_octets lengths in
    let s = sequence_octets lengths in
    elim (cases_lt (length rest) e) [
      | inl no_source ↦ rw (number_short e rest no_source) refl
      | inr source ↦
          let behind : length (drop e rest) ≡ length rest - e = length-drop e rest in
          elim (cases_lt (length (drop e rest)) s) [
            | inl no_sequence ↦ rw (number_long e rest source, number_short s (drop e rest) no_sequence) refl
            | inr sequence ↦
                let no_destination : length (drop s (drop e rest)) < e = omega (arith, length-drop s (drop e rest), behind) in
                rw (number_long e rest source, number_long s (drop e rest) sequence, number_short e (drop s (drop e rest)) no_destination) refl
          ]
    ]

record IsOpened (first size lengths : ℕ) (rest : List ℕ) : Type 0 where
  pub fixed_header : FixedHeader
  pub first_is : fixed_header.first ≡ first
  pub size_is : fixed_header.size ≡ size
  pub lengths_is : fixed_header.lengths ≡ lengths
  pub opened : ids_at first size lengths rest ≡ Some (fixed_header, drop (ids_octets lengths) rest)

ids_long : (first size lengths : ℕ) (rest : List ℕ) → ids_octets lengths ≤ length rest → IsOpened first size lengths rest
ids_long first size lengths rest le =
    let e = entity_octets lengths in
    let s = sequence_octets lengths in
    let behind : length (drop e rest) ≡ length rest - e = length-drop e rest in
    let left : drop e (drop s (drop e rest)) ≡ drop (e + s + e) rest = ap (drop e) (drop-drop s e rest) ∙ drop-drop e (e + s) rest in
    record {
      fixed_header = record {
        first = first;
        size = size;
        lengths = lengths;
        source = number_of (take e rest);
        sequence = number_of (take s (drop e rest));
        destination = number_of (take e (drop s (drop e rest)));
      };
      first_is = refl;
      size_is = refl;
      lengths_is = refl;
      opened = rw (
        number_long e rest (omega (arith, le)),
        number_long s (drop e rest) (omega (arith, behind, le)),
        number_long e (drop s (drop e rest)) (omega (arith, length-drop s (drop e rest), behind, le)),
        left,
      ) refl;
    }

-- the number of octets behind the header, by that behind the first four
size_again : (lengths size behind : ℕ) → ids_octets lengths ≤ behind → (behind - ids_octets lengths == size) ≡ (behind == ids_octets lengths + size)
size_again lengths size behind le =
    elim (cases_eq behind (ids_octets lengths + size)) [
      | inl is ↦ eq-eqb (behind - ids_octets lengths) size (omega (arith, is)) ∙ sym (eq-eqb behind (ids_octets lengths + size) is)
      | inr is_not ↦ ne_eqb (behind - ids_octets lengths) size (λ is. is_not (omega (arith, is, le))) ∙ sym (ne_eqb behind (ids_octets lengths + size) is_not)
    ]

opened_fault : (first size lengths : ℕ) (rest : List ℕ) → ids_octets lengths ≤ length rest → (opened : IsOpened first size lengths rest) → fixed_header_fault opened.fixed_header (drop (ids_octets lengths) rest) ≡ number_fault first size lengths (length rest)
unfolding fixed_header_fault
opened_fault first size lengths rest le opened =
    rw (opened.first_is, opened.size_is, length-drop (ids_octets lengths) rest, size_again lengths size (length rest) le) refl

-- ---- the faults of the header

header_step : (first high low lengths : ℕ) (rest : List ℕ) (fault : DecodeFault) → (length rest < ids_octets lengths) ⊎ (ids_octets lengths ≤ length rest) → header_fault (first ∷ high ∷ low ∷ lengths ∷ rest) ≡ Some fault
    → reading (first ∷ high ∷ low ∷ lengths ∷ rest) ≡ Err fault
unfolding reading
header_step first high low lengths rest fault (inl short) e =
    let size = 256 * high + low in
    let tests : cond true (Some TooShort) (number_fault first size lengths (length rest)) ≡ Some fault = subst (λ (b : Bool). cond b (Some TooShort) (number_fault first size lengths (length rest)) ≡ Some fault) (lt-ltb (length rest) (ids_octets lengths) short) e in
    let is : TooShort ≡ fault = cc in
    rw (fixed_header_front first high low lengths rest, ids_short first size lengths rest short) (ap (λ (f : DecodeFault). err f) is)
  where
    err : DecodeFault → Result PduValue DecodeFault
    err f = Err f
header_step first high low lengths rest fault (inr long) e =
    let size = 256 * high + low in
    let opened = ids_long first size lengths rest long in
    let is : number_fault first size lengths (length rest) ≡ Some fault = subst (λ (b : Bool). cond b (Some TooShort) (number_fault first size lengths (length rest)) ≡ Some fault) (le-ltb (length rest) (ids_octets lengths) long) e in
    rw (fixed_header_front first high low lengths rest, opened.opened, opened_fault first size lengths rest long opened, is) refl

short_fixed_header : (octets : List ℕ) → length octets < 4 → fixed_header_at octets ≡ None
unfolding fixed_header_at number_at number_of
short_fixed_header [] lt = refl
short_fixed_header (a ∷ []) lt = refl
short_fixed_header (a ∷ b ∷ []) lt = refl
short_fixed_header (a ∷ b ∷ c ∷ []) lt = refl
short_fixed_header (a ∷ b ∷ c ∷ d ∷ rest) lt = absurd (omega arith)

short_read : (octets : List ℕ) (fault : DecodeFault) → length octets < 4 → header_fault [] ≡ Some fault → reading octets ≡ Err fault
unfolding reading
short_read octets fault lt e =
    let is : TooShort ≡ fault = cc in
    rw (short_fixed_header octets lt) (ap (λ (f : DecodeFault). err f) is)
  where
    err : DecodeFault → Result PduValue DecodeFault
    err f = Err f

-- what is wrong with the header is the fault that is read
pub header_fault_is_read : (octets : List ℕ) (fault : DecodeFault) → header_fault octets ≡ Some fault → reading octets ≡ Err fault
header_fault_is_read [] fault e = short_read [] fault (omega arith) e
header_fault_is_read (a ∷ []) fault e = short_read (a ∷ []) fault (omega arith) e
header_fault_is_read (a ∷ b ∷ []) fault e = short_read (a ∷ b ∷ []) fault (omega arith) e
header_fault_is_read (a ∷ b ∷ c ∷ []) fault e = short_read (a ∷ b ∷ c ∷ []) fault (omega arith) e
header_fault_is_read (first ∷ high ∷ low ∷ lengths ∷ rest) fault e = header_step first high low lengths rest fault (cases_lt (length rest) (ids_octets lengths)) e

-- ---- the faults of the data field

-- a sound header: what is read is the data field's
record IsSound (first high low lengths : ℕ) (rest : List ℕ) : Type 0 where
  pub fixed_header : FixedHeader
  pub first_is : fixed_header.first ≡ first
  pub read_so : reading (first ∷ high ∷ low ∷ lengths ∷ rest) ≡ pdu_with_body fixed_header (body_of fixed_header (drop (ids_octets lengths) rest))

sound_step : (first high low lengths : ℕ) (rest : List ℕ) → (length rest < ids_octets lengths) ⊎ (ids_octets lengths ≤ length rest) → header_fault (first ∷ high ∷ low ∷ lengths ∷ rest) ≡ None → IsSound first high low lengths rest
unfolding reading
sound_step first high low lengths rest (inl short) e =
    let size = 256 * high + low in
    let tests : cond true (Some TooShort) (number_fault first size lengths (length rest)) ≡ None = subst (λ (b : Bool). cond b (Some TooShort) (number_fault first size lengths (length rest)) ≡ None) (lt-ltb (length rest) (ids_octets lengths) short) e in
    absurd cc
sound_step first high low lengths rest (inr long) e =
    let size = 256 * high + low in
    let opened = ids_long first size lengths rest long in
    let is : number_fault first size lengths (length rest) ≡ None = subst (λ (b : Bool). cond b (Some TooShort) (number_fault first size lengths (length rest)) ≡ None) (le-ltb (length rest) (ids_octets lengths) long) e in
    record {
      fixed_header = opened.fixed_header;
      first_is = opened.first_is;
      read_so = rw (fixed_header_front first high low lengths rest, opened.opened, opened_fault first size lengths rest long opened, is) refl;
    }

sound : (first high low lengths : ℕ) (rest : List ℕ) → header_fault (first ∷ high ∷ low ∷ lengths ∷ rest) ≡ None → IsSound first high low lengths rest
sound first high low lengths rest e = sound_step first high low lengths rest (cases_lt (length rest) (ids_octets lengths)) e

-- ---- a code without a meaning

none_is : {A : Type 0} (o : Option A) → is_none o ≡ true → o ≡ None
none_is None e = refl
none_is (Some x) e = absurd cc

unknown_ack : (fields : List ℕ) → acknowledges_other fields ≡ true → ack_of (number_at 1 fields) ≡ Err UnknownDirective
unknown_ack [] e = absurd cc
unknown_ack (first ∷ more) e = rw (octet_front first more, none_is (acknowledged_with_code (first / 16)) e) refl

unknown_fields : (code : ℕ) (fields : List ℕ) (kind : Option Directive) → directive_with_code code ≡ kind → (is_none kind || ((code == 6) && acknowledges_other fields)) ≡ true → (width : ℕ) → fields_of width kind fields ≡ Err UnknownDirective
unknown_fields code fields None kind_is e width = refl
unknown_fields code fields (Some d) kind_is e width =
    let both = and_parts (code == 6) (acknowledges_other fields) e in
    let code_is : code ≡ 6 = eqb-true code 6 both.0 in
    let ack_is : found_ack ≡ Some d = sym (ap directive_with_code code_is) ∙ kind_is in
    subst (λ (k : Option Directive). fields_of width k fields ≡ Err UnknownDirective) ack_is (unknown_ack fields both.1)
  where
    found_ack : Option Directive
    found_ack = Some directives.Ack

unknown_code : (width : ℕ) (field : List ℕ) → has_unknown_code field ≡ true → directive_of width (number_at 1 field) ≡ Err UnknownDirective
unknown_code width [] e = absurd cc
unknown_code width (code ∷ fields) e = rw (octet_front code fields) (unknown_fields code fields (directive_with_code code) refl e width)

unknown_body : (o : FixedHeader) (field : List ℕ) → is_file_data o.first ≡ false → has_unknown_code field ≡ true → body_of o field ≡ Err UnknownDirective
unfolding body_of
unknown_body o field directive unknown = rw directive (unknown_code (size_octets (is_large o.first)) field unknown)

not-true-is : (b : Bool) → not b ≡ true → b ≡ false
not-true-is true e = absurd cc
not-true-is false e = refl

-- a directive with a code without a meaning is read as that
pub unknown_is_read : (octets : List ℕ) → header_fault octets ≡ None → is_unknown_directive octets ≡ true → reading octets ≡ Err UnknownDirective
unknown_is_read [] none e = absurd cc
unknown_is_read (a ∷ []) none e = absurd cc
unknown_is_read (a ∷ b ∷ []) none e = absurd cc
unknown_is_read (a ∷ b ∷ c ∷ []) none e = absurd cc
unknown_is_read (first ∷ high ∷ low ∷ lengths ∷ rest) none e =
    let s = sound first high low lengths rest none in
    let field = drop (ids_octets lengths) rest in
    let both = and_parts (not (is_file_data first)) (has_unknown_code field) e in
    let directive : is_file_data s.fixed_header.first ≡ false = ap is_file_data s.first_is ∙ not-true-is (is_file_data first) both.0 in
    s.read_so ∙ rw (unknown_body s.fixed_header field directive both.1) refl

-- ---- what is left

abbrev IsLate : DecodeFault → Type 0
IsLate fault = (fault ≡ FieldCut) ⊎ (fault ≡ NoFileName)

late_step : (b : Bool) (body : Body) (fault : DecodeFault) → cond b (Err NoFileName) (Ok body) ≡ Err fault → IsLate fault
late_step true body fault e = inr cc
late_step false body fault e = absurd cc

late_whole : (found : Option Body) (fault : DecodeFault) → whole_body found ≡ Err fault → IsLate fault
late_whole None fault e = inl cc
late_whole (Some body) fault e = late_step (lacks_name body) body fault e

late_kind : (kind : Option Acknowledged) (octets : List ℕ) (fault : DecodeFault) → is_none kind ≡ false → ack_of_kind kind octets ≡ Err fault → IsLate fault
late_kind None octets fault known e = absurd cc
late_kind (Some of) octets fault known e = late_whole (ack_at of octets) fault e

late_ack : (fields : List ℕ) (fault : DecodeFault) → acknowledges_other fields ≡ false → ack_of (number_at 1 fields) ≡ Err fault → IsLate fault
unfolding number_at
late_ack [] fault known e = inl cc
late_ack (first ∷ more) fault known e =
    let fields_fault : ack_of_kind (acknowledged_with_code (first / 16)) more ≡ Err fault = sym (ap ack_of (octet_front first more)) ∙ e in
    late_kind (acknowledged_with_code (first / 16)) more fault known fields_fault

late_fields : (width code : ℕ) (fields : List ℕ) (kind : Option Directive) (fault : DecodeFault) → directive_with_code code ≡ kind → (is_none kind || ((code == 6) && acknowledges_other fields)) ≡ false → fields_of width kind fields ≡ Err fault → IsLate fault
late_fields width code fields None fault kind_is known e = absurd cc
late_fields width code fields (Some directives.Eof) fault kind_is known e = late_whole (eof_at width fields) fault e
late_fields width code fields (Some directives.Finished) fault kind_is known e = late_whole (finished_at fields) fault e
late_fields width code fields (Some directives.Ack) fault kind_is known e =
    let code_is : code ≡ 6 = directive_code-is code directives.Ack kind_is in
    let is_ack : (code == 6) ≡ true = eq-eqb code 6 code_is in
    let other : acknowledges_other fields ≡ false = subst (λ (b : Bool). (b && acknowledges_other fields) ≡ false) is_ack known in
    late_ack fields fault other e
late_fields width code fields (Some directives.Metadata) fault kind_is known e = late_whole (metadata_at width fields) fault e
late_fields width code fields (Some directives.Nak) fault kind_is known e = late_whole (nak_at width fields) fault e
late_fields width code fields (Some directives.Prompt) fault kind_is known e = late_whole (prompt_at fields) fault e
late_fields width code fields (Some directives.KeepAlive) fault kind_is known e = late_whole (keep_alive_at width fields) fault e

late_code : (width : ℕ) (field : List ℕ) (fault : DecodeFault) → has_unknown_code field ≡ false → directive_of width (number_at 1 field) ≡ Err fault → IsLate fault
unfolding number_at
late_code width [] fault known e = inl cc
late_code width (code ∷ fields) fault known e =
    let fields_fault : fields_of width (directive_with_code code) fields ≡ Err fault = sym (ap (directive_of width) (octet_front code fields)) ∙ e in
    late_fields width code fields (directive_with_code code) fault refl known fields_fault

late_body : (o : FixedHeader) (field : List ℕ) (fault : DecodeFault) (b : Bool) → is_file_data o.first ≡ b → (not b && has_unknown_code field) ≡ false → body_of o field ≡ Err fault → IsLate fault
unfolding body_of
late_body o field fault true is known e =
    let found = file_data_at (size_octets (is_large o.first)) (has_segment_metadata o.lengths) field in
    let whole : whole_body found ≡ Err fault = subst (λ (b : Bool). cond b (whole_body found) (directive_of (size_octets (is_large o.first)) (number_at 1 field)) ≡ Err fault) is e in
    late_whole found fault whole
late_body o field fault false is known e =
    let found = file_data_at (size_octets (is_large o.first)) (has_segment_metadata o.lengths) field in
    let directive : directive_of (size_octets (is_large o.first)) (number_at 1 field) ≡ Err fault = subst (λ (b : Bool). cond b (whole_body found) (directive_of (size_octets (is_large o.first)) (number_at 1 field)) ≡ Err fault) is e in
    late_code (size_octets (is_large o.first)) field fault known directive

late_pdu : (o : FixedHeader) (r : Result Body DecodeFault) (fault : DecodeFault) → pdu_with_body o r ≡ Err fault → r ≡ Err fault
late_pdu o (Ok body) fault e = absurd cc
late_pdu o (Err other) fault e = let same : other ≡ fault = cc in cc

-- with a sound header and a code that has a meaning, the fault is one of a field or of a name
pub later_fault_is_read : (octets : List ℕ) (fault : DecodeFault) → header_fault octets ≡ None → is_unknown_directive octets ≡ false → reading octets ≡ Err fault → (fault ≡ FieldCut) ⊎ (fault ≡ NoFileName)
later_fault_is_read [] fault none known e = absurd cc
later_fault_is_read (a ∷ []) fault none known e = absurd cc
later_fault_is_read (a ∷ b ∷ []) fault none known e = absurd cc
later_fault_is_read (a ∷ b ∷ c ∷ []) fault none known e = absurd cc
later_fault_is_read (first ∷ high ∷ low ∷ lengths ∷ rest) fault none known e =
    let s = sound first high low lengths rest none in
    let field = drop (ids_octets lengths) rest in
    let body_fault = late_pdu s.fixed_header (body_of s.fixed_header field) fault (sym s.read_so ∙ e) in
    late_body s.fixed_header field fault (is_file_data first) (ap is_file_data s.first_is) known body_fault

-- ---- the first fault, whole

-- the faults that a header can have
abbrev IsEarly : DecodeFault → Type 0
IsEarly TooShort = Unit {0}
IsEarly BadVersion = Unit {0}
IsEarly CrcPresent = Unit {0}
IsEarly LengthMismatch = Unit {0}
IsEarly UnknownDirective = ⊥
IsEarly FieldCut = ⊥
IsEarly NoFileName = ⊥
IsEarly NoMemory = ⊥

early_number : (a b d : Bool) (fault : DecodeFault) → cond a (Some BadVersion) (cond b (Some CrcPresent) (cond d (Some LengthMismatch) None)) ≡ Some fault → IsEarly fault
early_number true b d fault e = let same : BadVersion ≡ fault = cc in subst IsEarly same tt
early_number false true d fault e = let same : CrcPresent ≡ fault = cc in subst IsEarly same tt
early_number false false true fault e = let same : LengthMismatch ≡ fault = cc in subst IsEarly same tt
early_number false false false fault e = absurd cc

early_short : (fault : DecodeFault) → header_fault [] ≡ Some fault → IsEarly fault
early_short fault e = let same : TooShort ≡ fault = cc in subst IsEarly same tt

early_step : (b : Bool) (first size lengths behind : ℕ) (fault : DecodeFault) → cond b (Some TooShort) (number_fault first size lengths behind) ≡ Some fault → IsEarly fault
early_step true first size lengths behind fault e = early_short fault e
early_step false first size lengths behind fault e = early_number (not (version first == 1)) (has_crc first) (not (behind == ids_octets lengths + size)) fault e

early : (octets : List ℕ) (fault : DecodeFault) → header_fault octets ≡ Some fault → IsEarly fault
early [] fault e = early_short fault e
early (a ∷ []) fault e = early_short fault e
early (a ∷ b ∷ []) fault e = early_short fault e
early (a ∷ b ∷ c ∷ []) fault e = early_short fault e
early (first ∷ high ∷ low ∷ lengths ∷ rest) fault e = early_step (ltb (length rest) (ids_octets lengths)) first (256 * high + low) lengths (length rest) fault e

early_is_first : (octets : List ℕ) (fault : DecodeFault) → IsEarly fault → header_fault octets ≡ Some fault → IsFirstFault octets fault
early_is_first octets TooShort is e = e
early_is_first octets BadVersion is e = e
early_is_first octets CrcPresent is e = e
early_is_first octets LengthMismatch is e = e
early_is_first octets UnknownDirective is e = absurd is
early_is_first octets FieldCut is e = absurd is
early_is_first octets NoFileName is e = absurd is
early_is_first octets NoMemory is e = absurd is

abbrev err : DecodeFault → Result PduValue DecodeFault
err fault = Err fault

err_is : (a b : DecodeFault) → err a ≡ err b → a ≡ b
err_is a b e = cc

abbrev ok : PduValue → Result PduValue DecodeFault
ok pdu = Ok pdu

cut_is : (octets : List ℕ) → header_fault octets ≡ None → is_unknown_directive octets ≡ false → reading octets ≡ Err FieldCut → IsCut octets
cut_is octets none known e = record {
  header = none;
  known = known;
  no_pdu = λ pdu spells. not_ok pdu FieldCut (sym (spelled_is_read octets pdu spells) ∙ e);
  not_nameless = λ nameless. not_cut (sym (nameless_is_read octets nameless) ∙ e);
}
  where
    not_ok : (pdu : PduValue) (fault : DecodeFault) → ok pdu ≡ err fault → ⊥
    not_ok pdu fault e = absurd cc

    not_cut : err NoFileName ≡ err FieldCut → ⊥
    not_cut e = absurd cc

late_is_first : (octets : List ℕ) (fault : DecodeFault) → IsOctets octets → header_fault octets ≡ None → is_unknown_directive octets ≡ false → reading octets ≡ Err fault → IsLate fault → IsFirstFault octets fault
late_is_first octets fault h none known e (inl cut) = subst (IsFirstFault octets) (sym cut) (cut_is octets none known (e ∙ ap err cut))
late_is_first octets fault h none known e (inr nameless) = subst (IsFirstFault octets) (sym nameless) (read_is_nameless octets h (e ∙ ap err nameless))

directive_is_first : (octets : List ℕ) (fault : DecodeFault) (b : Bool) → IsOctets octets → header_fault octets ≡ None → is_unknown_directive octets ≡ b → reading octets ≡ Err fault → IsFirstFault octets fault
directive_is_first octets fault true h none is e =
    let same : UnknownDirective ≡ fault = err_is UnknownDirective fault (sym (unknown_is_read octets none is) ∙ e) in
    let unknown : IsUnknown octets = record { header = none; unknown = is } in
    subst (IsFirstFault octets) same unknown
directive_is_first octets fault false h none is e = late_is_first octets fault h none is e (later_fault_is_read octets fault none is e)

fault_is_first : (octets : List ℕ) (fault : DecodeFault) (found : Option DecodeFault) → IsOctets octets → header_fault octets ≡ found → reading octets ≡ Err fault → IsFirstFault octets fault
fault_is_first octets fault None h found_is e = directive_is_first octets fault (is_unknown_directive octets) h found_is refl e
fault_is_first octets fault (Some f) h found_is e =
    let same : f ≡ fault = err_is f fault (sym (header_fault_is_read octets f found_is) ∙ e) in
    subst (IsFirstFault octets) same (early_is_first octets f (early octets f found_is) found_is)

-- a fault that is read is the first one
pub read_fault_is_first : (octets : List ℕ) (fault : DecodeFault) → IsOctets octets → reading octets ≡ Err fault → IsFirstFault octets fault
read_fault_is_first octets fault h e = fault_is_first octets fault (header_fault octets) h refl e

cut_is_read : (octets : List ℕ) (result : Result PduValue DecodeFault) → IsOctets octets → IsCut octets → reading octets ≡ result → result ≡ Err FieldCut
cut_is_read octets (Ok pdu) h cut e = absurd (cut.no_pdu pdu (read_is_spelled octets pdu h e))
cut_is_read octets (Err fault) h cut e =
    elim (later_fault_is_read octets fault cut.header cut.known e) [
      | inl is ↦ ap err is
      | inr nameless ↦ absurd (cut.not_nameless (read_is_nameless octets h (e ∙ ap err nameless)))
    ]

-- the first fault is read
pub first_fault_is_read : (octets : List ℕ) (fault : DecodeFault) → IsOctets octets → IsFirstFault octets fault → reading octets ≡ Err fault
first_fault_is_read octets TooShort h is = header_fault_is_read octets TooShort is
first_fault_is_read octets BadVersion h is = header_fault_is_read octets BadVersion is
first_fault_is_read octets CrcPresent h is = header_fault_is_read octets CrcPresent is
first_fault_is_read octets LengthMismatch h is = header_fault_is_read octets LengthMismatch is
first_fault_is_read octets UnknownDirective h is = unknown_is_read octets is.header is.unknown
first_fault_is_read octets FieldCut h is = cut_is_read octets (reading octets) h is refl
first_fault_is_read octets NoFileName h is = nameless_is_read octets is
first_fault_is_read octets NoMemory h is = absurd is
