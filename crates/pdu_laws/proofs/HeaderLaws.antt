-- The fixed header: its numbers as they stand there, and what they mean.
use Rattle.std.proofs.Common.{◌≡◌, ℕ, ◌+◌, ◌-◌, ◌*◌, ◌/◌, ◌%◌, ◌^◌, ◌<◌, Bool, true, false, cond, eqb, not, List, ◌++◌, length, Option, Some, None, refl, sym, ap, subst, ◌∙◌, append_assoc, arith, inl, inr, ◌==◌}
use Rattle.std.proofs.lemmas.Bool.{eqb-true, eqb-false, eq-eqb, ne_eqb, cases_eq}
use Rattle.cfdp_types.specs.declared.names.Class.{Class}
use Rattle.cfdp_types.specs.declared.names.Class.TheVariants.{One, Two}
use Rattle.pdu_values.specs.declared.pdu.Direction.{Direction}
use Rattle.pdu_values.specs.declared.pdu.Direction.TheVariants.{TowardReceiver, TowardSender}
use Rattle.pdu_values.specs.declared.pdu.Body.{Body}
use Rattle.pdu_values.specs.declared.pdu.Body.TheVariants as bodies
use Rattle.pdu_reading.specs.declared.fault.DecodeFault.TheVariants.{BadVersion, CrcPresent, LengthMismatch}
use Rattle.pdu_reading.specs.declared.fixed_header.FixedHeader.{FixedHeader}
use Rattle.pdu_values.specs.Numbers.{digits}
use Rattle.pdu_values.specs.Pdu.{PduValue}
use Rattle.pdu_values.specs.Spelling.{Choice, size_octets, bit, data_field, first_octet, lengths_octet, spelling, IsIdLength, HeaderFits, IsChoice, type_bit, direction_bit, mode_bit}
use Rattle.pdu_reading.specs.FixedHeader.{entity_octets, sequence_octets, has_segment_metadata, version, has_crc, is_large, direction_of, class_of, header_of}
use Rattle.pdu_reading.specs.Reading.{fixed_header_at, fixed_header_fault}
use Rattle.pdu_values.proofs.Numbers.{IsOctets}
use Rattle.pdu_laws.proofs.BitLaws.{bit-eqb, bit-below}
use Rattle.pdu_laws.proofs.FieldLaws.{some_is, Takes, Takes-then, number_then, number_again}

-- ---- the numbers as they stand there

-- the octets of the numbers
abbrev pub fixed_header_text : FixedHeader → List ℕ
fixed_header_text o =
    digits 1 o.first ++ (digits 2 o.size ++ (digits 1 o.lengths
    ++ (digits (entity_octets o.lengths) o.source ++ (digits (sequence_octets o.lengths) o.sequence ++ digits (entity_octets o.lengths) o.destination))))

pub record FixedHeaderFits (o : FixedHeader) : Type 0 where
  pub first : o.first < 256
  pub size : o.size < 2 ^ 16
  pub lengths : o.lengths < 256
  pub source : o.source < 256 ^ entity_octets o.lengths
  pub sequence : o.sequence < 256 ^ sequence_octets o.lengths
  pub destination : o.destination < 256 ^ entity_octets o.lengths

pub record TakesFixedHeader (octets : List ℕ) (o : FixedHeader) (rest : List ℕ) : Type 0 where
  pub takes : Takes octets (fixed_header_text o) rest
  pub fits : FixedHeaderFits o

pub fixed_header_takes : (octets : List ℕ) (x : FixedHeader × List ℕ) → IsOctets octets → fixed_header_at octets ≡ Some x → TakesFixedHeader octets x.0 x.1
unfolding fixed_header_at
fixed_header_takes octets x h e =
    let first = number_then 1 octets x h e in
    let size = number_then 2 first.rest x first.takes.rest_octets first.goes_on in
    let lengths = number_then 1 size.rest x size.takes.rest_octets size.goes_on in
    let source = number_then (entity_octets lengths.value) lengths.rest x lengths.takes.rest_octets lengths.goes_on in
    let sequence = number_then (sequence_octets lengths.value) source.rest x source.takes.rest_octets source.goes_on in
    let destination = number_then (entity_octets lengths.value) sequence.rest x sequence.takes.rest_octets sequence.goes_on in
    let fixed_header : FixedHeader = record {
      first = first.value;
      size = size.value;
      lengths = lengths.value;
      source = source.value;
      sequence = sequence.value;
      destination = destination.value;
    } in
    let made : TakesFixedHeader octets fixed_header destination.rest = record {
      takes = Takes-then first.takes (Takes-then size.takes (Takes-then lengths.takes (Takes-then source.takes (Takes-then sequence.takes destination.takes))));
      fits = record {
        first = first.fits;
        size = size.fits;
        lengths = lengths.fits;
        source = source.fits;
        sequence = sequence.fits;
        destination = destination.fits;
      };
    } in
    subst (λ (y : FixedHeader × List ℕ). TakesFixedHeader octets y.0 y.1) {x = (fixed_header, destination.rest)} (some_is (fixed_header, destination.rest) x destination.goes_on) made

pub fixed_header_again : (o : FixedHeader) (rest : List ℕ) → FixedHeaderFits o → fixed_header_at (fixed_header_text o ++ rest) ≡ Some (o, rest)
unfolding fixed_header_at
fixed_header_again o rest fits =
    let entity = entity_octets o.lengths in
    let sequence = sequence_octets o.lengths in
    let last : List ℕ = digits entity o.destination ++ rest in
    let regrouped : fixed_header_text o ++ rest ≡ digits 1 o.first ++ (digits 2 o.size ++ (digits 1 o.lengths ++ (digits entity o.source ++ (digits sequence o.sequence ++ last)))) = simp append_assoc in
    ap fixed_header_at regrouped
    ∙ rw (
      number_again 1 o.first (digits 2 o.size ++ (digits 1 o.lengths ++ (digits entity o.source ++ (digits sequence o.sequence ++ last)))) fits.first,
      number_again 2 o.size (digits 1 o.lengths ++ (digits entity o.source ++ (digits sequence o.sequence ++ last))) fits.size,
      number_again 1 o.lengths (digits entity o.source ++ (digits sequence o.sequence ++ last)) fits.lengths,
      number_again entity o.source (digits sequence o.sequence ++ last) fits.source,
      number_again sequence o.sequence last fits.sequence,
      number_again entity o.destination rest fits.destination,
    ) refl

-- ---- what the numbers mean

-- the numbers that a PDU is spelled with
abbrev pub fixed_header_of : Choice → PduValue → FixedHeader
fixed_header_of choice pdu = record {
  first = first_octet pdu;
  size = length (data_field (size_octets pdu.header.large) choice pdu.body);
  lengths = lengths_octet choice pdu.header;
  source = pdu.header.source.0;
  sequence = pdu.header.sequence;
  destination = pdu.header.destination.0;
}

type_bit-below : (body : Body) → type_bit body < 2
type_bit-below (bodies.Eof e) = omega arith
type_bit-below (bodies.Finished f) = omega arith
type_bit-below (bodies.Ack a) = omega arith
type_bit-below (bodies.Metadata m) = omega arith
type_bit-below (bodies.Nak n) = omega arith
type_bit-below (bodies.Prompt p) = omega arith
type_bit-below (bodies.KeepAlive k) = omega arith
type_bit-below (bodies.FileData f) = omega arith

direction_bit-below : (d : Direction) → direction_bit d < 2
direction_bit-below TowardReceiver = omega arith
direction_bit-below TowardSender = omega arith

mode_bit-below : (class : Class) → mode_bit class < 2
mode_bit-below Two = omega arith
mode_bit-below One = omega arith

-- the four fields of a spelled first octet
direction_again : (t m l : ℕ) (d : Direction) → t < 2 → m < 2 → l < 2 → direction_of (32 + 16 * t + 8 * direction_bit d + 4 * m + l) ≡ d
direction_again t m l TowardReceiver lt lm ll = rw (eq-eqb ((32 + 16 * t + 8 * 0 + 4 * m + l) / 8 % 2) 0 (omega arith)) refl
direction_again t m l TowardSender lt lm ll = rw (ne_eqb ((32 + 16 * t + 8 * 1 + 4 * m + l) / 8 % 2) 0 (λ e. omega arith)) refl

class_again : (t d l : ℕ) (class : Class) → t < 2 → d < 2 → l < 2 → class_of (32 + 16 * t + 8 * d + 4 * mode_bit class + l) ≡ class
class_again t d l Two lt ld ll = rw (eq-eqb ((32 + 16 * t + 8 * d + 4 * 0 + l) / 4 % 2) 0 (omega arith)) refl
class_again t d l One lt ld ll = rw (ne_eqb ((32 + 16 * t + 8 * d + 4 * 1 + l) / 4 % 2) 0 (λ e. omega arith)) refl

large_again : (t d m : ℕ) (large : Bool) → is_large (32 + 16 * t + 8 * d + 4 * m + bit large) ≡ large
large_again t d m true = eq-eqb ((32 + 16 * t + 8 * d + 4 * m + 1) % 2) 1 (omega arith)
large_again t d m false = ne_eqb ((32 + 16 * t + 8 * d + 4 * m + 0) % 2) 1 (λ e. omega arith)

pub flag_of_first : (pdu : PduValue) → is_large (first_octet pdu) ≡ pdu.header.large
flag_of_first pdu = large_again (type_bit pdu.body) (direction_bit pdu.header.direction) (mode_bit pdu.header.class) pdu.header.large

pub kind_again : (pdu : PduValue) → first_octet pdu / 16 % 2 ≡ type_bit pdu.body
kind_again pdu = omega (arith, type_bit-below pdu.body, direction_bit-below pdu.header.direction, mode_bit-below pdu.header.class, bit-below pdu.header.large)

-- the three fields of a spelled octet of lengths
pub record LengthsAgain (control entity : ℕ) (flag : Bool) (sequence : ℕ) : Type 0 where
  pub entity_again : entity_octets (128 * control + 16 * (entity - 1) + 8 * bit flag + (sequence - 1)) ≡ entity
  pub sequence_again : sequence_octets (128 * control + 16 * (entity - 1) + 8 * bit flag + (sequence - 1)) ≡ sequence
  pub flag_again : has_segment_metadata (128 * control + 16 * (entity - 1) + 8 * bit flag + (sequence - 1)) ≡ flag
  pub small : 128 * control + 16 * (entity - 1) + 8 * bit flag + (sequence - 1) < 256

flag_again : (control entity : ℕ) (flag : Bool) (sequence : ℕ) → control < 2 → IsIdLength entity → IsIdLength sequence → has_segment_metadata (128 * control + 16 * (entity - 1) + 8 * bit flag + (sequence - 1)) ≡ flag
flag_again control entity true sequence lt e s = eq-eqb ((128 * control + 16 * (entity - 1) + 8 * 1 + (sequence - 1)) / 8 % 2) 1 (omega arith)
flag_again control entity false sequence lt e s = ne_eqb ((128 * control + 16 * (entity - 1) + 8 * 0 + (sequence - 1)) / 8 % 2) 1 (λ is. omega arith)

lengths_again : (control entity : ℕ) (flag : Bool) (sequence : ℕ) → control < 2 → IsIdLength entity → IsIdLength sequence → LengthsAgain control entity flag sequence
lengths_again control entity flag sequence lt e s = record {
  entity_again = omega (arith, bit-below flag);
  sequence_again = omega (arith, bit-below flag);
  flag_again = flag_again control entity flag sequence lt e s;
  small = omega (arith, bit-below flag);
}

pub lengths_of : (choice : Choice) (pdu : PduValue) → HeaderFits pdu.header → IsChoice choice pdu → LengthsAgain choice.control pdu.header.entity_octets choice.flag pdu.header.sequence_octets
lengths_of choice pdu fits is_choice = lengths_again choice.control pdu.header.entity_octets choice.flag pdu.header.sequence_octets is_choice.control fits.entity_octets fits.sequence_octets

pub FixedHeaderFits-fixed_header_of : (choice : Choice) (pdu : PduValue) → HeaderFits pdu.header → IsChoice choice pdu → FixedHeaderFits (fixed_header_of choice pdu)
FixedHeaderFits-fixed_header_of choice pdu fits is_choice =
    let again = lengths_of choice pdu fits is_choice in
    record {
      first = omega (arith, type_bit-below pdu.body, direction_bit-below pdu.header.direction, mode_bit-below pdu.header.class, bit-below pdu.header.large);
      size = is_choice.data_field;
      lengths = again.small;
      source = subst (λ (k : ℕ). pdu.header.source.0 < 256 ^ k) (sym again.entity_again) fits.source;
      sequence = subst (λ (k : ℕ). pdu.header.sequence < 256 ^ k) (sym again.sequence_again) fits.sequence;
      destination = subst (λ (k : ℕ). pdu.header.destination.0 < 256 ^ k) (sym again.entity_again) fits.destination;
    }

pub spelling-is : (choice : Choice) (pdu : PduValue) → HeaderFits pdu.header → IsChoice choice pdu → spelling choice pdu ≡ fixed_header_text (fixed_header_of choice pdu) ++ data_field (size_octets pdu.header.large) choice pdu.body
unfolding spelling
spelling-is choice pdu fits is_choice =
    let again = lengths_of choice pdu fits is_choice in
    rw (again.entity_again, again.sequence_again) refl

pub header_again : (choice : Choice) (pdu : PduValue) → HeaderFits pdu.header → IsChoice choice pdu → header_of (fixed_header_of choice pdu) ≡ pdu.header
unfolding header_of
header_again choice pdu fits is_choice =
    let again = lengths_of choice pdu fits is_choice in
    let t = type_bit pdu.body in
    rw (
      direction_again t (mode_bit pdu.header.class) (bit pdu.header.large) pdu.header.direction (type_bit-below pdu.body) (mode_bit-below pdu.header.class) (bit-below pdu.header.large),
      class_again t (direction_bit pdu.header.direction) (bit pdu.header.large) pdu.header.class (type_bit-below pdu.body) (direction_bit-below pdu.header.direction) (bit-below pdu.header.large),
      flag_of_first pdu,
      again.entity_again,
      again.sequence_again,
    ) refl

pub no_fault_again : (choice : Choice) (pdu : PduValue) → fixed_header_fault (fixed_header_of choice pdu) (data_field (size_octets pdu.header.large) choice pdu.body) ≡ None
unfolding fixed_header_fault
no_fault_again choice pdu =
    let t = type_bit-below pdu.body in
    let d = direction_bit-below pdu.header.direction in
    let m = mode_bit-below pdu.header.class in
    let l = bit-below pdu.header.large in
    let size = length (data_field (size_octets pdu.header.large) choice pdu.body) in
    rw (eq-eqb (first_octet pdu / 32) 1 (omega arith), ne_eqb (first_octet pdu / 2 % 2) 1 (λ e. omega arith), eq-eqb size size refl) refl

-- ---- the other way

not-false : (b : Bool) → not b ≡ false → b ≡ true
not-false true e = refl
not-false false e = absurd cc

none_then : {A : Type 0} (b : Bool) (x : A) (o : Option A) → cond b (Some x) o ≡ None → (b ≡ false) × (o ≡ None)
none_then true x o e = absurd cc
none_then false x o e = (refl, e)

-- what holds where there is no fault
pub record HasNoFault (o : FixedHeader) (field : List ℕ) : Type 0 where
  pub version_is : o.first / 32 ≡ 1
  pub no_crc : o.first / 2 % 2 ≡ 0
  pub size_is : length field ≡ o.size

bit_zero : (n : ℕ) → eqb (n % 2) 1 ≡ false → n % 2 ≡ 0
bit_zero n e = omega (arith, eqb-false (n % 2) 1 e)

pub HasNoFault-from_none : (o : FixedHeader) (field : List ℕ) → fixed_header_fault o field ≡ None → HasNoFault o field
unfolding fixed_header_fault
HasNoFault-from_none o field e =
    let a = none_then (not (version o.first == 1)) BadVersion (cond (has_crc o.first) (Some CrcPresent) (cond (not (length field == o.size)) (Some LengthMismatch) None)) e in
    let b = none_then (has_crc o.first) CrcPresent (cond (not (length field == o.size)) (Some LengthMismatch) None) a.1 in
    let d = none_then (not (length field == o.size)) LengthMismatch None b.1 in
    record {
      version_is = eqb-true (version o.first) 1 (not-false (version o.first == 1) a.0);
      no_crc = bit_zero (o.first / 2) b.0;
      size_is = eqb-true (length field) o.size (not-false (length field == o.size) d.0);
    }

direction_bit-direction_of : (first : ℕ) → direction_bit (direction_of first) ≡ first / 8 % 2
direction_bit-direction_of first =
    elim (cases_eq (first / 8 % 2) 0) [
      | inl is ↦ rw (eq-eqb (first / 8 % 2) 0 is) (sym is)
      | inr not_so ↦ rw (ne_eqb (first / 8 % 2) 0 not_so) (omega arith)
    ]

mode_bit-class_of : (first : ℕ) → mode_bit (class_of first) ≡ first / 4 % 2
mode_bit-class_of first =
    elim (cases_eq (first / 4 % 2) 0) [
      | inl is ↦ rw (eq-eqb (first / 4 % 2) 0 is) (sym is)
      | inr not_so ↦ rw (ne_eqb (first / 4 % 2) 0 not_so) (omega arith)
    ]

pub first_octet-is : (o : FixedHeader) (field : List ℕ) (body : Body) → HasNoFault o field → type_bit body ≡ o.first / 16 % 2 → first_octet (record { header = header_of o; body = body }) ≡ o.first
unfolding header_of
first_octet-is o field body sound kind =
    omega (arith, kind, sound.version_is, sound.no_crc, bit-eqb (o.first % 2) (omega arith), direction_bit-direction_of o.first, mode_bit-class_of o.first)

pub lengths_octet-is : (o : FixedHeader) (choice : Choice) → choice.control ≡ o.lengths / 128 → choice.flag ≡ has_segment_metadata o.lengths → lengths_octet choice (header_of o) ≡ o.lengths
unfolding header_of
lengths_octet-is o choice control flag =
    let flag_bit : bit choice.flag ≡ o.lengths / 8 % 2 = ap bit flag ∙ bit-eqb (o.lengths / 8 % 2) (omega arith) in
    omega (arith, control, flag_bit)
