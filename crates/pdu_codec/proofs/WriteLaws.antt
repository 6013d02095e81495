-- Octets written one behind the other.
use Rattle.std.proofs.Common.{◌≡◌, ℕ, zero, suc, ◌+◌, ◌-◌, ◌*◌, ◌^◌, ◌/◌, ◌%◌, ◌<◌, ◌≤◌, List, [], ◌∷◌, ◌++◌, length, take, drop, map, zero-add, Option, Some, refl, ap, sym, subst, ◌∙◌, append_assoc, append-nil, mod-lt, arith}
use Rattle.std.proofs.Math.Arith.{mod-mul}
use Rattle.std.proofs.Math.Nat.{pow-suc, mod-eq_of_lt}
use Rattle.std.proofs.lemmas.List.{length-append, take_all}
use Rattle.std.specs.Int.{w64, byte_at, bytes_high_first, to_be_bytes}
use Rattle.std.specs.Prelude.{Vec, vec_len, vec_capacity}
use Rattle.std.specs.List.{flat_map}
use Rattle.cfdp_types.specs.declared.key.EntityId.{EntityId}
use Rattle.pdu_values.specs.Numbers.{number_of, digits}
use Rattle.pdu_values.specs.Tlvs.{octets_for, location_tlvs}
use Rattle.pdu_values.specs.Spelling.{size_octets, lv, tlv, request, ids, type_bit, data_field, plain_choice, lengths_octet, spelling, written, Fits}
use Rattle.pdu_values.specs.Pdu.{PduValue}
use Rattle.pdu_values.specs.declared.requests.SegmentRequest.{SegmentRequest}
use Rattle.pdu_values.specs.Tlvs.{message_tlv}
use Rattle.pdu_values.specs.declared.bodies.Eof as eof_type
use Rattle.pdu_values.specs.declared.bodies.Metadata as metadata_type
use Rattle.pdu_values.specs.declared.bodies.KeepAlive as keep_alive_type
use Rattle.pdu_values.specs.declared.bodies.FileData as file_data_type
use Rattle.pdu_values.specs.declared.bodies.Nak as nak_type
use Rattle.pdu_values.specs.declared.pdu.Header.{Header}
use Rattle.pdu_values.specs.declared.pdu.Body.{Body}
use Rattle.pdu_values.specs.declared.pdu.Body.TheVariants as bodies
use Rattle.pdu_values.proofs.Numbers.{IsOctets, length-digits, digits-number_of, pow_256_pos}
use Rattle.pdu_codec.specs.Writing.{HasRoom, Writes, field_of, header_of, text_of, FieldFits}

pub room_first : {Z : Type 0} (v : Vec ℕ Z) (a b : List ℕ) → HasRoom v (a ++ b) → HasRoom v a
room_first v a b room = omega (arith, length-append a b, room)

pub room_rest : {Z : Type 0} (v w : Vec ℕ Z) (a b : List ℕ) → HasRoom v (a ++ b) → Writes v w a → HasRoom w b
room_rest v w a b room done = omega (arith, length-append a b, room, done.len, done.capacity)

pub writes_then : {Z : Type 0} (u v w : Vec ℕ Z) (a b : List ℕ) → Writes u v a → Writes v w b → Writes u w (a ++ b)
writes_then u v w a b first second = record {
  items = second.items ∙ ap (λ (octets : List ℕ). octets ++ b) first.items ∙ append_assoc u.items a b;
  len = omega (arith, length-append a b, first.len, second.len);
  capacity = omega (arith, first.capacity, second.capacity);
}

-- ---- numbers

length-bytes : (count n : ℕ) → length (bytes_high_first count n) ≡ count
length-bytes zero n = refl
length-bytes (suc count) n = ap suc (length-bytes count n)

byte_at-is : (place n : ℕ) → byte_at place n ≡ n / 256 ^ place % 256
byte_at-is zero n = let same : n / 1 ≡ n = omega arith in ap (λ k. k % 256) (sym same)
byte_at-is (suc place) n = refl

byte_at-below : (place n : ℕ) → byte_at place n < 256
byte_at-below place n = rw byte_at-is (mod-lt (n / 256 ^ place) (omega arith))

bytes-are_octets : (count n : ℕ) → IsOctets (bytes_high_first count n)
bytes-are_octets zero n = tt
bytes-are_octets (suc count) n = (byte_at-below count n, bytes-are_octets count n)

-- the last octets of a number stand for what they hold of it
number_of-bytes : (count n : ℕ) → number_of (bytes_high_first count n) ≡ n % 256 ^ count
unfolding number_of
number_of-bytes zero n = omega arith
number_of-bytes (suc count) n =
    rw (length-bytes count n, number_of-bytes count n, byte_at-is count n)
    (sym (mod-mul n {m = 256} {c = 256 ^ count} (omega arith) (pow_256_pos count)) ∙ ap (λ power. n % power) (omega (arith, pow-suc 256 count)))

-- a number's last octets, where they hold all of it, spell it
bytes-spell : (count n : ℕ) → n < 256 ^ count → bytes_high_first count n ≡ digits count n
bytes-spell count n fits =
    let read : number_of (bytes_high_first count n) ≡ n = number_of-bytes count n ∙ mod-eq_of_lt fits in
    sym (digits-number_of (bytes_high_first count n) (bytes-are_octets count n))
    ∙ ap (λ k. digits k (number_of (bytes_high_first count n))) (length-bytes count n)
    ∙ ap (λ k. digits count k) read

bytes-behind : (all front count n : ℕ) → all ≡ front + count → drop front (bytes_high_first all n) ≡ bytes_high_first count n
bytes-behind all zero count n is = ap (λ k. bytes_high_first k n) (is ∙ zero-add count)
bytes-behind zero (suc front) count n is = absurd (omega arith)
bytes-behind (suc all) (suc front) count n is = bytes-behind all front count n (omega arith)

-- the last of eight octets spell a number that fits them
pub last_octets : (width n from : ℕ) (octets : List ℕ) → from ≡ width → octets ≡ to_be_bytes w64 n → width ≤ 8 → n < 256 ^ width
    → take (8 - (8 - from)) (drop (8 - from) octets) ≡ digits width n
last_octets width n from octets same are short fits =
    let rest : drop (8 - from) octets ≡ digits width n =
    ap (λ l. drop (8 - from) l) are ∙ bytes-behind 8 (8 - from) width n (omega arith) ∙ bytes-spell width n fits in
    take_all (8 - (8 - from)) (drop (8 - from) octets) (omega (arith, ap length rest, length-digits width n)) ∙ rest

-- ---- fault locations

pub location_text : (entity_octets n width : ℕ) → width ≡ octets_for entity_octets n
    → flat_map tlv (location_tlvs entity_octets (Some (record { 0 = n }))) ≡ digits 1 6 ++ (digits 1 width ++ digits width n)
location_text entity_octets n width is = rw (is, append-nil, length-digits) refl

pub room_for_location : {Z : Type 0} (v : Vec ℕ Z) (entity_octets n width : ℕ) (location : Option EntityId) → location ≡ Some (record { 0 = n }) → width ≡ octets_for entity_octets n
    → HasRoom v (flat_map tlv (location_tlvs entity_octets location)) → HasRoom v (digits 1 6 ++ (digits 1 width ++ digits width n))
room_for_location v entity_octets n width location there is room = subst (HasRoom v) (ap (λ l. flat_map tlv (location_tlvs entity_octets l)) there ∙ location_text entity_octets n width is) room

pub location_written : {Z : Type 0} (u v : Vec ℕ Z) (entity_octets n width : ℕ) (location : Option EntityId) → location ≡ Some (record { 0 = n }) → width ≡ octets_for entity_octets n
    → Writes u v (digits 1 6 ++ (digits 1 width ++ digits width n)) → Writes u v (flat_map tlv (location_tlvs entity_octets location))
location_written u v entity_octets n width location there is done =
    subst (Writes u v) (sym (ap (λ l. flat_map tlv (location_tlvs entity_octets l)) there ∙ location_text entity_octets n width is)) done

pub location_length : (entity_octets n width : ℕ) (location : Option EntityId) → location ≡ Some (record { 0 = n }) → width ≡ octets_for entity_octets n
    → 2 + width ≡ length (flat_map tlv (location_tlvs entity_octets location))
location_length entity_octets n width location there is =
    let text = ap length (ap (λ l. flat_map tlv (location_tlvs entity_octets l)) there ∙ location_text entity_octets n width is) in
    omega (arith, text, length-append (digits 1 6) (digits 1 width ++ digits width n), length-append (digits 1 width) (digits width n), length-digits 1 6, length-digits 1 width, length-digits width n)

-- ---- how long a text is

pub ids_length : (header : Header) → 4 + (2 * header.entity_octets + header.sequence_octets) ≡ 4 + length (ids header)
ids_length header =
    omega (
      arith,
      length-append (digits header.entity_octets header.source.0) (digits header.sequence_octets header.sequence ++ digits header.entity_octets header.destination.0),
      length-append (digits header.sequence_octets header.sequence) (digits header.entity_octets header.destination.0),
      length-digits header.entity_octets header.source.0,
      length-digits header.sequence_octets header.sequence,
      length-digits header.entity_octets header.destination.0,
    )

requests_length : (width : ℕ) (requests : List SegmentRequest) → length (flat_map (request width) requests) ≡ 2 * width * length requests
requests_length width [] = omega arith
requests_length width (r ∷ requests) =
    omega (arith, length-append (request width r) (flat_map (request width) requests), length-append (digits width r.start) (digits width r.end), length-digits width r.start, length-digits width r.end, requests_length width requests)

pub eof_length : (width entity_octets : ℕ) (e : eof_type.Eof) → 6 + width + length (flat_map tlv (location_tlvs entity_octets e.location)) ≡ length (field_of width entity_octets (bodies.Eof e))
unfolding digits
eof_length width entity_octets e =
    omega (arith, length-append (digits width e.size) (flat_map tlv (location_tlvs entity_octets e.location)), length-digits width e.size)

pub metadata_length : (width entity_octets : ℕ) (m : metadata_type.Metadata)
    → 4 + width + length m.source_name + length m.destination_name + length (flat_map tlv (map message_tlv m.messages)) ≡ length (field_of width entity_octets (bodies.Metadata m))
unfolding digits
metadata_length width entity_octets m =
    let text : List ℕ = flat_map tlv (map message_tlv m.messages) in
    omega (arith, length-append (digits width m.size) (lv m.source_name ++ (lv m.destination_name ++ text)), length-digits width m.size, length-append m.source_name (lv m.destination_name ++ text), length-append m.destination_name text)

pub keep_alive_length : (width entity_octets : ℕ) (k : keep_alive_type.KeepAlive) → 1 + width ≡ length (field_of width entity_octets (bodies.KeepAlive k))
unfolding digits
keep_alive_length width entity_octets k = omega (arith, length-digits width k.progress)

pub file_data_length : (width entity_octets : ℕ) (d : file_data_type.FileData) → width + length d.octets ≡ length (field_of width entity_octets (bodies.FileData d))
file_data_length width entity_octets d = omega (arith, length-append (digits width d.offset) d.octets, length-digits width d.offset)

pub nak_length : (width entity_octets : ℕ) (n : nak_type.Nak) → 1 + 2 * width + 2 * width * length n.requests ≡ length (field_of width entity_octets (bodies.Nak n))
unfolding digits
nak_length width entity_octets n =
    omega (arith, length-append (digits width n.start) (digits width n.end ++ flat_map (request width) n.requests), length-append (digits width n.end) (flat_map (request width) n.requests), length-digits width n.start, length-digits width n.end, requests_length width n.requests)

text_length : (size : ℕ) (header : Header) (body : Body) → length (text_of size header body) ≡ (4 + length (ids header)) + length (field_of (size_octets header.large) header.entity_octets body)
unfolding digits
text_length size header body = omega (arith, length-append (header_of (type_bit body) size header) (field_of (size_octets header.large) header.entity_octets body))

pub room_for_pdu : {Z : Type 0} (v : Vec ℕ Z) (size before behind : ℕ) (header : Header) (body : Body) → before ≡ 4 + length (ids header) → behind ≡ length (field_of (size_octets header.large) header.entity_octets body)
    → vec_len v + (before + behind) ≤ vec_capacity v → HasRoom v (text_of size header body)
room_for_pdu v size before behind header body first second room = omega (arith, text_length size header body, first, second, room)

-- ---- what is written

field_is_plain : (pdu : PduValue) → data_field (size_octets pdu.header.large) (plain_choice pdu) pdu.body ≡ field_of (size_octets pdu.header.large) pdu.header.entity_octets pdu.body
field_is_plain pdu = by_body pdu.header pdu.body
  where
    by_body : (header : Header) (body : Body) → data_field (size_octets header.large) (plain_choice (record { header = header; body = body })) body ≡ field_of (size_octets header.large) header.entity_octets body
    by_body header (bodies.Eof e) = refl
    by_body header (bodies.Finished f) = refl
    by_body header (bodies.Ack a) = refl
    by_body header (bodies.Metadata m) = refl
    by_body header (bodies.Nak n) = refl
    by_body header (bodies.Prompt p) = refl
    by_body header (bodies.KeepAlive k) = refl
    by_body header (bodies.FileData d) = refl

lengths_plain : (pdu : PduValue) → lengths_octet (plain_choice pdu) pdu.header ≡ 16 * (pdu.header.entity_octets - 1) + (pdu.header.sequence_octets - 1)
lengths_plain pdu = omega arith

pub written_is : (pdu : PduValue) → written pdu ≡ text_of (length (field_of (size_octets pdu.header.large) pdu.header.entity_octets pdu.body)) pdu.header pdu.body
unfolding written spelling
written_is pdu = rw (field_is_plain pdu, lengths_plain pdu) refl

pub fits_field : (pdu : PduValue) → Fits pdu → FieldFits (size_octets pdu.header.large) pdu.header.entity_octets pdu.body
fits_field pdu fits = record {
  entity_octets_fit = fits.header.entity_octets;
  body_fits = fits.body;
  short = rw (sym (field_is_plain pdu)) fits.data_field;
}

pub encoded : {Z : Type 0} (old ready new : Vec ℕ Z) (pdu : PduValue) (header : Header) (body : Body) (size : ℕ) → header ≡ pdu.header → body ≡ pdu.body
    → size ≡ length (field_of (size_octets header.large) header.entity_octets body) → ready.items ≡ old.items → Writes ready new (text_of size header body) → new.items ≡ old.items ++ written pdu
encoded old ready new pdu header body size first second long same done =
    let whole : text_of size header body ≡ written pdu = rw (long, first, second) (sym (written_is pdu)) in
    done.items ∙ ap (λ (octets : List ℕ). octets ++ text_of size header body) same ∙ ap (λ (text : List ℕ). old.items ++ text) whole
