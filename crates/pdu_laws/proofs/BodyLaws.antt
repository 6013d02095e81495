-- The data field: what is read there is spelled so.
use Rattle.std.proofs.Common.{◌≡◌, ℕ, ◌+◌, ◌*◌, ◌/◌, ◌%◌, ◌^◌, ◌<◌, Bool, true, false, cond, eqb, ◌==◌, List, [], ◌++◌, length, Option, Some, None, Result, Ok, Err, refl, ap, subst, ◌∙◌, arith}
use Rattle.std.specs.List.{flat_map, AllByRecursion}
use Rattle.std.proofs.lemmas.Bool.{eqb-true}
use Rattle.std.proofs.lemmas.List.{append-nil, nil_from_length}
use Rattle.pdu_values.specs.declared.bodies.Acknowledged.{Acknowledged}
use Rattle.pdu_values.specs.declared.requests.SegmentRequest.{SegmentRequest}
use Rattle.pdu_values.specs.declared.directive.Directive.{Directive}
use Rattle.pdu_values.specs.declared.directive.Directive.TheVariants as directives
use Rattle.pdu_values.specs.declared.pdu.Body.{Body}
use Rattle.pdu_values.specs.declared.pdu.Body.TheVariants as bodies
use Rattle.pdu_reading.specs.declared.fault.DecodeFault.{DecodeFault}
use Rattle.pdu_reading.specs.declared.fault.DecodeFault.TheVariants.{TooShort, BadVersion, CrcPresent, LengthMismatch, UnknownDirective, FieldCut, NoFileName, NoMemory}
use Rattle.pdu_values.specs.Directive.{directive_code}
use Rattle.pdu_values.specs.Numbers.{digits}
use Rattle.pdu_values.specs.Tlvs.{Tlv, messages_in, location_in}
use Rattle.pdu_reading.specs.Items.{◌>>=◌, items_to_end, closed}
use Rattle.pdu_values.specs.Spelling.{Choice, bit, delivery_bit, file_status_bits, transaction_status_bits, acknowledged_code, prompt_bit, lv, tlv, request, segment, data_field, type_bit, MetadataFieldsFit, BodyFits, RequestFits, IsBodyChoice}
use Rattle.pdu_reading.specs.Reading.{number_at, octets_at, tlv_at, location_tlv_at, request_at, delivery_of, file_status_of, transaction_status_of, acknowledged_with_code, prompt_of, eof_at, finished_at, ack_at, metadata_at, nak_at, prompt_at, keep_alive_at, behind_segment_metadata, file_data_at, lacks_name, whole_body, ack_of, ack_of_kind}
use Rattle.pdu_values.proofs.Numbers.{IsOctets}
use Rattle.pdu_laws.proofs.BitLaws.{bit-eqb, delivery_bit-delivery_of, file_status_bits-file_status_of, transaction_status_bits-transaction_status_of, prompt_bit-prompt_of, acknowledged_code-is}
use Rattle.pdu_laws.proofs.FieldLaws.{bind_some, some_is, passed_some, Takes, Takes-then, number_takes, number_then, octets_take, lv_then, IsTlvRead, IsLocationTlvRead, TakesItem, tlv_takes, location_tlv_takes, request_takes}
use Rattle.pdu_laws.proofs.ItemLaws.{Item, items_take}
use Rattle.pdu_laws.proofs.TlvLaws.{location_fits, locates_read, tells_read, messages_fit}

-- every number of a body fits its field, where a name of Metadata may be empty
abbrev pub FieldsFit : ℕ → Body → Type 0
FieldsFit width (bodies.Eof e) = BodyFits width (bodies.Eof e)
FieldsFit width (bodies.Finished f) = BodyFits width (bodies.Finished f)
FieldsFit width (bodies.Ack a) = BodyFits width (bodies.Ack a)
FieldsFit width (bodies.Metadata m) = MetadataFieldsFit width m
FieldsFit width (bodies.Nak n) = BodyFits width (bodies.Nak n)
FieldsFit width (bodies.Prompt p) = BodyFits width (bodies.Prompt p)
FieldsFit width (bodies.KeepAlive k) = BodyFits width (bodies.KeepAlive k)
FieldsFit width (bodies.FileData f) = BodyFits width (bodies.FileData f)

-- the data field spells the body, of a kind, under a choice with this segmentation control and this
-- segment metadata flag
pub record IsSpelled (width control kind : ℕ) (flag : Bool) (field : List ℕ) (body : Body) : Type 0 where
  pub choice : Choice
  pub control_is : choice.control ≡ control
  pub flag_is : choice.flag ≡ flag
  pub kind_is : type_bit body ≡ kind
  pub is_choice : IsBodyChoice choice body
  pub fits : FieldsFit width body
  pub spelled : field ≡ data_field width choice body

-- all else zero
abbrev free : ℕ → Bool → Choice
free control flag = record { control = control; flag = flag; state = 0; segment_metadata = []; spare = 0; reserved = 0; subtype = 0; tlvs = [] }

-- what is behind the field that was read
then_is : {octets text rest tail : List ℕ} → Takes octets text rest → rest ≡ tail → octets ≡ text ++ tail
then_is {octets} {text} {rest} {tail} t e = t.parts ∙ ap (λ (os : List ℕ). text ++ os) e

-- items that were read up to the end, and what follows from them
record ThenItems {A B : Type 0} (text : A → List ℕ) (IsFit : A → Type 0) (octets : List ℕ) (behind : List A → Option B) (y : B) : Type 0 where
  pub items : List A
  pub spelled : octets ≡ flat_map text items
  pub each : AllByRecursion IsFit items
  pub goes_on : behind items ≡ Some y

items_then : {A B : Type 0} {behind : List A → Option B} (item : Item A) (text : A → List ℕ) (IsFit : A → Type 0) → ((octets : List ℕ) (x : A × List ℕ) → IsOctets octets → item octets ≡ Some x → TakesItem text IsFit octets x)
    → (octets : List ℕ) (y : B) → IsOctets octets → (items_to_end item octets >>= behind) ≡ Some y → ThenItems text IsFit octets behind y
items_then {A} {B} {behind} item text IsFit one octets y h e =
    let b = bind_some (items_to_end item octets) behind y e in
    let taken = items_take item text IsFit one octets b.0 h b.1 in
    record { items = b.0; spelled = taken.spelled; each = taken.each; goes_on = b.2 }

-- nothing is left
closed_some : {A : Type 0} (left : List ℕ) (x y : A) → closed left x ≡ Some y → (left ≡ []) × (x ≡ y)
closed_some left x y e =
    let p = passed_some (eqb (length left) 0) x y e in
    (nil_from_length left (eqb-true (length left) 0 p.0), p.1)

last_is : {octets text rest : List ℕ} → Takes octets text rest → rest ≡ [] → octets ≡ text
last_is {octets} {text} {rest} t e = then_is t e ∙ append-nil text

-- behind the code of a directive
abbrev behind_code : Directive → List ℕ → List ℕ
behind_code d octets = digits 1 (directive_code d) ++ octets

-- ---- EOF

abbrev eof_of : ℕ → ℕ → ℕ → List Tlv → Body
eof_of flags checksum size tlvs = bodies.Eof (record { condition = flags / 16; checksum = checksum; size = size; location = location_in tlvs })

eof_spelled : (width control : ℕ) (flag : Bool) (flags checksum size : ℕ) (tlvs : List Tlv) (octets : List ℕ) → flags < 256 → checksum < 2 ^ 32 → size < 256 ^ width → AllByRecursion IsLocationTlvRead tlvs
    → octets ≡ digits 1 flags ++ (digits 4 checksum ++ (digits width size ++ flat_map tlv tlvs)) → IsSpelled width control 0 flag (behind_code directives.Eof octets) (eof_of flags checksum size tlvs)
eof_spelled width control flag flags checksum size tlvs octets flags_fit checksum_fits size_fits tlvs_read octets_are =
    let behind : List ℕ = digits 4 checksum ++ (digits width size ++ flat_map tlv tlvs) in
    let flags_are : flags ≡ 16 * (flags / 16) + flags % 16 = omega arith in
    record {
      choice = record (free control flag) { spare = flags % 16; tlvs = tlvs };
      control_is = refl;
      flag_is = refl;
      kind_is = refl;
      is_choice = record { state = omega arith; segment_metadata = omega arith; spare = omega arith; reserved = omega arith; subtype = omega arith; tlvs = locates_read tlvs tlvs_read };
      fits = record { condition = omega arith; checksum = checksum_fits; size = size_fits; location = location_fits tlvs tlvs_read };
      spelled = ap (behind_code directives.Eof) (octets_are ∙ ap (λ (k : ℕ). digits 1 k ++ behind) flags_are);
    }

pub eof_is_spelled : (width control : ℕ) (flag : Bool) (octets : List ℕ) (body : Body) → IsOctets octets → eof_at width octets ≡ Some body → IsSpelled width control 0 flag (behind_code directives.Eof octets) body
unfolding eof_at
eof_is_spelled width control flag octets body h e =
    let flags = number_then 1 octets body h e in
    let checksum = number_then 4 flags.rest body flags.takes.rest_octets flags.goes_on in
    let size = number_then width checksum.rest body checksum.takes.rest_octets checksum.goes_on in
    let tlvs = items_then location_tlv_at tlv IsLocationTlvRead location_tlv_takes size.rest body size.takes.rest_octets size.goes_on in
    let parts : octets ≡ digits 1 flags.value ++ (digits 4 checksum.value ++ (digits width size.value ++ flat_map tlv tlvs.items)) = then_is flags.takes (then_is checksum.takes (then_is size.takes tlvs.spelled)) in
    subst (IsSpelled width control 0 flag (behind_code directives.Eof octets))
    (some_is (eof_of flags.value checksum.value size.value tlvs.items) body tlvs.goes_on)
    (eof_spelled width control flag flags.value checksum.value size.value tlvs.items octets flags.fits checksum.fits size.fits tlvs.each parts)

-- ---- Finished

abbrev finished_of : ℕ → List Tlv → Body
finished_of flags tlvs = bodies.Finished (record { condition = flags / 16; delivery = delivery_of (flags / 4 % 2); status = file_status_of (flags % 4); location = location_in tlvs })

finished_spelled : (width control : ℕ) (flag : Bool) (flags : ℕ) (tlvs : List Tlv) (octets : List ℕ) → flags < 256 → AllByRecursion IsLocationTlvRead tlvs
    → octets ≡ digits 1 flags ++ flat_map tlv tlvs → IsSpelled width control 0 flag (behind_code directives.Finished octets) (finished_of flags tlvs)
finished_spelled width control flag flags tlvs octets flags_fit tlvs_read octets_are =
    let delivery = delivery_bit-delivery_of (flags / 4 % 2) (omega arith) in
    let status = file_status_bits-file_status_of (flags % 4) (omega arith) in
    let flags_are : flags ≡ 16 * (flags / 16) + 8 * (flags / 8 % 2) + 4 * delivery_bit (delivery_of (flags / 4 % 2)) + file_status_bits (file_status_of (flags % 4)) = omega (arith, delivery, status) in
    record {
      choice = record (free control flag) { spare = flags / 8 % 2; tlvs = tlvs };
      control_is = refl;
      flag_is = refl;
      kind_is = refl;
      is_choice = record { state = omega arith; segment_metadata = omega arith; spare = omega arith; reserved = omega arith; subtype = omega arith; tlvs = locates_read tlvs tlvs_read };
      fits = record { condition = omega arith; location = location_fits tlvs tlvs_read };
      spelled = ap (behind_code directives.Finished) (octets_are ∙ ap (λ (k : ℕ). digits 1 k ++ flat_map tlv tlvs) flags_are);
    }

pub finished_is_spelled : (width control : ℕ) (flag : Bool) (octets : List ℕ) (body : Body) → IsOctets octets → finished_at octets ≡ Some body → IsSpelled width control 0 flag (behind_code directives.Finished octets) body
unfolding finished_at
finished_is_spelled width control flag octets body h e =
    let flags = number_then 1 octets body h e in
    let tlvs = items_then location_tlv_at tlv IsLocationTlvRead location_tlv_takes flags.rest body flags.takes.rest_octets flags.goes_on in
    subst (IsSpelled width control 0 flag (behind_code directives.Finished octets))
    (some_is (finished_of flags.value tlvs.items) body tlvs.goes_on)
    (finished_spelled width control flag flags.value tlvs.items octets flags.fits tlvs.each (then_is flags.takes tlvs.spelled))

-- ---- ACK

abbrev ack_with : Acknowledged → ℕ → Body
ack_with of flags = bodies.Ack (record { of = of; condition = flags / 16; status = transaction_status_of (flags % 4) })

ack_spelled : (width control : ℕ) (flag : Bool) (of : Acknowledged) (first flags : ℕ) (octets : List ℕ) → first < 256 → flags < 256 → first / 16 ≡ acknowledged_code of
    → octets ≡ digits 1 first ++ digits 1 flags → IsSpelled width control 0 flag (behind_code directives.Ack octets) (ack_with of flags)
ack_spelled width control flag of first flags octets first_fits flags_fit code_is octets_are =
    let status = transaction_status_bits-transaction_status_of (flags % 4) (omega arith) in
    let first_is : first ≡ 16 * acknowledged_code of + first % 16 = omega (arith, code_is) in
    let flags_are : flags ≡ 16 * (flags / 16) + 4 * (flags / 4 % 4) + transaction_status_bits (transaction_status_of (flags % 4)) = omega (arith, status) in
    record {
      choice = record (free control flag) { spare = flags / 4 % 4; subtype = first % 16 };
      control_is = refl;
      flag_is = refl;
      kind_is = refl;
      is_choice = record { state = omega arith; segment_metadata = omega arith; spare = omega arith; reserved = omega arith; subtype = omega arith; tlvs = tt };
      fits = record { condition = omega arith };
      spelled = ap (behind_code directives.Ack) (octets_are ∙ ap (λ (k : ℕ). digits 1 k ++ digits 1 flags) first_is ∙ ap (λ (k : ℕ). digits 1 (16 * acknowledged_code of + first % 16) ++ digits 1 k) flags_are);
    }

-- ---- Metadata

abbrev metadata_of : ℕ → ℕ → List ℕ → List ℕ → List Tlv → Body
metadata_of flags size source_name destination_name tlvs = bodies.Metadata (record {
  closure = flags / 64 % 2 == 1;
  checksum_type = flags % 16;
  size = size;
  source_name = source_name;
  destination_name = destination_name;
  messages = messages_in tlvs;
})

metadata_spelled : (width control : ℕ) (flag : Bool) (flags size : ℕ) (source destination : List ℕ) (tlvs : List Tlv) (octets : List ℕ) → flags < 256 → size < 256 ^ width → length source < 256 → length destination < 256 → AllByRecursion IsTlvRead tlvs
    → octets ≡ digits 1 flags ++ (digits width size ++ (lv source ++ (lv destination ++ flat_map tlv tlvs))) → IsSpelled width control 0 flag (behind_code directives.Metadata octets) (metadata_of flags size source destination tlvs)
metadata_spelled width control flag flags size source destination tlvs octets flags_fit size_fits source_fits destination_fits tlvs_read octets_are =
    let behind : List ℕ = digits width size ++ (lv source ++ (lv destination ++ flat_map tlv tlvs)) in
    let closure : bit (eqb (flags / 64 % 2) 1) ≡ flags / 64 % 2 = bit-eqb (flags / 64 % 2) (omega arith) in
    let flags_are : flags ≡ 128 * (flags / 128) + 64 * bit (eqb (flags / 64 % 2) 1) + 16 * (flags / 16 % 4) + flags % 16 = omega (arith, closure) in
    let tells = tells_read tlvs tlvs_read in
    record {
      choice = record (free control flag) { spare = flags / 16 % 4; reserved = flags / 128; tlvs = tlvs };
      control_is = refl;
      flag_is = refl;
      kind_is = refl;
      is_choice = record { state = omega arith; segment_metadata = omega arith; spare = omega arith; reserved = omega arith; subtype = omega arith; tlvs = tells };
      fits = record { checksum_type = omega arith; size = size_fits; source_name = source_fits; destination_name = destination_fits; messages = messages_fit tlvs tells.each };
      spelled = ap (behind_code directives.Metadata) (octets_are ∙ ap (λ (k : ℕ). digits 1 k ++ behind) flags_are);
    }

pub metadata_is_spelled : (width control : ℕ) (flag : Bool) (octets : List ℕ) (body : Body) → IsOctets octets → metadata_at width octets ≡ Some body → IsSpelled width control 0 flag (behind_code directives.Metadata octets) body
unfolding metadata_at
metadata_is_spelled width control flag octets body h e =
    let flags = number_then 1 octets body h e in
    let size = number_then width flags.rest body flags.takes.rest_octets flags.goes_on in
    let source = lv_then size.rest body size.takes.rest_octets size.goes_on in
    let destination = lv_then source.rest body source.takes.rest_octets source.goes_on in
    let tlvs = items_then tlv_at tlv IsTlvRead tlv_takes destination.rest body destination.takes.rest_octets destination.goes_on in
    let parts : octets ≡ digits 1 flags.value ++ (digits width size.value ++ (lv source.value ++ (lv destination.value ++ flat_map tlv tlvs.items))) =
    then_is flags.takes (then_is size.takes (then_is source.takes (then_is destination.takes tlvs.spelled))) in
    subst (IsSpelled width control 0 flag (behind_code directives.Metadata octets))
    (some_is (metadata_of flags.value size.value source.value destination.value tlvs.items) body tlvs.goes_on)
    (metadata_spelled width control flag flags.value size.value source.value destination.value tlvs.items octets flags.fits size.fits source.fits.short destination.fits.short tlvs.each parts)

-- ---- NAK

abbrev nak_of : ℕ → ℕ → List SegmentRequest → Body
nak_of start end requests = bodies.Nak (record { start = start; end = end; requests = requests })

nak_spelled : (width control : ℕ) (flag : Bool) (start end : ℕ) (requests : List SegmentRequest) (octets : List ℕ) → start < 256 ^ width → end < 256 ^ width → AllByRecursion (RequestFits width) requests
    → octets ≡ digits width start ++ (digits width end ++ flat_map (request width) requests) → IsSpelled width control 0 flag (behind_code directives.Nak octets) (nak_of start end requests)
nak_spelled width control flag start end requests octets start_fits end_fits requests_fit octets_are = record {
  choice = free control flag;
  control_is = refl;
  flag_is = refl;
  kind_is = refl;
  is_choice = record { state = omega arith; segment_metadata = omega arith; spare = omega arith; reserved = omega arith; subtype = omega arith; tlvs = tt };
  fits = record { start = start_fits; end = end_fits; requests = requests_fit };
  spelled = ap (behind_code directives.Nak) octets_are;
}

pub nak_is_spelled : (width control : ℕ) (flag : Bool) (octets : List ℕ) (body : Body) → IsOctets octets → nak_at width octets ≡ Some body → IsSpelled width control 0 flag (behind_code directives.Nak octets) body
unfolding nak_at
nak_is_spelled width control flag octets body h e =
    let start = number_then width octets body h e in
    let end = number_then width start.rest body start.takes.rest_octets start.goes_on in
    let requests = items_then (request_at width) (request width) (RequestFits width) (request_takes width) end.rest body end.takes.rest_octets end.goes_on in
    subst (IsSpelled width control 0 flag (behind_code directives.Nak octets))
    (some_is (nak_of start.value end.value requests.items) body requests.goes_on)
    (nak_spelled width control flag start.value end.value requests.items octets start.fits end.fits requests.each (then_is start.takes (then_is end.takes requests.spelled)))

-- ---- Prompt

abbrev prompt_with : ℕ → Body
prompt_with flags = bodies.Prompt (prompt_of (flags / 128))

prompt_spelled : (width control : ℕ) (flag : Bool) (flags : ℕ) (octets : List ℕ) → flags < 256 → octets ≡ digits 1 flags → IsSpelled width control 0 flag (behind_code directives.Prompt octets) (prompt_with flags)
prompt_spelled width control flag flags octets flags_fit octets_are =
    let asks = prompt_bit-prompt_of (flags / 128) (omega arith) in
    let flags_are : flags ≡ 128 * prompt_bit (prompt_of (flags / 128)) + flags % 128 = omega (arith, asks) in
    record {
      choice = record (free control flag) { spare = flags % 128 };
      control_is = refl;
      flag_is = refl;
      kind_is = refl;
      is_choice = record { state = omega arith; segment_metadata = omega arith; spare = omega arith; reserved = omega arith; subtype = omega arith; tlvs = tt };
      fits = tt;
      spelled = ap (behind_code directives.Prompt) (octets_are ∙ ap (digits 1) flags_are);
    }

pub prompt_is_spelled : (width control : ℕ) (flag : Bool) (octets : List ℕ) (body : Body) → IsOctets octets → prompt_at octets ≡ Some body → IsSpelled width control 0 flag (behind_code directives.Prompt octets) body
unfolding prompt_at
prompt_is_spelled width control flag octets body h e =
    let flags = number_then 1 octets body h e in
    let last = closed_some flags.rest (prompt_with flags.value) body flags.goes_on in
    subst (IsSpelled width control 0 flag (behind_code directives.Prompt octets)) last.1
    (prompt_spelled width control flag flags.value octets flags.fits (last_is flags.takes last.0))

-- ---- Keep Alive

abbrev keep_alive_of : ℕ → Body
keep_alive_of progress = bodies.KeepAlive (record { progress = progress })

keep_alive_spelled : (width control : ℕ) (flag : Bool) (progress : ℕ) (octets : List ℕ) → progress < 256 ^ width → octets ≡ digits width progress → IsSpelled width control 0 flag (behind_code directives.KeepAlive octets) (keep_alive_of progress)
keep_alive_spelled width control flag progress octets progress_fits octets_are = record {
  choice = free control flag;
  control_is = refl;
  flag_is = refl;
  kind_is = refl;
  is_choice = record { state = omega arith; segment_metadata = omega arith; spare = omega arith; reserved = omega arith; subtype = omega arith; tlvs = tt };
  fits = record { progress = progress_fits };
  spelled = ap (behind_code directives.KeepAlive) octets_are;
}

pub keep_alive_is_spelled : (width control : ℕ) (flag : Bool) (octets : List ℕ) (body : Body) → IsOctets octets → keep_alive_at width octets ≡ Some body → IsSpelled width control 0 flag (behind_code directives.KeepAlive octets) body
unfolding keep_alive_at
keep_alive_is_spelled width control flag octets body h e =
    let progress = number_then width octets body h e in
    let last = closed_some progress.rest (keep_alive_of progress.value) body progress.goes_on in
    subst (IsSpelled width control 0 flag (behind_code directives.KeepAlive octets)) last.1
    (keep_alive_spelled width control flag progress.value octets progress.fits (last_is progress.takes last.0))

-- ---- File Data

-- segment metadata that was dropped
record IsSegment (flag : Bool) (octets rest : List ℕ) : Type 0 where
  pub state : ℕ
  pub segment_metadata : List ℕ
  pub state_fits : state < 4
  pub metadata_fits : length segment_metadata < 64
  pub takes : Takes octets (segment flag state segment_metadata) rest

segment_dropped : (flag : Bool) (octets rest : List ℕ) → IsOctets octets → behind_segment_metadata flag octets ≡ Some rest → IsSegment flag octets rest
unfolding behind_segment_metadata
segment_dropped false octets rest h e =
    let same : octets ≡ rest = some_is octets rest e in
    record { state = 0; segment_metadata = []; state_fits = omega arith; metadata_fits = omega arith; takes = record { parts = same; rest_octets = subst IsOctets same h } }
segment_dropped true octets rest h e =
    let count = number_then 1 octets rest h e in
    let dropped = bind_some (octets_at (count.value % 64) count.rest) (λ x. Some x.1) rest count.goes_on in
    let same : dropped.0.1 ≡ rest = some_is dropped.0.1 rest dropped.2 in
    let t = octets_take (count.value % 64) count.rest dropped.0.0 dropped.0.1 count.takes.rest_octets dropped.1 in
    let state_fits : count.value / 64 < 4 = omega (arith, count.fits) in
    let count_is : count.value ≡ 64 * (count.value / 64) + length dropped.0.0 = omega (arith, t.long) in
    let made : IsSegment true octets dropped.0.1 = record {
      state = count.value / 64;
      segment_metadata = dropped.0.0;
      state_fits = state_fits;
      metadata_fits = omega (arith, t.long);
      takes = subst (λ (k : ℕ). Takes octets (digits 1 k ++ dropped.0.0) dropped.0.1) count_is (Takes-then count.takes t.takes);
    } in
    subst (IsSegment true octets) same made

abbrev file_data_of : ℕ → List ℕ → Body
file_data_of offset octets = bodies.FileData (record { offset = offset; octets = octets })

file_data_spelled : (width control : ℕ) (flag : Bool) (state : ℕ) (segment_metadata : List ℕ) (offset : ℕ) (octets rest : List ℕ) → state < 4 → length segment_metadata < 64 → offset < 256 ^ width
    → octets ≡ segment flag state segment_metadata ++ (digits width offset ++ rest) → IsSpelled width control 1 flag octets (file_data_of offset rest)
file_data_spelled width control flag state segment_metadata offset octets rest state_fits metadata_fits offset_fits octets_are = record {
  choice = record (free control flag) { state = state; segment_metadata = segment_metadata };
  control_is = refl;
  flag_is = refl;
  kind_is = refl;
  is_choice = record { state = state_fits; segment_metadata = metadata_fits; spare = omega arith; reserved = omega arith; subtype = omega arith; tlvs = tt };
  fits = record { offset = offset_fits };
  spelled = octets_are;
}

pub file_data_is_spelled : (width control : ℕ) (flag : Bool) (octets : List ℕ) (body : Body) → IsOctets octets → file_data_at width flag octets ≡ Some body → IsSpelled width control 1 flag octets body
unfolding file_data_at
file_data_is_spelled width control flag octets body h e =
    let fields = bind_some (behind_segment_metadata flag octets) (λ fields. number_at width fields >>= (λ offset. Some (file_data_of offset.0 offset.1))) body e in
    let dropped = segment_dropped flag octets fields.0 h fields.1 in
    let offset = number_then width fields.0 body dropped.takes.rest_octets fields.2 in
    subst (IsSpelled width control 1 flag octets)
    (some_is (file_data_of offset.value offset.rest) body offset.goes_on)
    (file_data_spelled width control flag dropped.state dropped.segment_metadata offset.value octets offset.rest dropped.state_fits dropped.metadata_fits offset.fits (then_is dropped.takes offset.takes.parts))

-- ---- a body whose fields were read

-- what is answered for a body whose fields were read
abbrev pub answer_of : Body → Result Body DecodeFault
answer_of body = cond (lacks_name body) (Err NoFileName) (Ok body)

-- an answer for fields that were read
abbrev pub IsAll : Result Body DecodeFault → Type 0
IsAll (Ok body) = Unit {0}
IsAll (Err NoFileName) = Unit {0}
IsAll (Err TooShort) = ⊥
IsAll (Err BadVersion) = ⊥
IsAll (Err CrcPresent) = ⊥
IsAll (Err LengthMismatch) = ⊥
IsAll (Err UnknownDirective) = ⊥
IsAll (Err FieldCut) = ⊥
IsAll (Err NoMemory) = ⊥

-- the data field spells a body, which is answered
pub record IsReadAs (width control kind : ℕ) (flag : Bool) (field : List ℕ) (result : Result Body DecodeFault) : Type 0 where
  pub body : Body
  pub spelled : IsSpelled width control kind flag field body
  pub answered : result ≡ answer_of body

pub whole_read : (width control kind : ℕ) (flag : Bool) (field : List ℕ) (found : Option Body) → ((body : Body) → found ≡ Some body → IsSpelled width control kind flag field body) → IsAll (whole_body found) → IsReadAs width control kind flag field (whole_body found)
whole_read width control kind flag field None spelled all = absurd all
whole_read width control kind flag field (Some body) spelled all = record { body = body; spelled = spelled body refl; answered = refl }

ack_spelled_by : (width control : ℕ) (flag : Bool) (of : Acknowledged) (first : ℕ) (octets rest : List ℕ) (body : Body) → first < 256 → Takes octets (digits 1 first) rest → acknowledged_with_code (first / 16) ≡ Some of → ack_at of rest ≡ Some body
    → IsSpelled width control 0 flag (behind_code directives.Ack octets) body
unfolding ack_at
ack_spelled_by width control flag of first octets rest body first_fits takes kind_is e =
    let flags = number_then 1 rest body takes.rest_octets e in
    let last = closed_some flags.rest (ack_with of flags.value) body flags.goes_on in
    subst (IsSpelled width control 0 flag (behind_code directives.Ack octets)) last.1
    (ack_spelled width control flag of first flags.value octets first_fits flags.fits (acknowledged_code-is (first / 16) of kind_is) (then_is takes (last_is flags.takes last.0)))

ack_second : (width control : ℕ) (flag : Bool) (first : ℕ) (octets rest : List ℕ) (kind : Option Acknowledged) → first < 256 → Takes octets (digits 1 first) rest → acknowledged_with_code (first / 16) ≡ kind → IsAll (ack_of_kind kind rest)
    → IsReadAs width control 0 flag (behind_code directives.Ack octets) (ack_of_kind kind rest)
ack_second width control flag first octets rest None first_fits takes kind_is all = absurd all
ack_second width control flag first octets rest (Some of) first_fits takes kind_is all =
    whole_read width control 0 flag (behind_code directives.Ack octets) (ack_at of rest) (λ body e. ack_spelled_by width control flag of first octets rest body first_fits takes kind_is e) all

ack_first : (width control : ℕ) (flag : Bool) (octets : List ℕ) (found : Option (ℕ × List ℕ)) → IsOctets octets → number_at 1 octets ≡ found → IsAll (ack_of found) → IsReadAs width control 0 flag (behind_code directives.Ack octets) (ack_of found)
ack_first width control flag octets None h found_is all = absurd all
ack_first width control flag octets (Some x) h found_is all =
    let first = number_takes 1 octets x.0 x.1 h found_is in
    ack_second width control flag x.0 octets x.1 (acknowledged_with_code (x.0 / 16)) first.below first.takes refl all

pub ack_is_read : (width control : ℕ) (flag : Bool) (octets : List ℕ) → IsOctets octets → IsAll (ack_of (number_at 1 octets)) → IsReadAs width control 0 flag (behind_code directives.Ack octets) (ack_of (number_at 1 octets))
ack_is_read width control flag octets h all = ack_first width control flag octets (number_at 1 octets) h refl all
