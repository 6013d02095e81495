-- The data field: what is spelled there is read.
use Rattle.std.proofs.Common.{◌≡◌, ℕ, ◌+◌, ◌*◌, ◌/◌, ◌%◌, ◌^◌, ◌<◌, ◌≤◌, Bool, true, false, eqb, List, [], ◌++◌, length, Some, Ok, refl, sym, ap, ◌∙◌, append_assoc, arith}
use Rattle.std.specs.List.{flat_map}
use Rattle.std.proofs.lemmas.Bool.{eq-eqb, ne_eqb}
use Rattle.std.proofs.lemmas.List.{append-nil, length-append}
use Rattle.pdu_values.specs.declared.bodies.Eof as eof_type
use Rattle.pdu_values.specs.declared.bodies.Finished as finished_type
use Rattle.pdu_values.specs.declared.bodies.Ack as ack_type
use Rattle.pdu_values.specs.declared.bodies.Metadata as metadata_type
use Rattle.pdu_values.specs.declared.bodies.Nak as nak_type
use Rattle.pdu_values.specs.declared.bodies.Prompt.{Prompt}
use Rattle.pdu_values.specs.declared.bodies.KeepAlive as keep_alive_type
use Rattle.pdu_values.specs.declared.bodies.FileData as file_data_type
use Rattle.pdu_values.specs.declared.requests.SegmentRequest.{SegmentRequest}
use Rattle.pdu_values.specs.declared.pdu.Body.TheVariants as bodies
use Rattle.pdu_values.specs.Numbers.{digits}
use Rattle.pdu_values.specs.Tlvs.{Tlv}
use Rattle.pdu_values.specs.Spelling.{bit, delivery_bit, file_status_bits, transaction_status_bits, acknowledged_code, prompt_bit, lv, tlv, request, eof, finished, ack, metadata, nak, prompt, keep_alive, segment, file_data, EofFits, FinishedFits, AckFits, MetadataFieldsFit, NakFits, KeepAliveFits, FileDataFits, RequestFits, IsTlv, IsLocationTlv, Locates, Tells}
use Rattle.pdu_reading.specs.Reading.{number_at, tlv_at, location_tlv_at, request_at, delivery_of, file_status_of, transaction_status_of, prompt_of, eof_at, finished_at, ack_at, metadata_at, nak_at, prompt_at, keep_alive_at, behind_segment_metadata, file_data_at, ack_of}
use Rattle.pdu_values.proofs.Numbers.{length-digits}
use Rattle.pdu_laws.proofs.BitLaws.{bit-below, delivery_of-delivery_bit, delivery_bit-below, file_status_of-file_status_bits, file_status_bits-below, transaction_status_of-transaction_status_bits, transaction_status_bits-below, prompt_of-prompt_bit, prompt_bit-below, acknowledged_with_code-again, acknowledged_code-below}
use Rattle.pdu_laws.proofs.FieldLaws.{octets_again, number_again, lv_again, tlv_again, location_tlv_again, request_again}
use Rattle.pdu_laws.proofs.ItemLaws.{items_again}
use Rattle.pdu_values.proofs.WidthLaws.{tlv_long}

-- a number up to the end
number_last : (width n : ℕ) → n < 256 ^ width → number_at width (digits width n) ≡ Some (n, [])
number_last width n lt = ap (number_at width) (sym (append-nil (digits width n))) ∙ number_again width n [] lt

pub eof_again : (width spare : ℕ) (tlvs : List Tlv) (e : eof_type.Eof) → EofFits width e → spare < 16 → Locates tlvs e.location → eof_at width (eof width spare tlvs e) ≡ Some (bodies.Eof e)
unfolding eof_at
eof_again width spare tlvs e fits lt locates =
    let flags = 16 * e.condition + spare in
    let small : flags < 256 = omega (arith, fits.condition) in
    let condition_is : flags / 16 ≡ e.condition = omega arith in
    rw (
      number_again 1 flags (digits 4 e.checksum ++ (digits width e.size ++ flat_map tlv tlvs)) small,
      number_again 4 e.checksum (digits width e.size ++ flat_map tlv tlvs) fits.checksum,
      number_again width e.size (flat_map tlv tlvs) fits.size,
      items_again location_tlv_at tlv IsLocationTlv location_tlv_again tlv_long tlvs locates.each,
      condition_is,
      locates.kept,
    ) refl

pub finished_again : (spare : ℕ) (tlvs : List Tlv) (f : finished_type.Finished) → FinishedFits f → spare < 2 → Locates tlvs f.location → finished_at (finished spare tlvs f) ≡ Some (bodies.Finished f)
unfolding finished_at
finished_again spare tlvs f fits lt locates =
    let flags = 16 * f.condition + 8 * spare + 4 * delivery_bit f.delivery + file_status_bits f.status in
    let delivery = delivery_bit-below f.delivery in
    let status = file_status_bits-below f.status in
    let small : flags < 256 = omega (arith, fits.condition, delivery, status) in
    let condition_is : flags / 16 ≡ f.condition = omega (arith, delivery, status) in
    let delivery_is : flags / 4 % 2 ≡ delivery_bit f.delivery = omega (arith, delivery, status) in
    let status_is : flags % 4 ≡ file_status_bits f.status = omega (arith, delivery, status) in
    rw (
      number_again 1 flags (flat_map tlv tlvs) small,
      items_again location_tlv_at tlv IsLocationTlv location_tlv_again tlv_long tlvs locates.each,
      condition_is,
      ap delivery_of delivery_is ∙ delivery_of-delivery_bit f.delivery,
      ap file_status_of status_is ∙ file_status_of-file_status_bits f.status,
      locates.kept,
    ) refl

pub ack_again : (subtype spare : ℕ) (a : ack_type.Ack) → AckFits a → subtype < 16 → spare < 4 → ack_of (number_at 1 (ack subtype spare a)) ≡ Ok (bodies.Ack a)
unfolding ack_at
ack_again subtype spare a fits lt_subtype lt =
    let first = 16 * acknowledged_code a.of + subtype in
    let flags = 16 * a.condition + 4 * spare + transaction_status_bits a.status in
    let code = acknowledged_code-below a.of in
    let status = transaction_status_bits-below a.status in
    let first_small : first < 256 = omega (arith, code) in
    let code_is : first / 16 ≡ acknowledged_code a.of = omega arith in
    let small : flags < 256 = omega (arith, fits.condition, status) in
    let condition_is : flags / 16 ≡ a.condition = omega (arith, status) in
    let status_is : flags % 4 ≡ transaction_status_bits a.status = omega (arith, status) in
    rw (
      number_again 1 first (digits 1 flags) first_small,
      code_is,
      acknowledged_with_code-again a.of,
      number_last 1 flags small,
      condition_is,
      ap transaction_status_of status_is ∙ transaction_status_of-transaction_status_bits a.status,
    ) refl

closure_again : (high low kind : ℕ) (closure : Bool) → low < 4 → kind < 16 → eqb ((128 * high + 64 * bit closure + 16 * low + kind) / 64 % 2) 1 ≡ closure
closure_again high low kind true ll lk = eq-eqb ((128 * high + 64 * 1 + 16 * low + kind) / 64 % 2) 1 (omega arith)
closure_again high low kind false ll lk = ne_eqb ((128 * high + 64 * 0 + 16 * low + kind) / 64 % 2) 1 (λ e. omega arith)

pub metadata_again : (width reserved spare : ℕ) (tlvs : List Tlv) (m : metadata_type.Metadata) → MetadataFieldsFit width m → reserved < 2 → spare < 4 → Tells tlvs m.messages
    → metadata_at width (metadata width reserved spare tlvs m) ≡ Some (bodies.Metadata m)
unfolding metadata_at
metadata_again width reserved spare tlvs m fits lr lt tells =
    let flags = 128 * reserved + 64 * bit m.closure + 16 * spare + m.checksum_type in
    let text = flat_map tlv tlvs in
    let names : List ℕ = lv m.source_name ++ (lv m.destination_name ++ text) in
    let small : flags < 256 = omega (arith, fits.checksum_type, bit-below m.closure) in
    let type_is : flags % 16 ≡ m.checksum_type = omega (arith, fits.checksum_type) in
    rw (
      number_again 1 flags (digits width m.size ++ names) small,
      number_again width m.size names fits.size,
      lv_again m.source_name (lv m.destination_name ++ text) fits.source_name,
      lv_again m.destination_name text fits.destination_name,
      items_again tlv_at tlv IsTlv tlv_again tlv_long tlvs tells.each,
      closure_again reserved spare m.checksum_type m.closure lt fits.checksum_type,
      type_is,
      tells.kept,
    ) refl

request_long : (width : ℕ) → 1 ≤ width → (r : SegmentRequest) → 1 ≤ length (request width r)
request_long width long r = omega (arith, length-append (digits width r.start) (digits width r.end), length-digits width r.start, long)

pub nak_again : (width : ℕ) (n : nak_type.Nak) → 1 ≤ width → NakFits width n → nak_at width (nak width n) ≡ Some (bodies.Nak n)
unfolding nak_at
nak_again width n long fits =
    let text = flat_map (request width) n.requests in
    rw (
      number_again width n.start (digits width n.end ++ text) fits.start,
      number_again width n.end text fits.end,
      items_again (request_at width) (request width) (RequestFits width) (request_again width) (request_long width long) n.requests fits.requests,
    ) refl

pub prompt_again : (spare : ℕ) (p : Prompt) → spare < 128 → prompt_at (prompt spare p) ≡ Some (bodies.Prompt p)
unfolding prompt_at
prompt_again spare p lt =
    let flags = 128 * prompt_bit p + spare in
    let asks = prompt_bit-below p in
    let small : flags < 256 = omega (arith, asks) in
    let bit_is : flags / 128 ≡ prompt_bit p = omega arith in
    rw (number_last 1 flags small, ap prompt_of bit_is ∙ prompt_of-prompt_bit p) refl

pub keep_alive_again : (width : ℕ) (k : keep_alive_type.KeepAlive) → KeepAliveFits width k → keep_alive_at width (keep_alive width k) ≡ Some (bodies.KeepAlive k)
unfolding keep_alive_at
keep_alive_again width k fits = rw (number_last width k.progress fits.progress) refl

segment_again : (flag : Bool) (state : ℕ) (segment_metadata rest : List ℕ) → state < 4 → length segment_metadata < 64 → behind_segment_metadata flag (segment flag state segment_metadata ++ rest) ≡ Some rest
unfolding behind_segment_metadata
segment_again false state segment_metadata rest ls lm = refl
segment_again true state segment_metadata rest ls lm =
    let first = 64 * state + length segment_metadata in
    let small : first < 256 = omega arith in
    let count_is : first % 64 ≡ length segment_metadata = omega arith in
    ap (behind_segment_metadata true) (append_assoc (digits 1 first) segment_metadata rest)
    ∙ rw (number_again 1 first (segment_metadata ++ rest) small, count_is, octets_again (length segment_metadata) segment_metadata rest refl) refl

pub file_data_again : (width : ℕ) (flag : Bool) (state : ℕ) (segment_metadata : List ℕ) (f : file_data_type.FileData) → FileDataFits width f → state < 4 → length segment_metadata < 64
    → file_data_at width flag (segment flag state segment_metadata ++ file_data width f) ≡ Some (bodies.FileData f)
unfolding file_data_at
file_data_again width flag state segment_metadata f fits ls lm =
    rw (segment_again flag state segment_metadata (file_data width f) ls lm, number_again width f.offset f.octets fits.offset) refl
