-- Meaning. Reading octets from left to right. A reader of fields gives the value and the octets after it, or
-- nothing; which fault that is, is decided once a whole list of fields was read.
use Rattle.std.specs.Prelude.{◌≡◌, ℕ, ◌/◌, ◌%◌, Bool, true, false, ◌||◌, not, List, length, take, drop, Option, Some, None, Result, Ok, Err, IsOk, ◌⊎◌, nat_lt, ◌==◌, if◌then◌else◌}
use Rattle.cfdp_types.specs.declared.names.Delivery.{Delivery}
use Rattle.cfdp_types.specs.declared.names.Delivery.TheVariants.{Complete, Incomplete}
use Rattle.cfdp_types.specs.declared.names.FileStatus.{FileStatus}
use Rattle.cfdp_types.specs.declared.names.FileStatus.TheVariants.{Discarded, Rejected, Retained, Unreported}
use Rattle.pdu_values.specs.declared.bodies.Acknowledged.{Acknowledged}
use Rattle.pdu_values.specs.declared.bodies.Acknowledged.TheVariants as acknowledged
use Rattle.pdu_values.specs.declared.bodies.TransactionStatus.{TransactionStatus}
use Rattle.pdu_values.specs.declared.bodies.TransactionStatus.TheVariants.{Undefined, Active, Terminated, Unrecognized}
use Rattle.pdu_values.specs.declared.bodies.Prompt.{Prompt}
use Rattle.pdu_values.specs.declared.bodies.Prompt.TheVariants as prompts
use Rattle.pdu_values.specs.declared.requests.SegmentRequest.{SegmentRequest}
use Rattle.pdu_values.specs.declared.directive.Directive.{Directive}
use Rattle.pdu_values.specs.declared.directive.Directive.TheVariants as directives
use Rattle.pdu_values.specs.declared.pdu.Body.{Body}
use Rattle.pdu_values.specs.declared.pdu.Body.TheVariants as bodies
use Rattle.pdu_reading.specs.declared.fixed_header.FixedHeader.{FixedHeader}
use Rattle.pdu_reading.specs.declared.fault.DecodeFault.{DecodeFault}
use Rattle.pdu_reading.specs.declared.fault.DecodeFault.TheVariants.{TooShort, BadVersion, CrcPresent, LengthMismatch, UnknownDirective, FieldCut, NoFileName, NoMemory}
use Rattle.pdu_values.specs.Directive.{directive_with_code}
use Rattle.pdu_values.specs.Pdu.{PduValue}
use Rattle.pdu_values.specs.Numbers.{number_of}
use Rattle.pdu_values.specs.Tlvs.{Tlv, messages_in, location_in, may_locate}
use Rattle.pdu_reading.specs.Items.{◌>>=◌, items_to_end, closed}
use Rattle.pdu_values.specs.Spelling.{size_octets}
use Rattle.pdu_reading.specs.FixedHeader.{entity_octets, sequence_octets, has_segment_metadata, version, is_file_data, has_crc, is_large, header_of}

-- ---- readers of fields

-- this many octets
abbrev pub octets_at : ℕ → List ℕ → Option (List ℕ × List ℕ)
octets_at count octets = if nat_lt (length octets) count then None else Some (take count octets, drop count octets)

-- a number of this many octets
unfoldable pub number_at : ℕ → List ℕ → Option (ℕ × List ℕ)
number_at width octets = do
  front ← octets_at width octets
  Some (number_of front.0, front.1)

-- a length in one octet, and that many octets
unfoldable pub lv_at : List ℕ → Option (List ℕ × List ℕ)
lv_at octets = do
  count ← number_at 1 octets
  octets_at count.0 count.1

-- a TLV
unfoldable pub tlv_at : List ℕ → Option (Tlv × List ℕ)
tlv_at octets = do
  kind ← number_at 1 octets
  value ← lv_at kind.1
  Some (record { kind = kind.0; value = value.0 }, value.1)

-- an optional field of EOF or Finished
unfoldable pub location_tlv_at : List ℕ → Option (Tlv × List ℕ)
location_tlv_at octets = do
  found ← tlv_at octets
  if may_locate found.0 then Some found else None

-- a segment request, whose offsets have this width in octets
unfoldable pub request_at : ℕ → List ℕ → Option (SegmentRequest × List ℕ)
request_at width octets = do
  start ← number_at width octets
  end ← number_at width start.1
  Some (record { start = start.0; end = end.0 }, end.1)

-- ---- the fixed header

-- the numbers of the fixed header, not yet interpreted
unfoldable pub fixed_header_at : List ℕ → Option (FixedHeader × List ℕ)
fixed_header_at octets = do
  first ← number_at 1 octets
  size ← number_at 2 first.1
  lengths ← number_at 1 size.1
  source ← number_at (entity_octets lengths.0) lengths.1
  sequence ← number_at (sequence_octets lengths.0) source.1
  destination ← number_at (entity_octets lengths.0) sequence.1
  Some (
    record {
      first = first.0;
      size = size.0;
      lengths = lengths.0;
      source = source.0;
      sequence = sequence.0;
      destination = destination.0;
    },
    destination.1,
  )

-- what is wrong with the fixed header, or with the length of the data field after it
unfoldable pub fixed_header_fault : FixedHeader → List ℕ → Option DecodeFault
fixed_header_fault o field =
    if not (version o.first == 1) then Some BadVersion else
    (if has_crc o.first then Some CrcPresent else
    (if not (length field == o.size) then Some LengthMismatch else None))

-- ---- bits

-- the delivery code, from its bit
abbrev pub delivery_of : ℕ → Delivery
delivery_of bit = if bit == 0 then Complete else Incomplete

-- the file status, from its two bits
abbrev pub file_status_of : ℕ → FileStatus
file_status_of bits =
    if bits == 0 then Discarded else (if bits == 1 then Rejected else (if bits == 2 then Retained else Unreported))

-- the transaction status, from its two bits
abbrev pub transaction_status_of : ℕ → TransactionStatus
transaction_status_of bits =
    if bits == 0 then Undefined else (if bits == 1 then Active else (if bits == 2 then Terminated else Unrecognized))

-- the kind of PDU that an ACK acknowledges, from its directive code
abbrev pub acknowledged_with_code : ℕ → Option Acknowledged
acknowledged_with_code code =
    if code == 4 then Some acknowledged.Eof else (if code == 5 then Some acknowledged.Finished else None)

-- what a Prompt asks for, from its bit
abbrev pub prompt_of : ℕ → Prompt
prompt_of bit = if bit == 0 then prompts.Nak else prompts.KeepAlive

-- ---- the fields of a data field, up to its end; `width` is that of sizes and offsets in octets

-- EOF
unfoldable pub eof_at : ℕ → List ℕ → Option Body
eof_at width octets = do
  flags ← number_at 1 octets
  checksum ← number_at 4 flags.1
  size ← number_at width checksum.1
  tlvs ← items_to_end location_tlv_at size.1
  Some (bodies.Eof (record { condition = flags.0 / 16; checksum = checksum.0; size = size.0; location = location_in tlvs }))

-- Finished
unfoldable pub finished_at : List ℕ → Option Body
finished_at octets = do
  flags ← number_at 1 octets
  tlvs ← items_to_end location_tlv_at flags.1
  Some (bodies.Finished (record {
    condition = flags.0 / 16;
    delivery = delivery_of (flags.0 / 4 % 2);
    status = file_status_of (flags.0 % 4);
    location = location_in tlvs;
  }))

-- ACK of a kind of PDU, after the code that it acknowledges
unfoldable pub ack_at : Acknowledged → List ℕ → Option Body
ack_at of octets = do
  flags ← number_at 1 octets
  closed flags.1 (bodies.Ack (record { of = of; condition = flags.0 / 16; status = transaction_status_of (flags.0 % 4) }))

-- Metadata
unfoldable pub metadata_at : ℕ → List ℕ → Option Body
metadata_at width octets = do
  flags ← number_at 1 octets
  size ← number_at width flags.1
  source_name ← lv_at size.1
  destination_name ← lv_at source_name.1
  tlvs ← items_to_end tlv_at destination_name.1
  Some (bodies.Metadata (record {
    closure = flags.0 / 64 % 2 == 1;
    checksum_type = flags.0 % 16;
    size = size.0;
    source_name = source_name.0;
    destination_name = destination_name.0;
    messages = messages_in tlvs;
  }))

-- NAK
unfoldable pub nak_at : ℕ → List ℕ → Option Body
nak_at width octets = do
  start ← number_at width octets
  end ← number_at width start.1
  requests ← items_to_end (request_at width) end.1
  Some (bodies.Nak (record { start = start.0; end = end.0; requests = requests }))

-- Prompt
unfoldable pub prompt_at : List ℕ → Option Body
prompt_at octets = do
  flags ← number_at 1 octets
  closed flags.1 (bodies.Prompt (prompt_of (flags.0 / 128)))

-- Keep Alive
unfoldable pub keep_alive_at : ℕ → List ℕ → Option Body
keep_alive_at width octets = do
  progress ← number_at width octets
  closed progress.1 (bodies.KeepAlive (record { progress = progress.0 }))

-- the octets after the segment metadata, which is present where the flag is set
unfoldable pub behind_segment_metadata : Bool → List ℕ → Option (List ℕ)
behind_segment_metadata false octets = Some octets
behind_segment_metadata true octets = do
  count ← number_at 1 octets
  dropped ← octets_at (count.0 % 64) count.1
  Some dropped.1

-- File Data: all octets after the offset are the file's
unfoldable pub file_data_at : ℕ → Bool → List ℕ → Option Body
file_data_at width flag octets = do
  fields ← behind_segment_metadata flag octets
  offset ← number_at width fields
  Some (bodies.FileData (record { offset = offset.0; octets = offset.1 }))

-- ---- the data field

-- whether a file name in Metadata is empty
abbrev pub lacks_name : Body → Bool
lacks_name (bodies.Eof e) = false
lacks_name (bodies.Finished f) = false
lacks_name (bodies.Ack a) = false
lacks_name (bodies.Metadata m) = (length m.source_name == 0) || (length m.destination_name == 0)
lacks_name (bodies.Nak n) = false
lacks_name (bodies.Prompt p) = false
lacks_name (bodies.KeepAlive k) = false
lacks_name (bodies.FileData f) = false

-- the body, or FieldCut where its fields could not be read, or NoFileName
abbrev pub whole_body : Option Body → Result Body DecodeFault
whole_body None = Err FieldCut
whole_body (Some body) = if lacks_name body then Err NoFileName else Ok body

-- the fields of an ACK, or UnknownDirective where it acknowledges neither EOF nor Finished
abbrev pub ack_of_kind : Option Acknowledged → List ℕ → Result Body DecodeFault
ack_of_kind None octets = Err UnknownDirective
ack_of_kind (Some of) octets = whole_body (ack_at of octets)

-- the fields of an ACK, after its first octet, whose upper half is the code that it acknowledges
abbrev pub ack_of : Option (ℕ × List ℕ) → Result Body DecodeFault
ack_of None = Err FieldCut
ack_of (Some x) = ack_of_kind (acknowledged_with_code (x.0 / 16)) x.1

-- the body of a directive, from the octets after its code; `width` is that of sizes and offsets in octets
abbrev pub fields_of : ℕ → Option Directive → List ℕ → Result Body DecodeFault
fields_of width None octets = Err UnknownDirective
fields_of width (Some directives.Eof) octets = whole_body (eof_at width octets)
fields_of width (Some directives.Finished) octets = whole_body (finished_at octets)
fields_of width (Some directives.Ack) octets = ack_of (number_at 1 octets)
fields_of width (Some directives.Metadata) octets = whole_body (metadata_at width octets)
fields_of width (Some directives.Nak) octets = whole_body (nak_at width octets)
fields_of width (Some directives.Prompt) octets = whole_body (prompt_at octets)
fields_of width (Some directives.KeepAlive) octets = whole_body (keep_alive_at width octets)

-- the body of a directive, from its code and the octets after it
abbrev pub directive_of : ℕ → Option (ℕ × List ℕ) → Result Body DecodeFault
directive_of width None = Err FieldCut
directive_of width (Some x) = fields_of width (directive_with_code x.0) x.1

-- the body in a data field
unfoldable pub body_of : FixedHeader → List ℕ → Result Body DecodeFault
body_of o field =
    if is_file_data o.first then whole_body (file_data_at (size_octets (is_large o.first)) (has_segment_metadata o.lengths) field)
    else directive_of (size_octets (is_large o.first)) (number_at 1 field)

-- ---- the whole

-- the PDU with a fixed header and a body, or the body's fault
abbrev pub pdu_with_body : FixedHeader → Result Body DecodeFault → Result PduValue DecodeFault
pdu_with_body o (Ok body) = Ok (record { header = header_of o; body = body })
pdu_with_body o (Err fault) = Err fault

-- the PDU in a fixed header and a data field, unless the header has a fault
abbrev pub pdu_from_field : FixedHeader → List ℕ → Option DecodeFault → Result PduValue DecodeFault
pdu_from_field o field None = pdu_with_body o (body_of o field)
pdu_from_field o field (Some fault) = Err fault

-- the PDU, from the fixed header, if it could be read, and the octets after it
abbrev pub pdu_from_fixed_header : Option (FixedHeader × List ℕ) → Result PduValue DecodeFault
pdu_from_fixed_header None = Err TooShort
pdu_from_fixed_header (Some x) = pdu_from_field x.0 x.1 (fixed_header_fault x.0 x.1)

-- the PDU that octets spell, or their first fault
unfoldable pub reading : List ℕ → Result PduValue DecodeFault
reading octets = pdu_from_fixed_header (fixed_header_at octets)

-- ---- what the code's functions return

-- the code's result shows what the reader gives
abbrev pub Gives : {X Y : Type 0} → (X → Y) → Option X → Option Y → Type 0
Gives view (Some x) read = read ≡ Some (view x)
Gives view None read = read ≡ None

-- the code's result shows what the reader gives, or the same fault
abbrev pub Answers : {X Y : Type 0} → (X → Y) → Result X DecodeFault → Result Y DecodeFault → Type 0
Answers view (Ok x) read = read ≡ Ok (view x)
Answers view (Err fault) read = read ≡ Err fault

-- the result is what is read, or NoMemory where a PDU is read
abbrev pub IsUnlessMemory : Result PduValue DecodeFault → Result PduValue DecodeFault → Type 0
IsUnlessMemory result read = (result ≡ read) ⊎ ((result ≡ Err NoMemory) × IsOk read)

-- the result is this PDU, or NoMemory
abbrev pub IsFound : Result PduValue DecodeFault → PduValue → Type 0
IsFound result pdu = (result ≡ Ok pdu) ⊎ (result ≡ Err NoMemory)
