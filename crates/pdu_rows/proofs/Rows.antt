-- Worked rows: the definitions, computed on whole datagrams.
use Rattle.std.proofs.Common.{◌≡◌, ℕ, true, false, List, [], ◌∷◌, Some, None, Ok, Err, refl}
use Rattle.cfdp_types.specs.declared.names.Class.TheVariants.{One, Two}
use Rattle.cfdp_types.specs.declared.names.Delivery.TheVariants.{Incomplete}
use Rattle.cfdp_types.specs.declared.names.FileStatus.TheVariants.{Retained}
use Rattle.pdu_values.specs.declared.bodies.Acknowledged.TheVariants as acknowledged
use Rattle.pdu_values.specs.declared.bodies.Prompt.TheVariants as prompts
use Rattle.pdu_values.specs.declared.bodies.TransactionStatus.TheVariants.{Terminated}
use Rattle.pdu_values.specs.declared.pdu.Direction.TheVariants.{TowardReceiver, TowardSender}
use Rattle.pdu_values.specs.declared.pdu.Header.{Header}
use Rattle.pdu_values.specs.declared.pdu.Body.TheVariants as bodies
use Rattle.pdu_reading.specs.declared.fault.DecodeFault.TheVariants.{TooShort, BadVersion, CrcPresent, LengthMismatch, UnknownDirective, FieldCut, NoFileName}
use Rattle.pdu_values.specs.Pdu.{PduValue}
use Rattle.pdu_values.specs.Numbers.{number_of, digits}
use Rattle.pdu_values.specs.Tlvs.{messages_in, location_in, width_from}
use Rattle.pdu_reading.specs.Items.{items_within, items_to_end}
use Rattle.pdu_values.specs.Spelling.{spelling, written}
use Rattle.pdu_reading.specs.FixedHeader.{header_of}
use Rattle.pdu_reading.specs.Reading.{number_at, lv_at, tlv_at, location_tlv_at, request_at, fixed_header_at, fixed_header_fault, eof_at, finished_at, ack_at, metadata_at, nak_at, prompt_at, keep_alive_at, behind_segment_metadata, file_data_at, body_of, reading}

-- class 1, from entity 1 to entity 2, transaction 5
abbrev header : Header
header = record { direction = TowardReceiver; class = One; large = false; entity_octets = 1; sequence_octets = 1; source = record { 0 = 1 }; sequence = 5; destination = record { 0 = 2 } }

-- ---- Metadata of the file "a" of three octets, to be "b"

abbrev metadata_pdu : PduValue
metadata_pdu = record { header = header; body = bodies.Metadata (record { closure = false; checksum_type = 0; size = 3; source_name = (0x61 ∷ []); destination_name = (0x62 ∷ []); messages = [] }) }

abbrev metadata_octets : List ℕ
metadata_octets = (0x24 ∷ 0x00 ∷ 0x0A ∷ 0x00 ∷ 0x01 ∷ 0x05 ∷ 0x02 ∷ 0x07 ∷ 0x00 ∷ 0x00 ∷ 0x00 ∷ 0x00 ∷ 0x03 ∷ 0x01 ∷ 0x61 ∷ 0x01 ∷ 0x62 ∷ [])

metadata_read : reading metadata_octets ≡ Ok metadata_pdu
unfolding reading fixed_header_at fixed_header_fault header_of body_of number_at lv_at metadata_at items_to_end items_within messages_in number_of
metadata_read = refl

metadata_written : written metadata_pdu ≡ metadata_octets
unfolding written spelling digits
metadata_written = refl

-- the reserved bits set
reserved_read : reading (0x24 ∷ 0x00 ∷ 0x0A ∷ 0x00 ∷ 0x01 ∷ 0x05 ∷ 0x02 ∷ 0x07 ∷ 0xB0 ∷ 0x00 ∷ 0x00 ∷ 0x00 ∷ 0x03 ∷ 0x01 ∷ 0x61 ∷ 0x01 ∷ 0x62 ∷ []) ≡ Ok metadata_pdu
unfolding reading fixed_header_at fixed_header_fault header_of body_of number_at lv_at metadata_at items_to_end items_within messages_in number_of
reserved_read = refl

-- two messages, with a flow label between them, a fault location that is too long, and closure
abbrev told_pdu : PduValue
told_pdu = record { header = header; body = bodies.Metadata (record { closure = true; checksum_type = 15; size = 3; source_name = (0x61 ∷ []); destination_name = (0x62 ∷ []); messages = (0x78 ∷ 0x79 ∷ []) ∷ [] ∷ [] }) }

told_read : reading (0x24 ∷ 0x00 ∷ 0x1E ∷ 0x00 ∷ 0x01 ∷ 0x05 ∷ 0x02 ∷ 0x07 ∷ 0x4F ∷ 0x00 ∷ 0x00 ∷ 0x00 ∷ 0x03 ∷ 0x01 ∷ 0x61 ∷ 0x01 ∷ 0x62 ∷ 0x02 ∷ 0x02 ∷ 0x78 ∷ 0x79 ∷ 0x05 ∷ 0x01 ∷ 0x09 ∷ 0x06 ∷ 0x09 ∷ 0x00 ∷ 0x01 ∷ 0x02 ∷ 0x03 ∷ 0x04 ∷ 0x05 ∷ 0x06 ∷ 0x07 ∷ 0x08 ∷ 0x02 ∷ 0x00 ∷ []) ≡ Ok told_pdu
unfolding reading fixed_header_at fixed_header_fault header_of body_of number_at lv_at tlv_at metadata_at items_to_end items_within messages_in number_of
told_read = refl

told_written : written told_pdu ≡ (0x24 ∷ 0x00 ∷ 0x10 ∷ 0x00 ∷ 0x01 ∷ 0x05 ∷ 0x02 ∷ 0x07 ∷ 0x4F ∷ 0x00 ∷ 0x00 ∷ 0x00 ∷ 0x03 ∷ 0x01 ∷ 0x61 ∷ 0x01 ∷ 0x62 ∷ 0x02 ∷ 0x02 ∷ 0x78 ∷ 0x79 ∷ 0x02 ∷ 0x00 ∷ [])
unfolding written spelling digits
told_written = refl

-- ---- File Data: "abc" at 0

abbrev file_data_pdu : PduValue
file_data_pdu = record { header = header; body = bodies.FileData (record { offset = 0; octets = (0x61 ∷ 0x62 ∷ 0x63 ∷ []) }) }

abbrev file_data_octets : List ℕ
file_data_octets = (0x34 ∷ 0x00 ∷ 0x07 ∷ 0x00 ∷ 0x01 ∷ 0x05 ∷ 0x02 ∷ 0x00 ∷ 0x00 ∷ 0x00 ∷ 0x00 ∷ 0x61 ∷ 0x62 ∷ 0x63 ∷ [])

file_data_read : reading file_data_octets ≡ Ok file_data_pdu
unfolding reading fixed_header_at fixed_header_fault header_of body_of number_at behind_segment_metadata file_data_at number_of
file_data_read = refl

file_data_written : written file_data_pdu ≡ file_data_octets
unfolding written spelling digits
file_data_written = refl

-- with segment metadata of two octets
segment_read : reading (0x34 ∷ 0x00 ∷ 0x0A ∷ 0x08 ∷ 0x01 ∷ 0x05 ∷ 0x02 ∷ 0x02 ∷ 0xAA ∷ 0xBB ∷ 0x00 ∷ 0x00 ∷ 0x00 ∷ 0x00 ∷ 0x61 ∷ 0x62 ∷ 0x63 ∷ []) ≡ Ok file_data_pdu
unfolding reading fixed_header_at fixed_header_fault header_of body_of number_at behind_segment_metadata file_data_at number_of
segment_read = refl

-- segment metadata that reaches past the end
long_segment_read : reading (0x34 ∷ 0x00 ∷ 0x03 ∷ 0x08 ∷ 0x01 ∷ 0x05 ∷ 0x02 ∷ 0x03 ∷ 0xAA ∷ 0xBB ∷ []) ≡ Err FieldCut
unfolding reading fixed_header_at fixed_header_fault header_of body_of number_at behind_segment_metadata file_data_at number_of
long_segment_read = refl

-- ---- EOF without an error, of three octets

abbrev eof_pdu : PduValue
eof_pdu = record { header = header; body = bodies.Eof (record { condition = 0; checksum = 0x61626300; size = 3; location = None }) }

abbrev eof_octets : List ℕ
eof_octets = (0x24 ∷ 0x00 ∷ 0x0A ∷ 0x00 ∷ 0x01 ∷ 0x05 ∷ 0x02 ∷ 0x04 ∷ 0x00 ∷ 0x61 ∷ 0x62 ∷ 0x63 ∷ 0x00 ∷ 0x00 ∷ 0x00 ∷ 0x00 ∷ 0x03 ∷ [])

eof_read : reading eof_octets ≡ Ok eof_pdu
unfolding reading fixed_header_at fixed_header_fault header_of body_of number_at eof_at items_to_end items_within location_in number_of
eof_read = refl

eof_written : written eof_pdu ≡ eof_octets
unfolding written spelling digits
eof_written = refl

-- segmentation control, the segment metadata flag and the spare bits set
spare_read : reading (0x24 ∷ 0x00 ∷ 0x0A ∷ 0x88 ∷ 0x01 ∷ 0x05 ∷ 0x02 ∷ 0x04 ∷ 0x0F ∷ 0x61 ∷ 0x62 ∷ 0x63 ∷ 0x00 ∷ 0x00 ∷ 0x00 ∷ 0x00 ∷ 0x03 ∷ []) ≡ Ok eof_pdu
unfolding reading fixed_header_at fixed_header_fault header_of body_of number_at eof_at items_to_end items_within location_in number_of
spare_read = refl

-- entity IDs of two octets and a sequence number of four
abbrev wide_pdu : PduValue
wide_pdu = record {
  header = record { direction = TowardReceiver; class = One; large = false; entity_octets = 2; sequence_octets = 4; source = record { 0 = 1 }; sequence = 5; destination = record { 0 = 2 } };
  body = eof_pdu.body;
}

abbrev wide_octets : List ℕ
wide_octets = (0x24 ∷ 0x00 ∷ 0x0A ∷ 0x13 ∷ 0x00 ∷ 0x01 ∷ 0x00 ∷ 0x00 ∷ 0x00 ∷ 0x05 ∷ 0x00 ∷ 0x02 ∷ 0x04 ∷ 0x00 ∷ 0x61 ∷ 0x62 ∷ 0x63 ∷ 0x00 ∷ 0x00 ∷ 0x00 ∷ 0x00 ∷ 0x03 ∷ [])

wide_read : reading wide_octets ≡ Ok wide_pdu
unfolding reading fixed_header_at fixed_header_fault header_of body_of number_at eof_at items_to_end items_within location_in number_of
wide_read = refl

wide_written : written wide_pdu ≡ wide_octets
unfolding written spelling digits
wide_written = refl

-- EOF of a cancelled transaction: of two entity IDs the first is the fault location
abbrev cancel_pdu : PduValue
cancel_pdu = record { header = header; body = bodies.Eof (record { condition = 15; checksum = 0x61626300; size = 3; location = Some (record { 0 = 2 }) }) }

cancel_read : reading (0x24 ∷ 0x00 ∷ 0x14 ∷ 0x00 ∷ 0x01 ∷ 0x05 ∷ 0x02 ∷ 0x04 ∷ 0xF0 ∷ 0x61 ∷ 0x62 ∷ 0x63 ∷ 0x00 ∷ 0x00 ∷ 0x00 ∷ 0x00 ∷ 0x03 ∷ 0x05 ∷ 0x01 ∷ 0x09 ∷ 0x06 ∷ 0x02 ∷ 0x00 ∷ 0x02 ∷ 0x06 ∷ 0x01 ∷ 0x03 ∷ []) ≡ Ok cancel_pdu
unfolding reading fixed_header_at fixed_header_fault header_of body_of number_at lv_at tlv_at location_tlv_at eof_at items_to_end items_within location_in number_of
cancel_read = refl

cancel_written : written cancel_pdu ≡ (0x24 ∷ 0x00 ∷ 0x0D ∷ 0x00 ∷ 0x01 ∷ 0x05 ∷ 0x02 ∷ 0x04 ∷ 0xF0 ∷ 0x61 ∷ 0x62 ∷ 0x63 ∷ 0x00 ∷ 0x00 ∷ 0x00 ∷ 0x00 ∷ 0x03 ∷ 0x06 ∷ 0x01 ∷ 0x02 ∷ [])
unfolding written spelling digits width_from
cancel_written = refl

-- a later fault location without octets
empty_location_read : reading (0x24 ∷ 0x00 ∷ 0x0F ∷ 0x00 ∷ 0x01 ∷ 0x05 ∷ 0x02 ∷ 0x04 ∷ 0xF0 ∷ 0x61 ∷ 0x62 ∷ 0x63 ∷ 0x00 ∷ 0x00 ∷ 0x00 ∷ 0x00 ∷ 0x03 ∷ 0x06 ∷ 0x01 ∷ 0x02 ∷ 0x06 ∷ 0x00 ∷ []) ≡ Err FieldCut
unfolding reading fixed_header_at fixed_header_fault header_of body_of number_at lv_at tlv_at location_tlv_at eof_at items_to_end items_within location_in number_of
empty_location_read = refl

-- a fault location in as many octets as the header's IDs have
abbrev wide_cancel_pdu : PduValue
wide_cancel_pdu = record { header = wide_pdu.header; body = cancel_pdu.body }

wide_cancel_written : written wide_cancel_pdu ≡ (0x24 ∷ 0x00 ∷ 0x0E ∷ 0x13 ∷ 0x00 ∷ 0x01 ∷ 0x00 ∷ 0x00 ∷ 0x00 ∷ 0x05 ∷ 0x00 ∷ 0x02 ∷ 0x04 ∷ 0xF0 ∷ 0x61 ∷ 0x62 ∷ 0x63 ∷ 0x00 ∷ 0x00 ∷ 0x00 ∷ 0x00 ∷ 0x03 ∷ 0x06 ∷ 0x02 ∷ 0x00 ∷ 0x02 ∷ [])
unfolding written spelling digits width_from
wide_cancel_written = refl

-- a fault location that needs more octets than the header's IDs have
abbrev far_pdu : PduValue
far_pdu = record { header = header; body = bodies.Eof (record { condition = 15; checksum = 0; size = 3; location = Some (record { 0 = 0x10203 }) }) }

far_written : written far_pdu ≡ (0x24 ∷ 0x00 ∷ 0x0F ∷ 0x00 ∷ 0x01 ∷ 0x05 ∷ 0x02 ∷ 0x04 ∷ 0xF0 ∷ 0x00 ∷ 0x00 ∷ 0x00 ∷ 0x00 ∷ 0x00 ∷ 0x00 ∷ 0x00 ∷ 0x03 ∷ 0x06 ∷ 0x03 ∷ 0x01 ∷ 0x02 ∷ 0x03 ∷ [])
unfolding written spelling digits width_from
far_written = refl

-- ---- Finished, ACK, NAK, Prompt and Keep Alive, class 2

abbrev header_two : Header
header_two = record header { class = Two }

abbrev header_back : Header
header_back = record header_two { direction = TowardSender }

abbrev finished_pdu : PduValue
finished_pdu = record { header = header_back; body = bodies.Finished (record { condition = 7; delivery = Incomplete; status = Retained; location = Some (record { 0 = 2 }) }) }

finished_read : reading (0x28 ∷ 0x00 ∷ 0x07 ∷ 0x00 ∷ 0x01 ∷ 0x05 ∷ 0x02 ∷ 0x05 ∷ 0x7E ∷ 0x00 ∷ 0x00 ∷ 0x06 ∷ 0x01 ∷ 0x02 ∷ []) ≡ Ok finished_pdu
unfolding reading fixed_header_at fixed_header_fault header_of body_of number_at lv_at tlv_at location_tlv_at finished_at items_to_end items_within location_in number_of
finished_read = refl

finished_written : written finished_pdu ≡ (0x28 ∷ 0x00 ∷ 0x05 ∷ 0x00 ∷ 0x01 ∷ 0x05 ∷ 0x02 ∷ 0x05 ∷ 0x76 ∷ 0x06 ∷ 0x01 ∷ 0x02 ∷ [])
unfolding written spelling digits width_from
finished_written = refl

abbrev ack_eof_pdu : PduValue
ack_eof_pdu = record { header = header_back; body = bodies.Ack (record { of = acknowledged.Eof; condition = 15; status = Terminated }) }

ack_eof_read : reading (0x28 ∷ 0x00 ∷ 0x03 ∷ 0x00 ∷ 0x01 ∷ 0x05 ∷ 0x02 ∷ 0x06 ∷ 0x43 ∷ 0xFE ∷ []) ≡ Ok ack_eof_pdu
unfolding reading fixed_header_at fixed_header_fault header_of body_of number_at ack_at number_of
ack_eof_read = refl

ack_eof_written : written ack_eof_pdu ≡ (0x28 ∷ 0x00 ∷ 0x03 ∷ 0x00 ∷ 0x01 ∷ 0x05 ∷ 0x02 ∷ 0x06 ∷ 0x40 ∷ 0xF2 ∷ [])
unfolding written spelling digits
ack_eof_written = refl

abbrev ack_finished_pdu : PduValue
ack_finished_pdu = record { header = header_two; body = bodies.Ack (record { of = acknowledged.Finished; condition = 0; status = Terminated }) }

ack_finished_read : reading (0x20 ∷ 0x00 ∷ 0x03 ∷ 0x00 ∷ 0x01 ∷ 0x05 ∷ 0x02 ∷ 0x06 ∷ 0x50 ∷ 0x02 ∷ []) ≡ Ok ack_finished_pdu
unfolding reading fixed_header_at fixed_header_fault header_of body_of number_at ack_at number_of
ack_finished_read = refl

ack_finished_written : written ack_finished_pdu ≡ (0x20 ∷ 0x00 ∷ 0x03 ∷ 0x00 ∷ 0x01 ∷ 0x05 ∷ 0x02 ∷ 0x06 ∷ 0x51 ∷ 0x02 ∷ [])
unfolding written spelling digits
ack_finished_written = refl

abbrev nak_pdu : PduValue
nak_pdu = record { header = header_back; body = bodies.Nak (record { start = 0; end = 9; requests = record { start = 0; end = 0 } ∷ record { start = 4; end = 9 } ∷ [] }) }

abbrev nak_octets : List ℕ
nak_octets = (0x28 ∷ 0x00 ∷ 0x19 ∷ 0x00 ∷ 0x01 ∷ 0x05 ∷ 0x02 ∷ 0x08 ∷ 0x00 ∷ 0x00 ∷ 0x00 ∷ 0x00 ∷ 0x00 ∷ 0x00 ∷ 0x00 ∷ 0x09 ∷ 0x00 ∷ 0x00 ∷ 0x00 ∷ 0x00 ∷ 0x00 ∷ 0x00 ∷ 0x00 ∷ 0x00 ∷ 0x00 ∷ 0x00 ∷ 0x00 ∷ 0x04 ∷ 0x00 ∷ 0x00 ∷ 0x00 ∷ 0x09 ∷ [])

nak_read : reading nak_octets ≡ Ok nak_pdu
unfolding reading fixed_header_at fixed_header_fault header_of body_of number_at request_at nak_at items_to_end items_within number_of
nak_read = refl

nak_written : written nak_pdu ≡ nak_octets
unfolding written spelling digits
nak_written = refl

-- half a segment request
half_request_read : reading (0x28 ∷ 0x00 ∷ 0x0D ∷ 0x00 ∷ 0x01 ∷ 0x05 ∷ 0x02 ∷ 0x08 ∷ 0x00 ∷ 0x00 ∷ 0x00 ∷ 0x00 ∷ 0x00 ∷ 0x00 ∷ 0x00 ∷ 0x03 ∷ 0x00 ∷ 0x00 ∷ 0x00 ∷ 0x00 ∷ []) ≡ Err FieldCut
unfolding reading fixed_header_at fixed_header_fault header_of body_of number_at request_at nak_at items_to_end items_within number_of
half_request_read = refl

abbrev prompt_pdu : PduValue
prompt_pdu = record { header = header_two; body = bodies.Prompt prompts.KeepAlive }

prompt_read : reading (0x20 ∷ 0x00 ∷ 0x02 ∷ 0x00 ∷ 0x01 ∷ 0x05 ∷ 0x02 ∷ 0x09 ∷ 0xFF ∷ []) ≡ Ok prompt_pdu
unfolding reading fixed_header_at fixed_header_fault header_of body_of number_at prompt_at number_of
prompt_read = refl

prompt_written : written prompt_pdu ≡ (0x20 ∷ 0x00 ∷ 0x02 ∷ 0x00 ∷ 0x01 ∷ 0x05 ∷ 0x02 ∷ 0x09 ∷ 0x80 ∷ [])
unfolding written spelling digits
prompt_written = refl

abbrev keep_alive_pdu : PduValue
keep_alive_pdu = record { header = header_back; body = bodies.KeepAlive (record { progress = 258 }) }

keep_alive_read : reading (0x28 ∷ 0x00 ∷ 0x05 ∷ 0x00 ∷ 0x01 ∷ 0x05 ∷ 0x02 ∷ 0x0C ∷ 0x00 ∷ 0x00 ∷ 0x01 ∷ 0x02 ∷ []) ≡ Ok keep_alive_pdu
unfolding reading fixed_header_at fixed_header_fault header_of body_of number_at keep_alive_at number_of
keep_alive_read = refl

keep_alive_written : written keep_alive_pdu ≡ (0x28 ∷ 0x00 ∷ 0x05 ∷ 0x00 ∷ 0x01 ∷ 0x05 ∷ 0x02 ∷ 0x0C ∷ 0x00 ∷ 0x00 ∷ 0x01 ∷ 0x02 ∷ [])
unfolding written spelling digits
keep_alive_written = refl

-- an octet behind the progress
long_keep_alive_read : reading (0x28 ∷ 0x00 ∷ 0x06 ∷ 0x00 ∷ 0x01 ∷ 0x05 ∷ 0x02 ∷ 0x0C ∷ 0x00 ∷ 0x00 ∷ 0x01 ∷ 0x02 ∷ 0x00 ∷ []) ≡ Err FieldCut
unfolding reading fixed_header_at fixed_header_fault header_of body_of number_at keep_alive_at number_of
long_keep_alive_read = refl

-- ---- faults

-- two octets
short_read : reading (0x24 ∷ 0x00 ∷ []) ≡ Err TooShort
unfolding reading fixed_header_at number_at number_of
short_read = refl

-- version 000, and a CRC
version_read : reading (0x06 ∷ 0x00 ∷ 0x00 ∷ 0x00 ∷ 0x01 ∷ 0x05 ∷ 0x02 ∷ []) ≡ Err BadVersion
unfolding reading fixed_header_at fixed_header_fault number_at number_of
version_read = refl

-- a CRC and a large file
crc_read : reading (0x27 ∷ 0x00 ∷ 0x00 ∷ 0x00 ∷ 0x01 ∷ 0x05 ∷ 0x02 ∷ []) ≡ Err CrcPresent
unfolding reading fixed_header_at fixed_header_fault number_at number_of
crc_read = refl

-- an octet behind the data field
long_read : reading (0x24 ∷ 0x00 ∷ 0x01 ∷ 0x00 ∷ 0x01 ∷ 0x05 ∷ 0x02 ∷ 0x04 ∷ 0x00 ∷ []) ≡ Err LengthMismatch
unfolding reading fixed_header_at fixed_header_fault number_at number_of
long_read = refl

-- a directive's data field that is empty
empty_read : reading (0x24 ∷ 0x00 ∷ 0x00 ∷ 0x00 ∷ 0x01 ∷ 0x05 ∷ 0x02 ∷ []) ≡ Err FieldCut
unfolding reading fixed_header_at fixed_header_fault body_of number_at number_of
empty_read = refl

-- a directive code without a meaning
unknown_read : reading (0x24 ∷ 0x00 ∷ 0x01 ∷ 0x00 ∷ 0x01 ∷ 0x05 ∷ 0x02 ∷ 0x0A ∷ []) ≡ Err UnknownDirective
unfolding reading fixed_header_at fixed_header_fault body_of number_at number_of
unknown_read = refl

-- ACK of an ACK
ack_ack_read : reading (0x28 ∷ 0x00 ∷ 0x03 ∷ 0x00 ∷ 0x01 ∷ 0x05 ∷ 0x02 ∷ 0x06 ∷ 0x60 ∷ 0x01 ∷ []) ≡ Err UnknownDirective
unfolding reading fixed_header_at fixed_header_fault body_of number_at number_of
ack_ack_read = refl

-- ACK of an ACK without its second octet
short_ack_ack_read : reading (0x28 ∷ 0x00 ∷ 0x02 ∷ 0x00 ∷ 0x01 ∷ 0x05 ∷ 0x02 ∷ 0x06 ∷ 0x60 ∷ []) ≡ Err UnknownDirective
unfolding reading fixed_header_at fixed_header_fault body_of number_at number_of
short_ack_ack_read = refl

-- ACK without any octet behind its code
empty_ack_read : reading (0x28 ∷ 0x00 ∷ 0x01 ∷ 0x00 ∷ 0x01 ∷ 0x05 ∷ 0x02 ∷ 0x06 ∷ []) ≡ Err FieldCut
unfolding reading fixed_header_at fixed_header_fault body_of number_at number_of
empty_ack_read = refl

-- Metadata whose source name is empty
nameless_read : reading (0x24 ∷ 0x00 ∷ 0x09 ∷ 0x00 ∷ 0x01 ∷ 0x05 ∷ 0x02 ∷ 0x07 ∷ 0x00 ∷ 0x00 ∷ 0x00 ∷ 0x00 ∷ 0x03 ∷ 0x00 ∷ 0x01 ∷ 0x62 ∷ []) ≡ Err NoFileName
unfolding reading fixed_header_at fixed_header_fault header_of body_of number_at lv_at metadata_at items_to_end items_within messages_in number_of
nameless_read = refl

-- Metadata whose source name is empty, with half a TLV at its end
nameless_cut_read : reading (0x24 ∷ 0x00 ∷ 0x0A ∷ 0x00 ∷ 0x01 ∷ 0x05 ∷ 0x02 ∷ 0x07 ∷ 0x00 ∷ 0x00 ∷ 0x00 ∷ 0x00 ∷ 0x03 ∷ 0x00 ∷ 0x01 ∷ 0x62 ∷ 0x02 ∷ []) ≡ Err FieldCut
unfolding reading fixed_header_at fixed_header_fault header_of body_of number_at lv_at tlv_at metadata_at items_to_end items_within messages_in number_of
nameless_cut_read = refl
