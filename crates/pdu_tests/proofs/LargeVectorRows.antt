-- Datagrams with the large file flag: sizes and offsets in eight octets, at the edges of four and of eight, worked by hand from
-- the formats.
use Rattle.std.proofs.Common.{◌≡◌, ℕ, true, false, List, [], ◌∷◌, map, replicate, Some, None, Result, Ok, Err, refl}
use Rattle.cfdp_types.specs.declared.names.Class.TheVariants.{One, Two}
use Rattle.cfdp_types.specs.declared.names.Delivery.TheVariants.{Complete}
use Rattle.cfdp_types.specs.declared.names.FileStatus.TheVariants.{Retained}
use Rattle.pdu_values.specs.declared.bodies.Acknowledged.TheVariants as acknowledged
use Rattle.pdu_values.specs.declared.bodies.Prompt.TheVariants as prompt
use Rattle.pdu_values.specs.declared.bodies.TransactionStatus.TheVariants.{Active}
use Rattle.pdu_values.specs.declared.pdu.Direction.TheVariants.{TowardReceiver, TowardSender}
use Rattle.pdu_values.specs.declared.pdu.Header.{Header}
use Rattle.pdu_values.specs.declared.pdu.Body.TheVariants as bodies
use Rattle.pdu_values.specs.Pdu.{PduValue}
use Rattle.pdu_values.specs.Numbers.{digits, number_of}
use Rattle.pdu_values.specs.Spelling.{spelling, written}
use Rattle.pdu_values.specs.Tlvs.{location_in, messages_in, width_from}
use Rattle.pdu_reading.specs.declared.fault.DecodeFault.{DecodeFault}
use Rattle.pdu_reading.specs.declared.fault.DecodeFault.TheVariants.{CrcPresent, LengthMismatch, UnknownDirective, FieldCut}
use Rattle.pdu_reading.specs.Items.{items_to_end, items_within}
use Rattle.pdu_reading.specs.FixedHeader.{header_of}
use Rattle.pdu_reading.specs.Reading.{number_at, lv_at, tlv_at, location_tlv_at, request_at, fixed_header_at, fixed_header_fault, eof_at, finished_at, ack_at, metadata_at, nak_at, prompt_at, keep_alive_at, behind_segment_metadata, file_data_at, body_of, reading}

-- ---- headers: of class 1 or 2, back to the sender or not, and the octets of an ID and of a sequence number where they
-- are not one each

abbrev one : Header
one = record { direction = TowardReceiver; class = One; large = true; entity_octets = 1; sequence_octets = 1; source = record { 0 = 1 }; sequence = 5; destination = record { 0 = 2 } }

abbrev two : Header
two = record { direction = TowardReceiver; class = Two; large = true; entity_octets = 1; sequence_octets = 1; source = record { 0 = 1 }; sequence = 5; destination = record { 0 = 2 } }

abbrev two_back : Header
two_back = record { direction = TowardSender; class = Two; large = true; entity_octets = 1; sequence_octets = 1; source = record { 0 = 1 }; sequence = 5; destination = record { 0 = 2 } }

abbrev one_back : Header
one_back = record { direction = TowardSender; class = One; large = true; entity_octets = 1; sequence_octets = 1; source = record { 0 = 1 }; sequence = 5; destination = record { 0 = 2 } }

-- ---- EOF

abbrev eofs : List PduValue
eofs =
    record { header = one; body = bodies.Eof (record { condition = 0; checksum = 1633837824; size = 3; location = None }) }
    ∷ record { header = one; body = bodies.Eof (record { condition = 0; checksum = 1633837824; size = 4294967295; location = None }) }
    ∷ record { header = one; body = bodies.Eof (record { condition = 0; checksum = 1633837824; size = 4294967296; location = None }) }
    ∷ record { header = one; body = bodies.Eof (record { condition = 0; checksum = 1633837824; size = 18446744073709551615; location = None }) }
    ∷ record { header = two; body = bodies.Eof (record { condition = 15; checksum = 0; size = 4294967296; location = Some (record { 0 = 1 }) }) }
    ∷ []

abbrev eofs_octets : List (List ℕ)
eofs_octets =
    digits 21 0x25000e000105020400616263000000000000000003
    ∷ digits 21 0x25000e0001050204006162630000000000ffffffff
    ∷ digits 21 0x25000e000105020400616263000000000100000000
    ∷ digits 21 0x25000e00010502040061626300ffffffffffffffff
    ∷ digits 24 0x2100110001050204f0000000000000000100000000060101
    ∷ []

eofs_read : map reading eofs_octets ≡ map Ok eofs
unfolding reading fixed_header_at fixed_header_fault header_of body_of number_at lv_at tlv_at location_tlv_at request_at eof_at finished_at ack_at metadata_at nak_at prompt_at keep_alive_at behind_segment_metadata file_data_at items_to_end items_within messages_in location_in number_of digits
eofs_read = refl

eofs_written : map written eofs ≡ eofs_octets
unfolding written spelling digits width_from
eofs_written = refl

-- ---- Metadata

abbrev metadata : List PduValue
metadata =
    record { header = one; body = bodies.Metadata (record { closure = false; checksum_type = 0; size = 3; source_name = (digits 1 0x61); destination_name = (digits 1 0x62); messages = [] }) }
    ∷ record { header = one; body = bodies.Metadata (record { closure = false; checksum_type = 0; size = 4294967295; source_name = (digits 1 0x61); destination_name = (digits 1 0x62); messages = [] }) }
    ∷ record { header = two; body = bodies.Metadata (record { closure = false; checksum_type = 15; size = 4294967296; source_name = (digits 1 0x61); destination_name = (digits 1 0x62); messages = [] }) }
    ∷ record { header = one; body = bodies.Metadata (record { closure = false; checksum_type = 0; size = 18446744073709551615; source_name = (digits 1 0x61); destination_name = (digits 1 0x62); messages = [] }) }
    ∷ []

abbrev metadata_octets : List (List ℕ)
metadata_octets =
    digits 21 0x25000e000105020700000000000000000301610162
    ∷ digits 21 0x25000e00010502070000000000ffffffff01610162
    ∷ digits 21 0x21000e00010502070f000000010000000001610162
    ∷ digits 21 0x25000e000105020700ffffffffffffffff01610162
    ∷ []

metadata_read : map reading metadata_octets ≡ map Ok metadata
unfolding reading fixed_header_at fixed_header_fault header_of body_of number_at lv_at tlv_at location_tlv_at request_at eof_at finished_at ack_at metadata_at nak_at prompt_at keep_alive_at behind_segment_metadata file_data_at items_to_end items_within messages_in location_in number_of digits
metadata_read = refl

metadata_written : map written metadata ≡ metadata_octets
unfolding written spelling digits width_from
metadata_written = refl

-- ---- File Data

abbrev file_data : List PduValue
file_data =
    record { header = one; body = bodies.FileData (record { offset = 0; octets = (digits 3 0x616263) }) }
    ∷ record { header = two; body = bodies.FileData (record { offset = 3; octets = (digits 3 0x616263) }) }
    ∷ record { header = one; body = bodies.FileData (record { offset = 4294967295; octets = (digits 3 0x616263) }) }
    ∷ record { header = one; body = bodies.FileData (record { offset = 4294967296; octets = (digits 3 0x616263) }) }
    ∷ record { header = one; body = bodies.FileData (record { offset = 18446744073709551615; octets = (digits 3 0x616263) }) }
    ∷ record { header = two; body = bodies.FileData (record { offset = 18446744073709551615; octets = [] }) }
    ∷ []

abbrev file_data_octets : List (List ℕ)
file_data_octets =
    digits 18 0x35000b000105020000000000000000616263
    ∷ digits 18 0x31000b000105020000000000000003616263
    ∷ digits 18 0x35000b0001050200000000ffffffff616263
    ∷ digits 18 0x35000b000105020000000100000000616263
    ∷ digits 18 0x35000b00010502ffffffffffffffff616263
    ∷ digits 15 0x31000800010502ffffffffffffffff
    ∷ []

file_data_read : map reading file_data_octets ≡ map Ok file_data
unfolding reading fixed_header_at fixed_header_fault header_of body_of number_at lv_at tlv_at location_tlv_at request_at eof_at finished_at ack_at metadata_at nak_at prompt_at keep_alive_at behind_segment_metadata file_data_at items_to_end items_within messages_in location_in number_of digits
file_data_read = refl

file_data_written : map written file_data ≡ file_data_octets
unfolding written spelling digits width_from
file_data_written = refl

-- ---- NAK

abbrev naks : List PduValue
naks =
    record { header = two_back; body = bodies.Nak (record { start = 0; end = 3; requests = record { start = 0; end = 0 } ∷ [] }) }
    ∷ record { header = two_back; body = bodies.Nak (record { start = 4294967295; end = 18446744073709551615; requests = record { start = 4294967295; end = 4294967296 } ∷ record { start = 4294967296; end = 18446744073709551615 } ∷ [] }) }
    ∷ record { header = one_back; body = bodies.Nak (record { start = 0; end = 4294967296; requests = [] }) }
    ∷ []

abbrev naks_octets : List (List ℕ)
naks_octets =
    digits 40 0x29002100010502080000000000000000000000000000000300000000000000000000000000000000
    ∷ digits 56 0x290031000105020800000000ffffffffffffffffffffffff00000000ffffffff00000001000000000000000100000000ffffffffffffffff
    ∷ digits 24 0x2d0011000105020800000000000000000000000100000000
    ∷ []

naks_read : map reading naks_octets ≡ map Ok naks
unfolding reading fixed_header_at fixed_header_fault header_of body_of number_at lv_at tlv_at location_tlv_at request_at eof_at finished_at ack_at metadata_at nak_at prompt_at keep_alive_at behind_segment_metadata file_data_at items_to_end items_within messages_in location_in number_of digits
naks_read = refl

naks_written : map written naks ≡ naks_octets
unfolding written spelling digits width_from
naks_written = refl

-- ---- Keep Alive

abbrev keep_alives : List PduValue
keep_alives =
    record { header = two_back; body = bodies.KeepAlive (record { progress = 3 }) }
    ∷ record { header = two_back; body = bodies.KeepAlive (record { progress = 4294967295 }) }
    ∷ record { header = two_back; body = bodies.KeepAlive (record { progress = 4294967296 }) }
    ∷ record { header = two_back; body = bodies.KeepAlive (record { progress = 18446744073709551615 }) }
    ∷ []

abbrev keep_alives_octets : List (List ℕ)
keep_alives_octets =
    digits 16 0x290009000105020c0000000000000003
    ∷ digits 16 0x290009000105020c00000000ffffffff
    ∷ digits 16 0x290009000105020c0000000100000000
    ∷ digits 16 0x290009000105020cffffffffffffffff
    ∷ []

keep_alives_read : map reading keep_alives_octets ≡ map Ok keep_alives
unfolding reading fixed_header_at fixed_header_fault header_of body_of number_at lv_at tlv_at location_tlv_at request_at eof_at finished_at ack_at metadata_at nak_at prompt_at keep_alive_at behind_segment_metadata file_data_at items_to_end items_within messages_in location_in number_of digits
keep_alives_read = refl

keep_alives_written : map written keep_alives ≡ keep_alives_octets
unfolding written spelling digits width_from
keep_alives_written = refl

-- ---- Finished

abbrev finished : List PduValue
finished =
    record { header = two_back; body = bodies.Finished (record { condition = 0; delivery = Complete; status = Retained; location = None }) }
    ∷ []

abbrev finished_octets : List (List ℕ)
finished_octets =
    digits 9 0x290002000105020502
    ∷ []

finished_read : map reading finished_octets ≡ map Ok finished
unfolding reading fixed_header_at fixed_header_fault header_of body_of number_at lv_at tlv_at location_tlv_at request_at eof_at finished_at ack_at metadata_at nak_at prompt_at keep_alive_at behind_segment_metadata file_data_at items_to_end items_within messages_in location_in number_of digits
finished_read = refl

finished_written : map written finished ≡ finished_octets
unfolding written spelling digits width_from
finished_written = refl

-- ---- ACK

abbrev acks : List PduValue
acks =
    record { header = two_back; body = bodies.Ack (record { of = acknowledged.Eof; condition = 0; status = Active }) }
    ∷ []

abbrev acks_octets : List (List ℕ)
acks_octets =
    digits 10 0x29000300010502064001
    ∷ []

acks_read : map reading acks_octets ≡ map Ok acks
unfolding reading fixed_header_at fixed_header_fault header_of body_of number_at lv_at tlv_at location_tlv_at request_at eof_at finished_at ack_at metadata_at nak_at prompt_at keep_alive_at behind_segment_metadata file_data_at items_to_end items_within messages_in location_in number_of digits
acks_read = refl

acks_written : map written acks ≡ acks_octets
unfolding written spelling digits width_from
acks_written = refl

-- ---- Prompt

abbrev prompts : List PduValue
prompts =
    record { header = two; body = bodies.Prompt prompt.KeepAlive }
    ∷ []

abbrev prompts_octets : List (List ℕ)
prompts_octets =
    digits 9 0x210002000105020980
    ∷ []

prompts_read : map reading prompts_octets ≡ map Ok prompts
unfolding reading fixed_header_at fixed_header_fault header_of body_of number_at lv_at tlv_at location_tlv_at request_at eof_at finished_at ack_at metadata_at nak_at prompt_at keep_alive_at behind_segment_metadata file_data_at items_to_end items_within messages_in location_in number_of digits
prompts_read = refl

prompts_written : map written prompts ≡ prompts_octets
unfolding written spelling digits width_from
prompts_written = refl

-- ---- what has no meaning is not written again

abbrev written_if : Result PduValue DecodeFault → List ℕ
written_if (Ok pdu) = written pdu
written_if (Err fault) = []

abbrev odd : List (List ℕ)
odd =
    digits 20 0x35000d0801050281bb0000000100000000616263
    ∷ digits 26 0x25001300010502040f0000000100000000000000090103616263
    ∷ digits 23 0x2500100001050207b00000000000000003016101620500
    ∷ []

-- the octets that are written for the same PDU
abbrev plain : List (List ℕ)
plain =
    digits 18 0x35000b000105020000000100000000616263
    ∷ digits 21 0x25000e000105020400000000010000000000000009
    ∷ digits 21 0x25000e000105020700000000000000000301610162
    ∷ []

odd_read : map (λ octets. written_if (reading octets)) odd ≡ plain
unfolding reading fixed_header_at fixed_header_fault header_of body_of number_at lv_at tlv_at location_tlv_at request_at eof_at finished_at ack_at metadata_at nak_at prompt_at keep_alive_at behind_segment_metadata file_data_at items_to_end items_within messages_in location_in number_of written spelling digits width_from
odd_read = refl

-- ---- octets that are no PDU, by their first fault

field_cut : map reading (
    digits 17 0x25000a0001050204006162630000000003
    ∷ digits 20 0x25000d0001050204006162630000000000000000
    ∷ digits 17 0x25000a0001050207000000000301610162
    ∷ digits 14 0x3500070001050200000000616263
    ∷ digits 12 0x290005000105020c00000003
    ∷ digits 20 0x29000d0001050208000000000000000000000000
    ∷ digits 32 0x2900190001050208000000000000000000000000000000030000000000000000
    ∷ digits 39 0x290020000105020800000000000000000000000000000003000000000000000000000000000000
    ∷ digits 21 0x24000e000105020400616263000000000000000003
    ∷ digits 21 0x24000e000105020700000000000000000301610162
    ∷ digits 16 0x280009000105020c0000000000000003
    ∷ []) ≡ replicate 11 (Err FieldCut)
unfolding reading fixed_header_at fixed_header_fault header_of body_of number_at lv_at tlv_at location_tlv_at request_at eof_at finished_at ack_at metadata_at nak_at prompt_at keep_alive_at behind_segment_metadata file_data_at items_to_end items_within messages_in location_in number_of digits
field_cut = refl

crc_present : map reading (
    digits 13 0x2700060001050200000000aabb
    ∷ []) ≡ replicate 1 (Err CrcPresent)
unfolding reading fixed_header_at fixed_header_fault header_of body_of number_at lv_at tlv_at location_tlv_at request_at eof_at finished_at ack_at metadata_at nak_at prompt_at keep_alive_at behind_segment_metadata file_data_at items_to_end items_within messages_in location_in number_of digits
crc_present = refl

unknown_directive : map reading (
    digits 13 0x2500060001050200000000aabb
    ∷ []) ≡ replicate 1 (Err UnknownDirective)
unfolding reading fixed_header_at fixed_header_fault header_of body_of number_at lv_at tlv_at location_tlv_at request_at eof_at finished_at ack_at metadata_at nak_at prompt_at keep_alive_at behind_segment_metadata file_data_at items_to_end items_within messages_in location_in number_of digits
unknown_directive = refl

length_mismatch : map reading (
    digits 8 0x2500020001050209
    ∷ []) ≡ replicate 1 (Err LengthMismatch)
unfolding reading fixed_header_at fixed_header_fault header_of body_of number_at lv_at tlv_at location_tlv_at request_at eof_at finished_at ack_at metadata_at nak_at prompt_at keep_alive_at behind_segment_metadata file_data_at items_to_end items_within messages_in location_in number_of digits
length_mismatch = refl
