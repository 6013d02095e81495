-- Datagrams, what is read in each, and what is written for it: worked by hand from the formats.
use Rattle.std.proofs.Common.{◌≡◌, ℕ, true, false, List, [], ◌∷◌, map, replicate, Some, None, Result, Ok, Err, refl}
use Rattle.cfdp_types.specs.declared.names.Class.TheVariants.{One, Two}
use Rattle.cfdp_types.specs.declared.names.Delivery.TheVariants.{Complete, Incomplete}
use Rattle.cfdp_types.specs.declared.names.FileStatus.TheVariants.{Discarded, Rejected, Unreported}
use Rattle.pdu_values.specs.declared.bodies.Acknowledged.TheVariants as acknowledged
use Rattle.pdu_values.specs.declared.bodies.Prompt.TheVariants as prompt
use Rattle.pdu_values.specs.declared.bodies.TransactionStatus.TheVariants.{Active, Terminated, Unrecognized}
use Rattle.pdu_values.specs.declared.pdu.Direction.TheVariants.{TowardReceiver, TowardSender}
use Rattle.pdu_values.specs.declared.pdu.Header.{Header}
use Rattle.pdu_values.specs.declared.pdu.Body.TheVariants as bodies
use Rattle.pdu_values.specs.Pdu.{PduValue}
use Rattle.pdu_values.specs.Numbers.{digits, number_of}
use Rattle.pdu_values.specs.Spelling.{spelling, written}
use Rattle.pdu_values.specs.Tlvs.{location_in, messages_in, width_from}
use Rattle.pdu_reading.specs.declared.fault.DecodeFault.{DecodeFault}
use Rattle.pdu_reading.specs.declared.fault.DecodeFault.TheVariants.{TooShort, BadVersion, CrcPresent, LengthMismatch, UnknownDirective, FieldCut, NoFileName}
use Rattle.pdu_reading.specs.Items.{items_to_end, items_within}
use Rattle.pdu_reading.specs.FixedHeader.{header_of}
use Rattle.pdu_reading.specs.Reading.{number_at, lv_at, tlv_at, location_tlv_at, request_at, fixed_header_at, fixed_header_fault, eof_at, finished_at, ack_at, metadata_at, nak_at, prompt_at, keep_alive_at, behind_segment_metadata, file_data_at, body_of, reading}

-- ---- headers: of class 1 or 2, back to the sender or not, and the octets of an ID and of a sequence number where they
-- are not one each

abbrev one : Header
one = record { direction = TowardReceiver; class = One; large = false; entity_octets = 1; sequence_octets = 1; source = record { 0 = 1 }; sequence = 5; destination = record { 0 = 2 } }

abbrev one_of_3_and_5 : Header
one_of_3_and_5 = record { direction = TowardReceiver; class = One; large = false; entity_octets = 3; sequence_octets = 5; source = record { 0 = 66051 }; sequence = 4328719365; destination = record { 0 = 197121 } }

abbrev two_of_8_and_8 : Header
two_of_8_and_8 = record { direction = TowardReceiver; class = Two; large = false; entity_octets = 8; sequence_octets = 8; source = record { 0 = 18446744073709551615 }; sequence = 9223372036854775809; destination = record { 0 = 72623859790382856 } }

abbrev two : Header
two = record { direction = TowardReceiver; class = Two; large = false; entity_octets = 1; sequence_octets = 1; source = record { 0 = 1 }; sequence = 5; destination = record { 0 = 2 } }

abbrev one_back : Header
one_back = record { direction = TowardSender; class = One; large = false; entity_octets = 1; sequence_octets = 1; source = record { 0 = 1 }; sequence = 5; destination = record { 0 = 2 } }

abbrev two_back_of_6_and_7 : Header
two_back_of_6_and_7 = record { direction = TowardSender; class = Two; large = false; entity_octets = 6; sequence_octets = 7; source = record { 0 = 281474976710655 }; sequence = 281474976710663; destination = record { 0 = 0 } }

abbrev two_back_of_8_and_8 : Header
two_back_of_8_and_8 = record { direction = TowardSender; class = Two; large = false; entity_octets = 8; sequence_octets = 8; source = record { 0 = 18446744073709551615 }; sequence = 9223372036854775809; destination = record { 0 = 72623859790382856 } }

abbrev two_back : Header
two_back = record { direction = TowardSender; class = Two; large = false; entity_octets = 1; sequence_octets = 1; source = record { 0 = 1 }; sequence = 5; destination = record { 0 = 2 } }

abbrev two_back_of_2_and_2 : Header
two_back_of_2_and_2 = record { direction = TowardSender; class = Two; large = false; entity_octets = 2; sequence_octets = 2; source = record { 0 = 257 }; sequence = 515; destination = record { 0 = 770 } }

abbrev two_back_of_4_and_4 : Header
two_back_of_4_and_4 = record { direction = TowardSender; class = Two; large = false; entity_octets = 4; sequence_octets = 4; source = record { 0 = 16909060 }; sequence = 4294901244; destination = record { 0 = 2147483649 } }

abbrev one_of_7_and_6 : Header
one_of_7_and_6 = record { direction = TowardReceiver; class = One; large = false; entity_octets = 7; sequence_octets = 6; source = record { 0 = 283686952306183 }; sequence = 6618611909121; destination = record { 0 = 1976943448883713 } }

abbrev one_of_5_and_3 : Header
one_of_5_and_3 = record { direction = TowardReceiver; class = One; large = false; entity_octets = 5; sequence_octets = 3; source = record { 0 = 1095216660481 }; sequence = 658188; destination = record { 0 = 2 } }

abbrev two_of_2_and_2 : Header
two_of_2_and_2 = record { direction = TowardReceiver; class = Two; large = false; entity_octets = 2; sequence_octets = 2; source = record { 0 = 257 }; sequence = 515; destination = record { 0 = 770 } }

-- ---- EOF

abbrev eofs : List PduValue
eofs =
    record { header = one; body = bodies.Eof (record { condition = 0; checksum = 0; size = 3; location = None }) }
    ∷ record { header = one_of_3_and_5; body = bodies.Eof (record { condition = 0; checksum = 33818122; size = 203; location = None }) }
    ∷ record { header = two_of_8_and_8; body = bodies.Eof (record { condition = 0; checksum = 16909067; size = 703; location = None }) }
    ∷ record { header = two; body = bodies.Eof (record { condition = 15; checksum = 4294967295; size = 4294967295; location = Some (record { 0 = 1 }) }) }
    ∷ record { header = two; body = bodies.Eof (record { condition = 4; checksum = 0; size = 0; location = Some (record { 0 = 66051 }) }) }
    ∷ record { header = two; body = bodies.Eof (record { condition = 15; checksum = 0; size = 9; location = Some (record { 0 = 18446744073709551615 }) }) }
    ∷ []

abbrev eofs_octets : List (List ℕ)
eofs_octets =
    digits 17 0x24000a0001050204000000000000000003
    ∷ digits 25 0x24000a24010203010203040503020104000204060a000000cb
    ∷ digits 38 0x20000a77ffffffffffffffff8000000000000001010203040506070804000102030b000002bf
    ∷ digits 20 0x20000d0001050204f0ffffffffffffffff060101
    ∷ digits 22 0x20000f00010502044000000000000000000603010203
    ∷ digits 27 0x2000140001050204f000000000000000090608ffffffffffffffff
    ∷ []

eofs_read : map reading eofs_octets ≡ map Ok eofs
unfolding reading fixed_header_at fixed_header_fault header_of body_of number_at lv_at tlv_at location_tlv_at request_at eof_at finished_at ack_at metadata_at nak_at prompt_at keep_alive_at behind_segment_metadata file_data_at items_to_end items_within messages_in location_in number_of digits
eofs_read = refl

eofs_written : map written eofs ≡ eofs_octets
unfolding written spelling digits width_from
eofs_written = refl

-- ---- Finished

abbrev finished : List PduValue
finished =
    record { header = one_back; body = bodies.Finished (record { condition = 0; delivery = Complete; status = Discarded; location = None }) }
    ∷ record { header = two_back_of_6_and_7; body = bodies.Finished (record { condition = 0; delivery = Incomplete; status = Rejected; location = None }) }
    ∷ record { header = two_back_of_8_and_8; body = bodies.Finished (record { condition = 0; delivery = Incomplete; status = Unreported; location = None }) }
    ∷ record { header = two_back; body = bodies.Finished (record { condition = 7; delivery = Incomplete; status = Discarded; location = Some (record { 0 = 2 }) }) }
    ∷ []

abbrev finished_octets : List (List ℕ)
finished_octets =
    digits 9 0x2c0002000105020500
    ∷ digits 25 0x28000256ffffffffffff010000000000070000000000000505
    ∷ digits 30 0x28000277ffffffffffffffff800000000000000101020304050607080507
    ∷ digits 12 0x280005000105020574060102
    ∷ []

finished_read : map reading finished_octets ≡ map Ok finished
unfolding reading fixed_header_at fixed_header_fault header_of body_of number_at lv_at tlv_at location_tlv_at request_at eof_at finished_at ack_at metadata_at nak_at prompt_at keep_alive_at behind_segment_metadata file_data_at items_to_end items_within messages_in location_in number_of digits
finished_read = refl

finished_written : map written finished ≡ finished_octets
unfolding written spelling digits width_from
finished_written = refl

-- ---- ACK

abbrev acks : List PduValue
acks =
    record { header = two_back_of_2_and_2; body = bodies.Ack (record { of = acknowledged.Eof; condition = 3; status = Active }) }
    ∷ record { header = two_back_of_4_and_4; body = bodies.Ack (record { of = acknowledged.Eof; condition = 9; status = Unrecognized }) }
    ∷ record { header = one_of_7_and_6; body = bodies.Ack (record { of = acknowledged.Finished; condition = 6; status = Terminated }) }
    ∷ []

abbrev acks_octets : List (List ℕ)
acks_octets =
    digits 13 0x28000311010102030302064031
    ∷ digits 19 0x2800033301020304fffefdfc80000001064093
    ∷ digits 27 0x240003650102030405060706050403020107060504030201065162
    ∷ []

acks_read : map reading acks_octets ≡ map Ok acks
unfolding reading fixed_header_at fixed_header_fault header_of body_of number_at lv_at tlv_at location_tlv_at request_at eof_at finished_at ack_at metadata_at nak_at prompt_at keep_alive_at behind_segment_metadata file_data_at items_to_end items_within messages_in location_in number_of digits
acks_read = refl

acks_written : map written acks ≡ acks_octets
unfolding written spelling digits width_from
acks_written = refl

-- ---- NAK

abbrev naks : List PduValue
naks =
    record { header = two_back; body = bodies.Nak (record { start = 0; end = 3; requests = record { start = 0; end = 0 } ∷ [] }) }
    ∷ record { header = two_back_of_2_and_2; body = bodies.Nak (record { start = 0; end = 0; requests = [] }) }
    ∷ record { header = two_back_of_4_and_4; body = bodies.Nak (record { start = 1; end = 4294967295; requests = record { start = 1; end = 2 } ∷ record { start = 3; end = 4 } ∷ [] }) }
    ∷ []

abbrev naks_octets : List (List ℕ)
naks_octets =
    digits 24 0x280011000105020800000000000000030000000000000000
    ∷ digits 19 0x28000911010102030302080000000000000000
    ∷ digits 41 0x2800193301020304fffefdfc800000010800000001ffffffff00000001000000020000000300000004
    ∷ []

naks_read : map reading naks_octets ≡ map Ok naks
unfolding reading fixed_header_at fixed_header_fault header_of body_of number_at lv_at tlv_at location_tlv_at request_at eof_at finished_at ack_at metadata_at nak_at prompt_at keep_alive_at behind_segment_metadata file_data_at items_to_end items_within messages_in location_in number_of digits
naks_read = refl

naks_written : map written naks ≡ naks_octets
unfolding written spelling digits width_from
naks_written = refl

-- ---- Prompt

abbrev prompts : List PduValue
prompts =
    record { header = two; body = bodies.Prompt prompt.Nak }
    ∷ record { header = two; body = bodies.Prompt prompt.KeepAlive }
    ∷ []

abbrev prompts_octets : List (List ℕ)
prompts_octets =
    digits 9 0x200002000105020900
    ∷ digits 9 0x200002000105020980
    ∷ []

prompts_read : map reading prompts_octets ≡ map Ok prompts
unfolding reading fixed_header_at fixed_header_fault header_of body_of number_at lv_at tlv_at location_tlv_at request_at eof_at finished_at ack_at metadata_at nak_at prompt_at keep_alive_at behind_segment_metadata file_data_at items_to_end items_within messages_in location_in number_of digits
prompts_read = refl

prompts_written : map written prompts ≡ prompts_octets
unfolding written spelling digits width_from
prompts_written = refl

-- ---- Keep Alive

abbrev keep_alives : List PduValue
keep_alives =
    record { header = two_back; body = bodies.KeepAlive (record { progress = 3 }) }
    ∷ record { header = two_back_of_8_and_8; body = bodies.KeepAlive (record { progress = 4294967295 }) }
    ∷ []

abbrev keep_alives_octets : List (List ℕ)
keep_alives_octets =
    digits 12 0x280005000105020c00000003
    ∷ digits 33 0x28000577ffffffffffffffff800000000000000101020304050607080cffffffff
    ∷ []

keep_alives_read : map reading keep_alives_octets ≡ map Ok keep_alives
unfolding reading fixed_header_at fixed_header_fault header_of body_of number_at lv_at tlv_at location_tlv_at request_at eof_at finished_at ack_at metadata_at nak_at prompt_at keep_alive_at behind_segment_metadata file_data_at items_to_end items_within messages_in location_in number_of digits
keep_alives_read = refl

keep_alives_written : map written keep_alives ≡ keep_alives_octets
unfolding written spelling digits width_from
keep_alives_written = refl

-- ---- Metadata

abbrev metadata : List PduValue
metadata =
    record { header = one_of_5_and_3; body = bodies.Metadata (record { closure = false; checksum_type = 9; size = 4000; source_name = (digits 5 0x6161616161); destination_name = (digits 4 0x64657374); messages = [] }) }
    ∷ record { header = one; body = bodies.Metadata (record { closure = true; checksum_type = 15; size = 4294967295; source_name = (digits 1 0x61); destination_name = (digits 1 0x62); messages = (digits 2 0x6869) ∷ [] }) }
    ∷ record { header = one; body = bodies.Metadata (record { closure = false; checksum_type = 0; size = 3; source_name = (digits 1 0x61); destination_name = (digits 1 0x62); messages = (digits 3 0x6f6e65) ∷ (digits 3 0x74776f) ∷ (digits 5 0x7468726565) ∷ [] }) }
    ∷ record { header = one; body = bodies.Metadata (record { closure = false; checksum_type = 0; size = 3; source_name = (digits 1 0x61); destination_name = (digits 1 0x62); messages = [] ∷ [] }) }
    ∷ []

abbrev metadata_octets : List (List ℕ)
metadata_octets =
    digits 34 0x24001142ff000000010a0b0c0000000002070900000fa00561616161610464657374
    ∷ digits 21 0x24000e00010502074fffffffff0161016202026869
    ∷ digits 34 0x24001b000105020700000000030161016202036f6e65020374776f02057468726565
    ∷ digits 19 0x24000c00010502070000000003016101620200
    ∷ []

metadata_read : map reading metadata_octets ≡ map Ok metadata
unfolding reading fixed_header_at fixed_header_fault header_of body_of number_at lv_at tlv_at location_tlv_at request_at eof_at finished_at ack_at metadata_at nak_at prompt_at keep_alive_at behind_segment_metadata file_data_at items_to_end items_within messages_in location_in number_of digits
metadata_read = refl

metadata_written : map written metadata ≡ metadata_octets
unfolding written spelling digits width_from
metadata_written = refl

-- ---- File Data

abbrev file_data : List PduValue
file_data =
    record { header = one; body = bodies.FileData (record { offset = 0; octets = (digits 3 0x616263) }) }
    ∷ record { header = one; body = bodies.FileData (record { offset = 0; octets = [] }) }
    ∷ record { header = two_of_2_and_2; body = bodies.FileData (record { offset = 4294967295; octets = (digits 2 0x00ff) }) }
    ∷ []

abbrev file_data_octets : List (List ℕ)
file_data_octets =
    digits 14 0x3400070001050200000000616263
    ∷ digits 11 0x3400040001050200000000
    ∷ digits 16 0x30000611010102030302ffffffff00ff
    ∷ []

file_data_read : map reading file_data_octets ≡ map Ok file_data
unfolding reading fixed_header_at fixed_header_fault header_of body_of number_at lv_at tlv_at location_tlv_at request_at eof_at finished_at ack_at metadata_at nak_at prompt_at keep_alive_at behind_segment_metadata file_data_at items_to_end items_within messages_in location_in number_of digits
file_data_read = refl

file_data_written : map written file_data ≡ file_data_octets
unfolding written spelling digits width_from
file_data_written = refl

-- ---- what has no meaning is not written again

abbrev written_if : Result PduValue DecodeFault → List ℕ
written_if (Ok pdu) = written pdu
written_if (Err fault) = []

abbrev odd : List (List ℕ)
odd =
    digits 21 0x20000e0001050204f0ffffffffffffffff06020001
    ∷ digits 27 0x2000140001050204f0ffffffffffffffff06080000000000000001
    ∷ digits 22 0x20000d10000105000204400000000000000000060107
    ∷ digits 23 0x2000100001050204f00000000000000009060103060104
    ∷ digits 27 0x2000140001050204f0000000000000000905027879060200030000
    ∷ digits 17 0x20000a00010502040f0000000100000009
    ∷ digits 17 0x20000a8001050204000000000100000009
    ∷ digits 17 0x20000a0801050204000000000100000009
    ∷ digits 26 0x28000c3100000001000500000002057406080000000000000002
    ∷ digits 21 0x28000e000105020545010361626306020009060101
    ∷ digits 9 0x28000200010502050a
    ∷ digits 10 0x28000300010502064ff2
    ∷ digits 10 0x20000300010502065002
    ∷ digits 10 0x2800030001050206400d
    ∷ digits 18 0x2000023301020304fffefdfc80000001097f
    ∷ digits 17 0x24000a0001050207b00000000301610162
    ∷ digits 32 0x2400190001050207000000000301610162000200010201780101720201790500
    ∷ digits 24 0x2400110001050207000000000301610162040114ff027a7a
    ∷ digits 30 0x240017000105020700000000030161016206000609313233343536373839
    ∷ digits 16 0x3400090801050281bb00000000616263
    ∷ digits 15 0x34000808010502c000000007616263
    ∷ digits 75 0x340044080105027f6d6d6d6d6d6d6d6d6d6d6d6d6d6d6d6d6d6d6d6d6d6d6d6d6d6d6d6d6d6d6d6d6d6d6d6d6d6d6d6d6d6d6d6d6d6d6d6d6d6d6d6d6d6d6d6d6d6d6d6d6d6d6d00000007
    ∷ []

-- the octets that are written for the same PDU
abbrev plain : List (List ℕ)
plain =
    digits 20 0x20000d0001050204f0ffffffffffffffff060101
    ∷ digits 20 0x20000d0001050204f0ffffffffffffffff060101
    ∷ digits 23 0x20000e1000010500020440000000000000000006020007
    ∷ digits 20 0x20000d0001050204f00000000000000009060103
    ∷ digits 20 0x20000d0001050204f00000000000000009060103
    ∷ digits 17 0x20000a0001050204000000000100000009
    ∷ digits 17 0x20000a0001050204000000000100000009
    ∷ digits 17 0x20000a0001050204000000000100000009
    ∷ digits 22 0x28000831000000010005000000020574060400000002
    ∷ digits 12 0x280005000105020545060109
    ∷ digits 9 0x280002000105020502
    ∷ digits 10 0x280003000105020640f2
    ∷ digits 10 0x20000300010502065102
    ∷ digits 10 0x28000300010502064001
    ∷ digits 18 0x2000023301020304fffefdfc800000010900
    ∷ digits 17 0x24000a0001050207000000000301610162
    ∷ digits 23 0x2400100001050207000000000301610162020178020179
    ∷ digits 17 0x24000a0001050207000000000301610162
    ∷ digits 17 0x24000a0001050207000000000301610162
    ∷ digits 14 0x3400070001050200000000616263
    ∷ digits 14 0x3400070001050200000007616263
    ∷ digits 11 0x3400040001050200000007
    ∷ []

odd_read : map (λ octets. written_if (reading octets)) odd ≡ plain
unfolding reading fixed_header_at fixed_header_fault header_of body_of number_at lv_at tlv_at location_tlv_at request_at eof_at finished_at ack_at metadata_at nak_at prompt_at keep_alive_at behind_segment_metadata file_data_at items_to_end items_within messages_in location_in number_of written spelling digits width_from
odd_read = refl

-- ---- octets that are no PDU, by their first fault

too_short : map reading (
    digits 0 0x0
    ∷ digits 4 0x07000000
    ∷ digits 6 0x24000a000105
    ∷ digits 4 0x24000211
    ∷ digits 9 0x240002110001000500
    ∷ digits 27 0x240002770000000000000001000000000000000500000000000000
    ∷ []) ≡ replicate 6 (Err TooShort)
unfolding reading fixed_header_at fixed_header_fault header_of body_of number_at lv_at tlv_at location_tlv_at request_at eof_at finished_at ack_at metadata_at nak_at prompt_at keep_alive_at behind_segment_metadata file_data_at items_to_end items_within messages_in location_in number_of digits
too_short = refl

bad_version : map reading (
    digits 9 0x040002000105020900
    ∷ digits 9 0xe40002000105020900
    ∷ digits 9 0x070002000105020900
    ∷ []) ≡ replicate 3 (Err BadVersion)
unfolding reading fixed_header_at fixed_header_fault header_of body_of number_at lv_at tlv_at location_tlv_at request_at eof_at finished_at ack_at metadata_at nak_at prompt_at keep_alive_at behind_segment_metadata file_data_at items_to_end items_within messages_in location_in number_of digits
bad_version = refl

crc_present : map reading (
    digits 13 0x2600060001050200000000aabb
    ∷ digits 13 0x2700090001050200000000aabb
    ∷ digits 13 0x3700090001050200000000aabb
    ∷ []) ≡ replicate 3 (Err CrcPresent)
unfolding reading fixed_header_at fixed_header_fault header_of body_of number_at lv_at tlv_at location_tlv_at request_at eof_at finished_at ack_at metadata_at nak_at prompt_at keep_alive_at behind_segment_metadata file_data_at items_to_end items_within messages_in location_in number_of digits
crc_present = refl

length_mismatch : map reading (
    digits 18 0x24000a000105020700000000030161016200
    ∷ digits 16 0x24000a00010502070000000003016101
    ∷ digits 13 0x34000700010502000000006162
    ∷ digits 8 0x2800020001050205
    ∷ digits 9 0x240001000105020102
    ∷ []) ≡ replicate 5 (Err LengthMismatch)
unfolding reading fixed_header_at fixed_header_fault header_of body_of number_at lv_at tlv_at location_tlv_at request_at eof_at finished_at ack_at metadata_at nak_at prompt_at keep_alive_at behind_segment_metadata file_data_at items_to_end items_within messages_in location_in number_of digits
length_mismatch = refl

unknown_directive : map reading (
    digits 10 0x24000300010502000000
    ∷ digits 10 0x240003000105020a0000
    ∷ digits 10 0x24000300010502ff0000
    ∷ digits 10 0x28000300010502061001
    ∷ digits 10 0x28000300010502066001
    ∷ digits 9 0x280002000105020660
    ∷ digits 11 0x2800040001050206600101
    ∷ []) ≡ replicate 7 (Err UnknownDirective)
unfolding reading fixed_header_at fixed_header_fault header_of body_of number_at lv_at tlv_at location_tlv_at request_at eof_at finished_at ack_at metadata_at nak_at prompt_at keep_alive_at behind_segment_metadata file_data_at items_to_end items_within messages_in location_in number_of digits
unknown_directive = refl

field_cut : map reading (
    digits 7 0x24000000010502
    ∷ digits 16 0x24000900010502040061626300000000
    ∷ digits 21 0x24000e000105020400616263000000000305036162
    ∷ digits 19 0x24000c00010502040061626300000000030600
    ∷ digits 28 0x24001500010502040061626300000000030609313233343536373839
    ∷ digits 22 0x24000f00010502040061626300000000030601020600
    ∷ digits 8 0x2800010001050205
    ∷ digits 20 0x28000d0001050205020609313233343536373839
    ∷ digits 11 0x2800040001050206400100
    ∷ digits 16 0x24000900010502070000000003016101
    ∷ digits 18 0x24000b000105020700000000030161016202
    ∷ digits 23 0x2400100001050207000000000301610162000561626364
    ∷ digits 17 0x24000a00010502070000000003ff610162
    ∷ digits 15 0x280008000105020800000000000000
    ∷ digits 23 0x2800100001050208000000000000000300000000000000
    ∷ digits 10 0x20000300010502090000
    ∷ digits 11 0x280004000105020c000000
    ∷ digits 13 0x280006000105020c0000000300
    ∷ digits 7 0x34000000010502
    ∷ digits 10 0x34000300010502000000
    ∷ digits 7 0x34000008010502
    ∷ digits 9 0x34000208010502026d
    ∷ digits 12 0x34000508010502c16d000000
    ∷ digits 16 0x24000900010502070000000003000002
    ∷ []) ≡ replicate 24 (Err FieldCut)
unfolding reading fixed_header_at fixed_header_fault header_of body_of number_at lv_at tlv_at location_tlv_at request_at eof_at finished_at ack_at metadata_at nak_at prompt_at keep_alive_at behind_segment_metadata file_data_at items_to_end items_within messages_in location_in number_of digits
field_cut = refl

no_file_name : map reading (
    digits 16 0x24000900010502070000000003000162
    ∷ digits 16 0x24000900010502070000000003016100
    ∷ digits 19 0x24000c00010502070000000003000002026869
    ∷ []) ≡ replicate 3 (Err NoFileName)
unfolding reading fixed_header_at fixed_header_fault header_of body_of number_at lv_at tlv_at location_tlv_at request_at eof_at finished_at ack_at metadata_at nak_at prompt_at keep_alive_at behind_segment_metadata file_data_at items_to_end items_within messages_in location_in number_of digits
no_file_name = refl
