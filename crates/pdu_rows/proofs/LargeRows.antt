-- PDUs with the large file flag, read and written: sizes and offsets have eight octets.
use Rattle.std.proofs.Common.{◌≡◌, ℕ, List, [], ◌∷◌, true, false, Ok, Err, None, refl}
use Rattle.cfdp_types.specs.declared.names.Class.TheVariants.{One, Two}
use Rattle.pdu_values.specs.declared.pdu.Direction.TheVariants.{TowardReceiver, TowardSender}
use Rattle.pdu_values.specs.declared.pdu.Header.{Header}
use Rattle.pdu_values.specs.declared.pdu.Body.TheVariants as bodies
use Rattle.pdu_values.specs.Pdu.{PduValue}
use Rattle.pdu_values.specs.Numbers.{digits, number_of}
use Rattle.pdu_values.specs.Spelling.{spelling, written}
use Rattle.pdu_values.specs.Tlvs.{location_in, messages_in}
use Rattle.pdu_reading.specs.declared.fault.DecodeFault.TheVariants.{LengthMismatch, FieldCut}
use Rattle.pdu_reading.specs.Items.{items_to_end, items_within}
use Rattle.pdu_reading.specs.FixedHeader.{header_of}
use Rattle.pdu_reading.specs.Reading.{number_at, lv_at, request_at, fixed_header_at, fixed_header_fault, eof_at, metadata_at, nak_at, keep_alive_at, behind_segment_metadata, file_data_at, body_of, reading}

-- class 1, from entity 1 to entity 2, transaction 5, and the way back in class 2
abbrev header : Header
header = record { direction = TowardReceiver; class = One; large = true; entity_octets = 1; sequence_octets = 1; source = record { 0 = 1 }; sequence = 5; destination = record { 0 = 2 } }

abbrev header_back : Header
header_back = record header { direction = TowardSender; class = Two }

-- ---- an EOF

abbrev eof_below_pdu : PduValue
eof_below_pdu = record { header = header; body = bodies.Eof (record { condition = 0; checksum = 0x61626300; size = 4294967295; location = None }) }

abbrev eof_below_octets : List ℕ
eof_below_octets = (0x25 ∷ 0x00 ∷ 0x0E ∷ 0x00 ∷ 0x01 ∷ 0x05 ∷ 0x02 ∷ 0x04 ∷ 0x00 ∷ 0x61 ∷ 0x62 ∷ 0x63 ∷ 0x00 ∷ 0x00 ∷ 0x00 ∷ 0x00 ∷ 0x00 ∷ 0xFF ∷ 0xFF ∷ 0xFF ∷ 0xFF ∷ [])

eof_below_read : reading eof_below_octets ≡ Ok eof_below_pdu
unfolding reading fixed_header_at fixed_header_fault header_of body_of number_at eof_at items_to_end items_within location_in number_of
eof_below_read = refl

eof_below_written : written eof_below_pdu ≡ eof_below_octets
unfolding written spelling digits
eof_below_written = refl

abbrev eof_wide_pdu : PduValue
eof_wide_pdu = record { header = header; body = bodies.Eof (record { condition = 0; checksum = 0x61626300; size = 4294967296; location = None }) }

abbrev eof_wide_octets : List ℕ
eof_wide_octets = (0x25 ∷ 0x00 ∷ 0x0E ∷ 0x00 ∷ 0x01 ∷ 0x05 ∷ 0x02 ∷ 0x04 ∷ 0x00 ∷ 0x61 ∷ 0x62 ∷ 0x63 ∷ 0x00 ∷ 0x00 ∷ 0x00 ∷ 0x00 ∷ 0x01 ∷ 0x00 ∷ 0x00 ∷ 0x00 ∷ 0x00 ∷ [])

eof_wide_read : reading eof_wide_octets ≡ Ok eof_wide_pdu
unfolding reading fixed_header_at fixed_header_fault header_of body_of number_at eof_at items_to_end items_within location_in number_of
eof_wide_read = refl

eof_wide_written : written eof_wide_pdu ≡ eof_wide_octets
unfolding written spelling digits
eof_wide_written = refl

abbrev eof_greatest_pdu : PduValue
eof_greatest_pdu = record { header = header; body = bodies.Eof (record { condition = 0; checksum = 0x61626300; size = 18446744073709551615; location = None }) }

abbrev eof_greatest_octets : List ℕ
eof_greatest_octets = (0x25 ∷ 0x00 ∷ 0x0E ∷ 0x00 ∷ 0x01 ∷ 0x05 ∷ 0x02 ∷ 0x04 ∷ 0x00 ∷ 0x61 ∷ 0x62 ∷ 0x63 ∷ 0x00 ∷ 0xFF ∷ 0xFF ∷ 0xFF ∷ 0xFF ∷ 0xFF ∷ 0xFF ∷ 0xFF ∷ 0xFF ∷ [])

eof_greatest_read : reading eof_greatest_octets ≡ Ok eof_greatest_pdu
unfolding reading fixed_header_at fixed_header_fault header_of body_of number_at eof_at items_to_end items_within location_in number_of
eof_greatest_read = refl

eof_greatest_written : written eof_greatest_pdu ≡ eof_greatest_octets
unfolding written spelling digits
eof_greatest_written = refl

-- ---- Metadata without a checksum

abbrev metadata_below_pdu : PduValue
metadata_below_pdu = record { header = header; body = bodies.Metadata (record { closure = false; checksum_type = 15; size = 4294967295; source_name = (0x61 ∷ []); destination_name = (0x62 ∷ []); messages = [] }) }

abbrev metadata_below_octets : List ℕ
metadata_below_octets = (0x25 ∷ 0x00 ∷ 0x0E ∷ 0x00 ∷ 0x01 ∷ 0x05 ∷ 0x02 ∷ 0x07 ∷ 0x0F ∷ 0x00 ∷ 0x00 ∷ 0x00 ∷ 0x00 ∷ 0xFF ∷ 0xFF ∷ 0xFF ∷ 0xFF ∷ 0x01 ∷ 0x61 ∷ 0x01 ∷ 0x62 ∷ [])

metadata_below_read : reading metadata_below_octets ≡ Ok metadata_below_pdu
unfolding reading fixed_header_at fixed_header_fault header_of body_of number_at lv_at metadata_at items_to_end items_within messages_in number_of
metadata_below_read = refl

metadata_below_written : written metadata_below_pdu ≡ metadata_below_octets
unfolding written spelling digits
metadata_below_written = refl

abbrev metadata_wide_pdu : PduValue
metadata_wide_pdu = record { header = header; body = bodies.Metadata (record { closure = false; checksum_type = 15; size = 4294967296; source_name = (0x61 ∷ []); destination_name = (0x62 ∷ []); messages = [] }) }

abbrev metadata_wide_octets : List ℕ
metadata_wide_octets = (0x25 ∷ 0x00 ∷ 0x0E ∷ 0x00 ∷ 0x01 ∷ 0x05 ∷ 0x02 ∷ 0x07 ∷ 0x0F ∷ 0x00 ∷ 0x00 ∷ 0x00 ∷ 0x01 ∷ 0x00 ∷ 0x00 ∷ 0x00 ∷ 0x00 ∷ 0x01 ∷ 0x61 ∷ 0x01 ∷ 0x62 ∷ [])

metadata_wide_read : reading metadata_wide_octets ≡ Ok metadata_wide_pdu
unfolding reading fixed_header_at fixed_header_fault header_of body_of number_at lv_at metadata_at items_to_end items_within messages_in number_of
metadata_wide_read = refl

metadata_wide_written : written metadata_wide_pdu ≡ metadata_wide_octets
unfolding written spelling digits
metadata_wide_written = refl

abbrev metadata_greatest_pdu : PduValue
metadata_greatest_pdu = record { header = header; body = bodies.Metadata (record { closure = false; checksum_type = 15; size = 18446744073709551615; source_name = (0x61 ∷ []); destination_name = (0x62 ∷ []); messages = [] }) }

abbrev metadata_greatest_octets : List ℕ
metadata_greatest_octets = (0x25 ∷ 0x00 ∷ 0x0E ∷ 0x00 ∷ 0x01 ∷ 0x05 ∷ 0x02 ∷ 0x07 ∷ 0x0F ∷ 0xFF ∷ 0xFF ∷ 0xFF ∷ 0xFF ∷ 0xFF ∷ 0xFF ∷ 0xFF ∷ 0xFF ∷ 0x01 ∷ 0x61 ∷ 0x01 ∷ 0x62 ∷ [])

metadata_greatest_read : reading metadata_greatest_octets ≡ Ok metadata_greatest_pdu
unfolding reading fixed_header_at fixed_header_fault header_of body_of number_at lv_at metadata_at items_to_end items_within messages_in number_of
metadata_greatest_read = refl

metadata_greatest_written : written metadata_greatest_pdu ≡ metadata_greatest_octets
unfolding written spelling digits
metadata_greatest_written = refl

-- ---- File Data

abbrev file_data_below_pdu : PduValue
file_data_below_pdu = record { header = header; body = bodies.FileData (record { offset = 4294967295; octets = (0x61 ∷ 0x62 ∷ 0x63 ∷ []) }) }

abbrev file_data_below_octets : List ℕ
file_data_below_octets = (0x35 ∷ 0x00 ∷ 0x0B ∷ 0x00 ∷ 0x01 ∷ 0x05 ∷ 0x02 ∷ 0x00 ∷ 0x00 ∷ 0x00 ∷ 0x00 ∷ 0xFF ∷ 0xFF ∷ 0xFF ∷ 0xFF ∷ 0x61 ∷ 0x62 ∷ 0x63 ∷ [])

file_data_below_read : reading file_data_below_octets ≡ Ok file_data_below_pdu
unfolding reading fixed_header_at fixed_header_fault header_of body_of number_at behind_segment_metadata file_data_at number_of
file_data_below_read = refl

file_data_below_written : written file_data_below_pdu ≡ file_data_below_octets
unfolding written spelling digits
file_data_below_written = refl

abbrev file_data_wide_pdu : PduValue
file_data_wide_pdu = record { header = header; body = bodies.FileData (record { offset = 4294967296; octets = (0x61 ∷ 0x62 ∷ 0x63 ∷ []) }) }

abbrev file_data_wide_octets : List ℕ
file_data_wide_octets = (0x35 ∷ 0x00 ∷ 0x0B ∷ 0x00 ∷ 0x01 ∷ 0x05 ∷ 0x02 ∷ 0x00 ∷ 0x00 ∷ 0x00 ∷ 0x01 ∷ 0x00 ∷ 0x00 ∷ 0x00 ∷ 0x00 ∷ 0x61 ∷ 0x62 ∷ 0x63 ∷ [])

file_data_wide_read : reading file_data_wide_octets ≡ Ok file_data_wide_pdu
unfolding reading fixed_header_at fixed_header_fault header_of body_of number_at behind_segment_metadata file_data_at number_of
file_data_wide_read = refl

file_data_wide_written : written file_data_wide_pdu ≡ file_data_wide_octets
unfolding written spelling digits
file_data_wide_written = refl

abbrev file_data_greatest_pdu : PduValue
file_data_greatest_pdu = record { header = header; body = bodies.FileData (record { offset = 18446744073709551615; octets = (0x61 ∷ 0x62 ∷ 0x63 ∷ []) }) }

abbrev file_data_greatest_octets : List ℕ
file_data_greatest_octets = (0x35 ∷ 0x00 ∷ 0x0B ∷ 0x00 ∷ 0x01 ∷ 0x05 ∷ 0x02 ∷ 0xFF ∷ 0xFF ∷ 0xFF ∷ 0xFF ∷ 0xFF ∷ 0xFF ∷ 0xFF ∷ 0xFF ∷ 0x61 ∷ 0x62 ∷ 0x63 ∷ [])

file_data_greatest_read : reading file_data_greatest_octets ≡ Ok file_data_greatest_pdu
unfolding reading fixed_header_at fixed_header_fault header_of body_of number_at behind_segment_metadata file_data_at number_of
file_data_greatest_read = refl

file_data_greatest_written : written file_data_greatest_pdu ≡ file_data_greatest_octets
unfolding written spelling digits
file_data_greatest_written = refl

-- ---- a Keep Alive

abbrev keep_alive_below_pdu : PduValue
keep_alive_below_pdu = record { header = header_back; body = bodies.KeepAlive (record { progress = 4294967295 }) }

abbrev keep_alive_below_octets : List ℕ
keep_alive_below_octets = (0x29 ∷ 0x00 ∷ 0x09 ∷ 0x00 ∷ 0x01 ∷ 0x05 ∷ 0x02 ∷ 0x0C ∷ 0x00 ∷ 0x00 ∷ 0x00 ∷ 0x00 ∷ 0xFF ∷ 0xFF ∷ 0xFF ∷ 0xFF ∷ [])

keep_alive_below_read : reading keep_alive_below_octets ≡ Ok keep_alive_below_pdu
unfolding reading fixed_header_at fixed_header_fault header_of body_of number_at keep_alive_at number_of
keep_alive_below_read = refl

keep_alive_below_written : written keep_alive_below_pdu ≡ keep_alive_below_octets
unfolding written spelling digits
keep_alive_below_written = refl

abbrev keep_alive_wide_pdu : PduValue
keep_alive_wide_pdu = record { header = header_back; body = bodies.KeepAlive (record { progress = 4294967296 }) }

abbrev keep_alive_wide_octets : List ℕ
keep_alive_wide_octets = (0x29 ∷ 0x00 ∷ 0x09 ∷ 0x00 ∷ 0x01 ∷ 0x05 ∷ 0x02 ∷ 0x0C ∷ 0x00 ∷ 0x00 ∷ 0x00 ∷ 0x01 ∷ 0x00 ∷ 0x00 ∷ 0x00 ∷ 0x00 ∷ [])

keep_alive_wide_read : reading keep_alive_wide_octets ≡ Ok keep_alive_wide_pdu
unfolding reading fixed_header_at fixed_header_fault header_of body_of number_at keep_alive_at number_of
keep_alive_wide_read = refl

keep_alive_wide_written : written keep_alive_wide_pdu ≡ keep_alive_wide_octets
unfolding written spelling digits
keep_alive_wide_written = refl

abbrev keep_alive_greatest_pdu : PduValue
keep_alive_greatest_pdu = record { header = header_back; body = bodies.KeepAlive (record { progress = 18446744073709551615 }) }

abbrev keep_alive_greatest_octets : List ℕ
keep_alive_greatest_octets = (0x29 ∷ 0x00 ∷ 0x09 ∷ 0x00 ∷ 0x01 ∷ 0x05 ∷ 0x02 ∷ 0x0C ∷ 0xFF ∷ 0xFF ∷ 0xFF ∷ 0xFF ∷ 0xFF ∷ 0xFF ∷ 0xFF ∷ 0xFF ∷ [])

keep_alive_greatest_read : reading keep_alive_greatest_octets ≡ Ok keep_alive_greatest_pdu
unfolding reading fixed_header_at fixed_header_fault header_of body_of number_at keep_alive_at number_of
keep_alive_greatest_read = refl

keep_alive_greatest_written : written keep_alive_greatest_pdu ≡ keep_alive_greatest_octets
unfolding written spelling digits
keep_alive_greatest_written = refl

-- ---- a NAK that asks for Metadata and a part

abbrev nak_below_pdu : PduValue
nak_below_pdu = record { header = header_back; body = bodies.Nak (record { start = 0; end = 4294967295; requests = record { start = 0; end = 0 } ∷ record { start = 3; end = 4294967295 } ∷ [] }) }

abbrev nak_below_octets : List ℕ
nak_below_octets = (0x29 ∷ 0x00 ∷ 0x31 ∷ 0x00 ∷ 0x01 ∷ 0x05 ∷ 0x02 ∷ 0x08 ∷ 0x00 ∷ 0x00 ∷ 0x00 ∷ 0x00 ∷ 0x00 ∷ 0x00 ∷ 0x00 ∷ 0x00 ∷ 0x00 ∷ 0x00 ∷ 0x00 ∷ 0x00 ∷ 0xFF ∷ 0xFF ∷ 0xFF ∷ 0xFF ∷ 0x00 ∷ 0x00 ∷ 0x00 ∷ 0x00 ∷ 0x00 ∷ 0x00 ∷ 0x00 ∷ 0x00 ∷ 0x00 ∷ 0x00 ∷ 0x00 ∷ 0x00 ∷ 0x00 ∷ 0x00 ∷ 0x00 ∷ 0x00 ∷ 0x00 ∷ 0x00 ∷ 0x00 ∷ 0x00 ∷ 0x00 ∷ 0x00 ∷ 0x00 ∷ 0x03 ∷ 0x00 ∷ 0x00 ∷ 0x00 ∷ 0x00 ∷ 0xFF ∷ 0xFF ∷ 0xFF ∷ 0xFF ∷ [])

nak_below_read : reading nak_below_octets ≡ Ok nak_below_pdu
unfolding reading fixed_header_at fixed_header_fault header_of body_of number_at request_at nak_at items_to_end items_within number_of
nak_below_read = refl

nak_below_written : written nak_below_pdu ≡ nak_below_octets
unfolding written spelling digits
nak_below_written = refl

abbrev nak_wide_pdu : PduValue
nak_wide_pdu = record { header = header_back; body = bodies.Nak (record { start = 0; end = 4294967296; requests = record { start = 0; end = 0 } ∷ record { start = 3; end = 4294967296 } ∷ [] }) }

abbrev nak_wide_octets : List ℕ
nak_wide_octets = (0x29 ∷ 0x00 ∷ 0x31 ∷ 0x00 ∷ 0x01 ∷ 0x05 ∷ 0x02 ∷ 0x08 ∷ 0x00 ∷ 0x00 ∷ 0x00 ∷ 0x00 ∷ 0x00 ∷ 0x00 ∷ 0x00 ∷ 0x00 ∷ 0x00 ∷ 0x00 ∷ 0x00 ∷ 0x01 ∷ 0x00 ∷ 0x00 ∷ 0x00 ∷ 0x00 ∷ 0x00 ∷ 0x00 ∷ 0x00 ∷ 0x00 ∷ 0x00 ∷ 0x00 ∷ 0x00 ∷ 0x00 ∷ 0x00 ∷ 0x00 ∷ 0x00 ∷ 0x00 ∷ 0x00 ∷ 0x00 ∷ 0x00 ∷ 0x00 ∷ 0x00 ∷ 0x00 ∷ 0x00 ∷ 0x00 ∷ 0x00 ∷ 0x00 ∷ 0x00 ∷ 0x03 ∷ 0x00 ∷ 0x00 ∷ 0x00 ∷ 0x01 ∷ 0x00 ∷ 0x00 ∷ 0x00 ∷ 0x00 ∷ [])

nak_wide_read : reading nak_wide_octets ≡ Ok nak_wide_pdu
unfolding reading fixed_header_at fixed_header_fault header_of body_of number_at request_at nak_at items_to_end items_within number_of
nak_wide_read = refl

nak_wide_written : written nak_wide_pdu ≡ nak_wide_octets
unfolding written spelling digits
nak_wide_written = refl

abbrev nak_greatest_pdu : PduValue
nak_greatest_pdu = record { header = header_back; body = bodies.Nak (record { start = 0; end = 18446744073709551615; requests = record { start = 0; end = 0 } ∷ record { start = 3; end = 18446744073709551615 } ∷ [] }) }

abbrev nak_greatest_octets : List ℕ
nak_greatest_octets = (0x29 ∷ 0x00 ∷ 0x31 ∷ 0x00 ∷ 0x01 ∷ 0x05 ∷ 0x02 ∷ 0x08 ∷ 0x00 ∷ 0x00 ∷ 0x00 ∷ 0x00 ∷ 0x00 ∷ 0x00 ∷ 0x00 ∷ 0x00 ∷ 0xFF ∷ 0xFF ∷ 0xFF ∷ 0xFF ∷ 0xFF ∷ 0xFF ∷ 0xFF ∷ 0xFF ∷ 0x00 ∷ 0x00 ∷ 0x00 ∷ 0x00 ∷ 0x00 ∷ 0x00 ∷ 0x00 ∷ 0x00 ∷ 0x00 ∷ 0x00 ∷ 0x00 ∷ 0x00 ∷ 0x00 ∷ 0x00 ∷ 0x00 ∷ 0x00 ∷ 0x00 ∷ 0x00 ∷ 0x00 ∷ 0x00 ∷ 0x00 ∷ 0x00 ∷ 0x00 ∷ 0x03 ∷ 0xFF ∷ 0xFF ∷ 0xFF ∷ 0xFF ∷ 0xFF ∷ 0xFF ∷ 0xFF ∷ 0xFF ∷ [])

nak_greatest_read : reading nak_greatest_octets ≡ Ok nak_greatest_pdu
unfolding reading fixed_header_at fixed_header_fault header_of body_of number_at request_at nak_at items_to_end items_within number_of
nak_greatest_read = refl

nak_greatest_written : written nak_greatest_pdu ≡ nak_greatest_octets
unfolding written spelling digits
nak_greatest_written = refl

-- ---- faults

-- a size of four octets
short_eof_read : reading (0x25 ∷ 0x00 ∷ 0x0A ∷ 0x00 ∷ 0x01 ∷ 0x05 ∷ 0x02 ∷ 0x04 ∷ 0x00 ∷ 0x61 ∷ 0x62 ∷ 0x63 ∷ 0x00 ∷ 0x00 ∷ 0x00 ∷ 0x00 ∷ 0x03 ∷ []) ≡ Err FieldCut
unfolding reading fixed_header_at fixed_header_fault header_of body_of number_at eof_at items_to_end items_within number_of
short_eof_read = refl

-- half a segment request
half_request_read : reading (0x29 ∷ 0x00 ∷ 0x19 ∷ 0x00 ∷ 0x01 ∷ 0x05 ∷ 0x02 ∷ 0x08 ∷ 0x00 ∷ 0x00 ∷ 0x00 ∷ 0x00 ∷ 0x00 ∷ 0x00 ∷ 0x00 ∷ 0x00 ∷ 0x00 ∷ 0x00 ∷ 0x00 ∷ 0x00 ∷ 0x00 ∷ 0x00 ∷ 0x00 ∷ 0x03 ∷ 0x00 ∷ 0x00 ∷ 0x00 ∷ 0x00 ∷ 0x00 ∷ 0x00 ∷ 0x00 ∷ 0x00 ∷ []) ≡ Err FieldCut
unfolding reading fixed_header_at fixed_header_fault header_of body_of number_at request_at nak_at items_to_end items_within number_of
half_request_read = refl

-- one octet less than a segment request has
cut_request_read : reading (0x29 ∷ 0x00 ∷ 0x20 ∷ 0x00 ∷ 0x01 ∷ 0x05 ∷ 0x02 ∷ 0x08 ∷ 0x00 ∷ 0x00 ∷ 0x00 ∷ 0x00 ∷ 0x00 ∷ 0x00 ∷ 0x00 ∷ 0x00 ∷ 0x00 ∷ 0x00 ∷ 0x00 ∷ 0x00 ∷ 0x00 ∷ 0x00 ∷ 0x00 ∷ 0x03 ∷ 0x00 ∷ 0x00 ∷ 0x00 ∷ 0x00 ∷ 0x00 ∷ 0x00 ∷ 0x00 ∷ 0x00 ∷ 0x00 ∷ 0x00 ∷ 0x00 ∷ 0x00 ∷ 0x00 ∷ 0x00 ∷ 0x00 ∷ []) ≡ Err FieldCut
unfolding reading fixed_header_at fixed_header_fault header_of body_of number_at request_at nak_at items_to_end items_within number_of
cut_request_read = refl

-- a progress of eight octets, without the flag
unflagged_keep_alive_read : reading (0x28 ∷ 0x00 ∷ 0x09 ∷ 0x00 ∷ 0x01 ∷ 0x05 ∷ 0x02 ∷ 0x0C ∷ 0x00 ∷ 0x00 ∷ 0x00 ∷ 0x00 ∷ 0x00 ∷ 0x00 ∷ 0x00 ∷ 0x03 ∷ []) ≡ Err FieldCut
unfolding reading fixed_header_at fixed_header_fault header_of body_of number_at keep_alive_at number_of
unflagged_keep_alive_read = refl

-- no data field of the length that is told
empty_large_read : reading (0x25 ∷ 0x00 ∷ 0x02 ∷ 0x00 ∷ 0x01 ∷ 0x05 ∷ 0x02 ∷ []) ≡ Err LengthMismatch
unfolding reading fixed_header_at fixed_header_fault header_of body_of number_at number_of
empty_large_read = refl
