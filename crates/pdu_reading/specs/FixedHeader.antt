-- Meaning. What the numbers of the fixed header mean (CCSDS 727.0-B-5, 5.1).
use Rattle.std.specs.Prelude.{ℕ, ◌+◌, ◌/◌, ◌%◌, Bool, ◌==◌, if◌then◌else◌}
use Rattle.cfdp_types.specs.declared.names.Class.{Class}
use Rattle.cfdp_types.specs.declared.names.Class.TheVariants.{One, Two}
use Rattle.pdu_values.specs.declared.pdu.Direction.{Direction}
use Rattle.pdu_values.specs.declared.pdu.Direction.TheVariants.{TowardReceiver, TowardSender}
use Rattle.pdu_values.specs.declared.pdu.Header.{Header}
use Rattle.pdu_reading.specs.declared.fixed_header.FixedHeader.{FixedHeader}

-- the length of an ID, in the octet of lengths
abbrev pub entity_octets : ℕ → ℕ
entity_octets lengths = lengths / 16 % 8 + 1

-- the length of a sequence number, in the octet of lengths
abbrev pub sequence_octets : ℕ → ℕ
sequence_octets lengths = lengths % 8 + 1

-- whether segment metadata precedes the file data
abbrev pub has_segment_metadata : ℕ → Bool
has_segment_metadata lengths = lengths / 8 % 2 == 1

-- the version
abbrev pub version : ℕ → ℕ
version first = first / 32

-- whether the PDU is File Data rather than a directive
abbrev pub is_file_data : ℕ → Bool
is_file_data first = first / 16 % 2 == 1

-- the end that the PDU goes to
abbrev pub direction_of : ℕ → Direction
direction_of first = if first / 8 % 2 == 0 then TowardReceiver else TowardSender

-- the class, from the transmission mode
abbrev pub class_of : ℕ → Class
class_of first = if first / 4 % 2 == 0 then Two else One

-- whether there is a CRC at the end
abbrev pub has_crc : ℕ → Bool
has_crc first = first / 2 % 2 == 1

-- whether sizes and offsets have eight octets
abbrev pub is_large : ℕ → Bool
is_large first = first % 2 == 1

-- the header that these numbers stand for
unfoldable pub header_of : FixedHeader → Header
header_of o = record {
  direction = direction_of o.first;
  class = class_of o.first;
  large = is_large o.first;
  entity_octets = entity_octets o.lengths;
  sequence_octets = sequence_octets o.lengths;
  source = record { 0 = o.source };
  sequence = o.sequence;
  destination = record { 0 = o.destination };
}
