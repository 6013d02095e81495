-- Of the code. How the code keeps the octets of a file.
use Rattle.std.specs.Prelude.{◌≡◌, ℕ, ◌-◌, is_some, Option, vec_len, vec_capacity}
use Rattle.cfdp_types.specs.Steps.{newer_or, older_or}
use Rattle.gap_list.specs.Covered.{covered}
use Rattle.gap_list.specs.Runs.{with_range}
use Rattle.modular_sum.specs.Pieces.{IsSumOf}
use Rattle.pdu_values.specs.declared.bodies.FileData.{FileData}
use Rattle.receiver_table.specs.Reception.{octet_at}
use Rattle.receiver_parts.specs.Offsets.{octet_in}
use Rattle.receiver_parts.specs.declared.received_file.ReceivedFile.{ReceivedFile}
use Rattle.receiver_parts.specs.declared.received_file.NewSegment.{NewSegment}

-- the received octets
abbrev pub received_of : ReceivedFile → ℕ → Option ℕ
received_of file = octet_in file.pieces.items

-- for how many more pieces there is room
abbrev pub room_of : ReceivedFile → ℕ
room_of file = vec_capacity file.pieces - vec_len file.pieces

-- the received octets, and those of a segment that were not received before
abbrev pub with_segment : (ℕ → Option ℕ) → Option FileData → ℕ → Option ℕ
with_segment received segment i = older_or (received i) (octet_at segment i)

-- the received octets, with the pieces of a segment
abbrev pub received_with : ReceivedFile → NewSegment → ℕ → Option ℕ
received_with file segment i = newer_or (octet_in segment.pieces.items i) (received_of file i)

-- with its pieces a file has the segment's offsets too, and the checksum is that of all octets
pub record IsSegmentOf (file : ReceivedFile) (segment : NewSegment) : Type 0 where
  pub came : (i : ℕ) → is_some (received_with file segment i) ≡ with_range (covered file.gaps) segment.start segment.end i
  pub sum : IsSumOf (received_with file segment) segment.sum
