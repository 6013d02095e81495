-- Of the code. What an event changes in the received file, and the file after it.
use Rattle.std.specs.Prelude.{◌≡◌, ℕ, ◌<◌, ◌≤◌, Bool, true, false, not, ◌==◌, List, [], length, is_some, Option, Some, None}
use Rattle.smallvec.specs.SmallVec.{small_vec_len}
use Rattle.gap_list.specs.Covered.{covered}
use Rattle.gap_list.specs.Runs.{with_range}
use Rattle.gap_list.specs.declared.run.Run.{Run}
use Rattle.modular_sum.specs.Pieces.{IsSumOf}
use Rattle.pdu_values.specs.declared.bodies.Metadata.{Metadata}
use Rattle.receiver_parts.specs.ControlBlock.{IsSmall}
use Rattle.receiver_parts.specs.ReceivedFile.{received_of, received_with, room_of, IsSegmentOf}
use Rattle.receiver_parts.specs.declared.received_file.ReceivedFile.{ReceivedFile}
use Rattle.receiver_parts.specs.declared.control.ControlBlock.{ControlBlock}
use Rattle.receiver_parts.specs.declared.file_change.FileChange as change_type
use Rattle.receiver_parts.specs.declared.file_change.FileChange.TheVariants as change

-- the Metadata after a change
abbrev pub metadata_after : Option Metadata → change_type.FileChange → Option Metadata
metadata_after metadata (change.Metadata m) = Some m
metadata_after metadata _ = metadata

-- the received octets, after a change
abbrev pub received_after : ReceivedFile → change_type.FileChange → ℕ → Option ℕ
received_after file (change.NewSegment segment) = received_with file segment
received_after file _ = received_of file

-- the received offsets, after a change
abbrev pub covered_after : ReceivedFile → change_type.FileChange → ℕ → Bool
covered_after file (change.NewSegment segment) = with_range (covered file.gaps) segment.start segment.end
covered_after file _ = covered file.gaps

-- the checksum of the received octets, after a change
abbrev pub word_after : ReceivedFile → change_type.FileChange → ℕ
word_after file (change.NewSegment segment) = segment.sum
word_after file _ = file.sum

-- the change was made for this file
abbrev pub FitsFile : ReceivedFile → change_type.FileChange → Type 0
FitsFile file (change.NewSegment segment) = IsSegmentOf file segment
FitsFile file _ = Unit {0}

-- there is room for what a change adds
abbrev pub HasRoom : ReceivedFile → change_type.FileChange → Type 0
HasRoom file (change.NewSegment segment) = (small_vec_len segment.pieces ≤ room_of file) × (0 < file.gaps.room)
HasRoom file _ = Unit {0}

-- the new runs in a change
abbrev pub runs_in : change_type.FileChange → List Run
runs_in (change.NewSegment segment) = segment.runs.items
runs_in _ = []

-- whether a change is the first Metadata, or file data with new octets
abbrev pub adds : change_type.FileChange → Bool
adds (change.Metadata m) = true
adds (change.NewSegment segment) = not (length segment.runs.items == 0)
adds change.Nothing = false

-- after a change the received offsets are those of the octets, which all lie below the progress, and the checksum is
-- theirs
pub record IsReady (file : ReceivedFile) (now : ControlBlock) (c : change_type.FileChange) : Type 0 where
  pub came : (i : ℕ) → is_some (received_after file c i) ≡ covered_after file c i
  pub summed : IsSumOf (received_after file c) (word_after file c)
  pub reached : (i : ℕ) → now.progress ≤ i → received_after file c i ≡ None
  pub small : IsSmall now
