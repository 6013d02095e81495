-- Meaning. A kept event: its level, its line, and how much memory it takes up.
use Rattle.std.specs.Prelude.{ℕ, ◌++◌, List, codes, length}
use Rattle.indications.specs.declared.indication.Indication.{Indication}
use Rattle.indications.specs.declared.indication.Indication.TheVariants.{FileSegmentRecv}
use Rattle.answer_texts.specs.ToldTexts.{indication_name}
use Rattle.event_levels.specs.declared.level.Level.{Level}
use Rattle.station_lines.specs.Members.{line_of, text_member}
use Rattle.station_lines.specs.Shared.{key_members}
use Rattle.station_lines.specs.EventLines.{head_members, said_members}
use Rattle.kept_events.specs.declared.line.SegmentEvent.{SegmentEvent}
use Rattle.kept_events.specs.declared.line.Text.{Text}
use Rattle.kept_events.specs.declared.line.Text.TheVariants.{Written, Segment}

pub record LineValue : Type 0 where
  pub level : Level
  pub text : List ℕ
  pub weight : ℕ

-- the indication of a segment
abbrev pub segment_of : SegmentEvent → Indication
segment_of event = FileSegmentRecv event.offset event.length

-- the line of a segment's event
abbrev pub segment_line : SegmentEvent → List ℕ
segment_line event =
    line_of (head_members event.head (codes "indication") ++ (text_member (codes "user") event.user.now
    ++ (key_members event.key ++ (text_member (codes "name") (indication_name (segment_of event)) ++ said_members (segment_of event)))))

-- a line that is written already, or will be once it is wanted
abbrev pub text_of : Text → List ℕ
text_of (Written octets) = octets
text_of (Segment event) = segment_line event

-- the octets that are written already
abbrev pub weight_of : Text → ℕ
weight_of (Written octets) = length octets
weight_of (Segment event) = 0
