-- Meaning. Which of the last events are kept, and which of them are shown.
use Rattle.std.specs.Prelude.{ℕ, ◌+◌, ◌-◌, Bool, ◌||◌, nat_le, nat_lt, if◌then◌else◌, List, [], ◌∷◌, ◌++◌, length, drop, map}
use Rattle.std.specs.List.{concat, filter}
use Rattle.event_levels.specs.declared.level.Level.{Level}
use Rattle.event_levels.specs.declared.level.Level.TheVariants.{Detail, Info}
use Rattle.kept_events.specs.KeptLines.{LineValue, segment_line}
use Rattle.kept_events.specs.declared.line.SegmentEvent.{SegmentEvent}
use Rattle.kept_events.specs.declared.ring.Form.{Form}
use Rattle.kept_events.specs.declared.ring.Form.TheVariants.{Labelled, Plain}
use Rattle.event_levels.specs.Levels.{labelled, reaches}

-- a line of a level that is written already
abbrev pub kept_line : Level → List ℕ → LineValue
kept_line level text = record { level = level; text = text; weight = length text }

-- a line of a level that is written once it is wanted
abbrev pub kept_segment : Level → SegmentEvent → LineValue
kept_segment level event = record { level = level; text = segment_line event; weight = 0 }

-- how many octets of lines are written already
abbrev pub octets_of : List LineValue → ℕ
octets_of [] = 0
octets_of (line ∷ lines) = line.weight + octets_of lines

-- beside so many lines of so many octets there is no room for one of some more: 1024 lines are kept, or 2 MiB of octets
-- that are written already
abbrev pub has_no_room : ℕ → ℕ → ℕ → Bool
has_no_room count octets more = nat_le 1024 count || nat_lt 2097152 (octets + more)

abbrev pub is_full : ℕ → List LineValue → Bool
is_full octets lines = has_no_room (length lines) (octets_of lines) octets

-- without the oldest ones, as long as there is none
abbrev pub trimmed : ℕ → List LineValue → List LineValue
trimmed octets [] = []
trimmed octets (line ∷ lines) = if is_full octets (line ∷ lines) then trimmed octets lines else line ∷ lines

-- with one more line
abbrev pub pushed : LineValue → List LineValue → List LineValue
pushed line lines = trimmed line.weight lines ++ line ∷ []

-- the last ones of all, and the last ones that matter
pub record KeptValue : Type 0 where
  pub all : List LineValue
  pub notable : List LineValue

-- with one more line: among all, and among those that matter if it does
abbrev pub kept_with : LineValue → KeptValue → KeptValue
kept_with line kept = record {
  all = pushed line kept.all;
  notable = if reaches line.level Info then pushed line kept.notable else kept.notable;
}

-- lines of a level or above
abbrev pub matters : Level → LineValue → Bool
matters least line = reaches line.level least

-- the lines among which those of a level are looked for
abbrev pub lines_from : Level → KeptValue → List LineValue
lines_from Detail kept = kept.all
lines_from _ kept = kept.notable

-- the last lines of a list, at most so many
abbrev pub last_of : ℕ → List LineValue → List LineValue
last_of most lines = drop (length lines - most) lines

-- the last lines of a level or above, at most so many
abbrev pub shown : Level → ℕ → KeptValue → List LineValue
shown least most kept = last_of most (filter (matters least) (lines_from least kept))

-- lines, with a word before each, as they are or with their levels
abbrev pub text_after : Form → List ℕ → LineValue → List ℕ
text_after Plain word line = word ++ line.text
text_after Labelled word line = word ++ labelled line.level line.text

abbrev pub texts : Form → List ℕ → List LineValue → List ℕ
texts form word lines = concat (map (text_after form word) lines)
