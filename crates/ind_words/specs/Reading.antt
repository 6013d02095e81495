-- Meaning. What a reader of words has accepted, and what it may accept next.
use Rattle.std.specs.Prelude.{◌≡◌, ℕ, ◌+◌, ◌<◌, Bool, false, ◌||◌, IsTrue, List, [], ◌∷◌, ◌++◌, Option, None, Some}
use Rattle.std.specs.List.{list_any, count_by}
use Rattle.indications.specs.declared.indication.Indication.{Indication}
use Rattle.gap_list.specs.Covered.{covered}
use Rattle.ind_words.specs.declared.reader.WordReader.{WordReader}
use Rattle.ind_words.specs.declared.segments.Segments.{Segments}
use Rattle.indications.specs.declared.side.Side.{Side}
use Rattle.ind_words.specs.Marks.{marks_of}
use Rattle.indications.specs.Words.{IsBegunOf, told_onto, is_segment, tells_of}

-- for how many more segments there is room
abbrev pub room_left : Option Segments → ℕ
room_left None = 0
room_left (Some segments) = segments.left

-- whether an offset was reported
abbrev pub covers : Option Segments → ℕ → Bool
covers None i = false
covers (Some segments) i = covered segments.offsets i

-- there is room for the next indication, if it reports a segment
abbrev pub HasRoom : ℕ → List Indication → Indication → Type 0
HasRoom room before next = IsTrue (is_segment next) → count_by is_segment before < room

-- with the next indication they are still the beginning of a word, and there is room for its segment
abbrev pub MayGoOn : Side → ℕ → List Indication → Indication → Type 0
MayGoOn side room word next = IsBegunOf side (word ++ next ∷ []) × HasRoom room word next

-- what a reader of a side, with room for `room` segments, knows of the indications, which are newest first
pub record Knows (reader : WordReader) (side : Side) (room : ℕ) (before : List Indication) : Type 0 where
  pub of_side : reader.side ≡ side
  pub marks : reader.marks ≡ marks_of before
  pub left : room_left reader.segments + count_by is_segment before ≡ room
  pub covered : (i : ℕ) → covers reader.segments i ≡ list_any (tells_of i) before

-- the reader with the segment of an indication added, if it reports one
pub record HasAdded (old new : WordReader) (next : Indication) : Type 0 where
  pub side : new.side ≡ old.side
  pub marks : new.marks ≡ old.marks
  pub left : room_left new.segments + count_by is_segment (next ∷ []) ≡ room_left old.segments
  pub covered : (i : ℕ) → covers new.segments i ≡ (tells_of i next || covers old.segments i)

-- a reader of a side, with room for `room` segments, has accepted these indications, oldest first
pub record StandsAfter (reader : WordReader) (side : Side) (room : ℕ) (word : List Indication) : Type 0 where
  pub begun : IsBegunOf side word
  pub known : Knows reader side room (told_onto [] word)
