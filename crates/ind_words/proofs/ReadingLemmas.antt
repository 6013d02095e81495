-- What a reader knows of the indications that it has taken.
use Rattle.std.proofs.Common.{◌≡◌, ℕ, ◌+◌, ◌<◌, ◌≤◌, ◌↔◌, Bool, false, List, [], ◌∷◌, ◌++◌, Option, IsTrue, length, get_or, take, drop, refl, ap, sym, ◌∙◌, arith, subst}
use Rattle.std.specs.List.{list_any, count_by}
use Rattle.std.proofs.lemmas.Bool.{true≢false, false≢true}
use Rattle.std.proofs.lemmas.List.{take_more, take-append-drop, length-take-le}
use Rattle.std.proofs.lemmas.List.Sums.{count_by-le-length}
use Rattle.std.proofs.Math.Bool.{or-false}
use Rattle.cfdp_types.specs.declared.limits.TheConstants.{FILE_OCTETS}
use Rattle.indications.specs.declared.indication.Indication.{Indication}
use Rattle.indications.specs.declared.kind.IndicationKind.{IndicationKind}
use Rattle.indications.specs.declared.kind.IndicationKind.TheVariants as kind
use Rattle.ind_words.specs.declared.marks.Marks.{Marks}
use Rattle.ind_words.specs.declared.reader.WordReader.{WordReader}
use Rattle.indications.specs.declared.side.Side.{Side}
use Rattle.indications.specs.declared.side.Side.TheVariants.{Receiver}
use Rattle.ind_words.specs.Marks.{marks_of}
use Rattle.gap_list.specs.Runs.{IsFree}
use Rattle.ind_words.specs.declared.segments.Segments.{Segments}
use Rattle.ind_words.specs.Offsets.{IsInitial}
use Rattle.ind_words.specs.Reading.{covers, room_left, HasRoom, MayGoOn, Knows, HasAdded, StandsAfter}
use Rattle.indications.specs.Kinds.{kind_of, is_segment_reception, has_octet}
use Rattle.indications.specs.Words.{IsNext, IsNextOf, IsBegunOf, IsWordOf, IsFilled, is_end, is_segment, tells_of, told_onto}
use Rattle.indications.proofs.WordLemmas.{told_onto-append, list_any-told_onto, count_by-told_onto, MayFollowOf-append, MayFollowOf-front, MayFollowOf-rest}

-- what isn't a segment
segment_other : (next : IndicationKind) → ((offset length : ℕ) → next ≡ kind.Segment offset length → ⊥) → is_segment_reception next ≡ false
segment_other (kind.Segment offset length) other = absurd (other offset length refl)
segment_other kind.Opening other = refl
segment_other kind.EofSent other = refl
segment_other kind.EofRecv other = refl
segment_other kind.Metadata other = refl
segment_other kind.Suspension other = refl
segment_other kind.Resumption other = refl
segment_other (kind.End delivery) other = refl
segment_other kind.Notice other = refl

pub is_segment_other : (next : Indication) → ((offset length : ℕ) → kind_of next ≡ kind.Segment offset length → ⊥) → is_segment next ≡ false
is_segment_other next other = segment_other (kind_of next) other

-- what is no segment tells of no octet
octet_other : (i : ℕ) (next : IndicationKind) → is_segment_reception next ≡ false → has_octet i next ≡ false
octet_other i (kind.Segment offset length) other = absurd (true≢false other)
octet_other i kind.Opening other = refl
octet_other i kind.EofSent other = refl
octet_other i kind.EofRecv other = refl
octet_other i kind.Metadata other = refl
octet_other i kind.Suspension other = refl
octet_other i kind.Resumption other = refl
octet_other i (kind.End delivery) other = refl
octet_other i kind.Notice other = refl

pub tells_of_other : (i : ℕ) (next : Indication) → is_segment next ≡ false → tells_of i next ≡ false
tells_of_other i next other = octet_other i (kind_of next) other

-- and adds nothing to the segments
pub adds_nothing : (reader : WordReader) (next : Indication) → is_segment next ≡ false → HasAdded reader reader next
adds_nothing reader next other = record {
  side = refl;
  marks = refl;
  left = let none : count_by is_segment (next ∷ []) ≡ 0 = rw other refl in rw none (omega arith);
  covered = λ i. rw (tells_of_other i next other) refl;
}

-- the segments that cover all offsets below some size
pub initial_filled : (segments : Option Segments) (before : List Indication) → ((i : ℕ) → covers segments i ≡ list_any (tells_of i) before)
    → IsInitial (covers segments) ↔ IsFilled before
initial_filled segments before covered = (
  λ initial. (
    initial.0,
    λ i. (
      λ has. (initial.1 i).0 (covered i ∙ has),
      λ below. sym (covered i) ∙ (initial.1 i).1 below,
    ),
  ),
  λ filled. (
    filled.0,
    λ i. (
      λ has. (filled.1 i).0 (sym (covered i) ∙ has),
      λ below. covered i ∙ (filled.1 i).1 below,
    ),
  ),
)

-- when a segment may be taken
pub segment_exact : (segments : Option Segments) (room : ℕ) (before : List Indication) (next : Indication) (offset length : ℕ) (result : Bool)
    → kind_of next ≡ kind.Segment offset length
    → (IsTrue result ↔ ((0 < length) × (offset + length ≤ FILE_OCTETS) × IsFree (covers segments) offset (offset + length) × (0 < room_left segments)))
    → room_left segments + count_by is_segment before ≡ room
    → ((i : ℕ) → covers segments i ≡ list_any (tells_of i) before)
    → IsTrue result ↔ (IsNext before next × HasRoom room before next)
segment_exact segments room before next offset length result is exact left covered = rw is (
  λ is.
      let all = exact.0 is in
      ((all.0, all.1, λ i from below. sym (covered i) ∙ all.2 i from below), λ segment. omega (arith, left, all.3)),
  λ may.
      let less : count_by is_segment before < room = may.1 refl in
      exact.1 (may.0.0, may.0.1, λ i from below. covered i ∙ may.0.2 i from below, omega (arith, left, less)),
)

-- when a receiver may tell what is no segment
pub other_exact : (reader : WordReader) (room : ℕ) (before : List Indication) (next : Indication) (initial result : Bool)
    → Knows reader Receiver room before → is_segment next ≡ false → (IsTrue initial ↔ IsInitial (covers reader.segments))
    → ((told : List Indication) → reader.marks ≡ marks_of told → (IsTrue initial ↔ IsFilled told) → is_segment next ≡ false → (IsTrue result ↔ IsNext told next))
    → IsTrue result ↔ (IsNext before next × HasRoom room before next)
other_exact reader room before next initial result knows other is_initial exact =
    let filled = initial_filled reader.segments before knows.covered in
    let may = exact before knows.marks (λ is. filled.0 (is_initial.0 is), λ is. is_initial.1 (filled.1 is)) other in
    (λ is. (may.0 is, λ segment. absurd (false≢true (sym other ∙ segment))), λ goes. may.1 goes.0)

-- the indications in either order have as many segments
pub HasRoom-told_onto : (room : ℕ) (word : List Indication) (next : Indication) → HasRoom room (told_onto [] word) next ↔ HasRoom room word next
HasRoom-told_onto room word next =
    let same : count_by is_segment (told_onto [] word) ≡ count_by is_segment word =
    count_by-told_onto is_segment [] word ∙ omega arith in
    (λ has segment. rw same at (has segment), λ has segment. rw same (has segment))

-- one more indication after the beginning of a word
pub begun_more : (side : Side) (word : List Indication) (next : Indication) → IsBegunOf side word
    → list_any is_end (told_onto [] word) ≡ false → IsNextOf side (told_onto [] word) next → IsBegunOf side (word ++ next ∷ [])
begun_more side word next begun open_ may =
    MayFollowOf-append side [] word (next ∷ []) begun (open_, may, tt)

-- when a reader may go on
pub may_go_on : (side : Side) (room : ℕ) (word : List Indication) (next : Indication) → IsBegunOf side word
    → ((list_any is_end (told_onto [] word) ≡ false) × IsNextOf side (told_onto [] word) next × HasRoom room (told_onto [] word) next)
    ↔ MayGoOn side room word next
may_go_on side room word next begun = (
  λ may. (begun_more side word next begun may.0 may.1, (HasRoom-told_onto room word next).0 may.2),
  λ may.
      let last = MayFollowOf-rest side [] word (next ∷ []) may.0 in
      (last.0, last.1, (HasRoom-told_onto room word next).1 may.1),
)

-- one more indication after those that a reader has taken
pub stands_more : (old new : WordReader) (side : Side) (room : ℕ) (word : List Indication) (next : Indication)
    → StandsAfter old side room word
    → (Knows old side room (told_onto [] word) → Knows new side room (next ∷ told_onto [] word))
    → MayGoOn side room word next → StandsAfter new side room (word ++ next ∷ [])
stands_more old new side room word next stands more may = record {
  begun = may.0;
  known = rw (told_onto-append [] word (next ∷ [])) (more stands.known);
}

-- the end of what a reader has taken
pub ends_word : (reader : WordReader) (side : Side) (room : ℕ) (word : List Indication) → StandsAfter reader side room word
    → IsTrue reader.marks.ended ↔ IsWordOf side word
ends_word reader side room word stands =
    let ended : reader.marks.ended ≡ list_any is_end word =
    ap (λ (m : Marks). m.ended) stands.known.marks ∙ list_any-told_onto is_end [] word ∙ or-false (list_any is_end word) in
    (λ is. (stands.begun, sym ended ∙ is), λ is. ended ∙ is.1)

-- through the beginning of a word a reader with enough room goes on to its end
pub goes_through : (side : Side) (room : ℕ) (word : List Indication) (place : ℕ) (d : Indication) → IsBegunOf side word
    → place < length word → length word ≤ room → MayGoOn side room (take place word) (get_or word place d)
goes_through side room word place d begun within enough =
    let more : take (place + 1) word ≡ take place word ++ get_or word place d ∷ [] = take_more word place d within in
    let all : IsBegunOf side (take (place + 1) word ++ drop (place + 1) word) =
    subst (IsBegunOf side) (sym (take-append-drop (place + 1) word)) begun in
    let short : length (take place word) ≡ place = length-take-le place word (omega arith) in (
      subst (IsBegunOf side) more (MayFollowOf-front side [] (take (place + 1) word) (drop (place + 1) word) all),
      λ segment. omega (arith, count_by-le-length is_segment (take place word), short),
    )
