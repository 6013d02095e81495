-- What the file says on a disk, while a line is written and from then on.
use Rattle.std.proofs.Common.{◌≡◌, ◌≢◌, inl, inr, ◌⊎◌, ⊎_elim, ℕ, Bool, true, false, List, [], ◌∷◌, ◌++◌, Option, Some, None, Result, Ok, Err, OnOk, is_err, is_ok, if◌then◌else◌, refl, sym, ap, ◌∙◌, subst, arith, codes, length, length-append}
use Rattle.std.specs.Str.{bytes_eq}
use Rattle.std.proofs.lemmas.List.{append-nil}
use Rattle.std.proofs.lemmas.Slice.Eq.{bytes_eq-Decides}
use Rattle.disk.specs.declared.device.Fault.{Fault}
use Rattle.disk.specs.Steps.{Call, Step, step_of}
use Rattle.disk.specs.Steps.Call.{append, flush}
use Rattle.disk.specs.Steps.Step.{did, saw, tried}
use Rattle.disk.specs.Crash.{Content, Entry, Leaves, LeavesBehind, LeavesOctets, MayFind, left, state}
use Rattle.disk.specs.Crash.Content.{flushed, grown, worn}
use Rattle.disk.specs.Crash.Entry.{open_file}
use Rattle.disk.specs.Parts.{IsKept}
use Rattle.disk.specs.Promise.{Changes, Is, OldOrNew, Whole}
use Rattle.disk.proofs.Calls.{left_other, once, twice}
use Rattle.disk.proofs.Moments.{wider}
use Rattle.disk.proofs.Moments as moments
use Rattle.disk.proofs.Answered as answered
use Rattle.disk.proofs.Kept as kept
use Rattle.outbox_file.specs.declared.lines.Line.{Line}
use Rattle.outbox_file.specs.Books.{BookValue, after, empty}
use Rattle.outbox_file.specs.Files.{Holds, IsMended, IsPlainBook, IsStored, Notes, Reads, SaysEither, beside, found_book}
use Rattle.outbox_file.specs.Texts.{IsPlain, book_in, book_text, line_text, reading_of, Reading}
use Rattle.outbox_file.proofs.ReadFacts.{after_plain, book_plain, book_read, empty_plain, part_says, says, text_then_line}

-- what is stored is found
pub holds : (path : List ℕ) (book : BookValue) (steps : List Step) → IsStored path book steps → Holds path book steps
holds path book steps stored = record {
  only = λ found may.
      let here = kept.finds steps (beside path) path (flushed stored.text) stored.kept found may in
      ap found_book here.1.0 ∙ ap (λ (l : List ℕ). book_in l) here.1.1 ∙ ap (λ (r : Reading). r.book) stored.says;
}

same_or_not : (one other : List ℕ) → (one ≡ other) ⊎ (one ≢ other)
same_or_not one other = by (bytes_eq one other) refl
  where
    by : (same : Bool) → bytes_eq one other ≡ same → (one ≡ other) ⊎ (one ≢ other)
    by true is = inl ((bytes_eq-Decides one other).0 is)
    by false is = inr (λ equal. let yes = (bytes_eq-Decides one other).1 equal in absurd cc)

-- the open file changed, and nothing else: what it may leave says the one or the other
module _ (path : List ℕ) (one other : BookValue) (s : List Step) (step : Step) (content : Content) (kept_before : IsKept (beside path) path content s) (now : Content) (kept_now : IsKept (beside path) path now (step ∷ s)) where
  pub changed : ((at : List ℕ) (entry : Entry) → left (state (step ∷ s)) at entry → left (state s) at entry)
      → ((octets : List ℕ) → LeavesOctets now octets → (book_in octets ≡ Some one) ⊎ (book_in octets ≡ Some other))
      → OldOrNew (Is (beside path)) (SaysEither path one other) s (step ∷ s)
  changed back either at found not_part may = ⊎_elim
      (λ is. inr (is, said (subst (λ (l : List ℕ). MayFind (step ∷ s) l found) is may)))
      (λ apart. inl (record {
        entry = may.entry;
        named = back at may.entry may.named;
        leaves = left_other (state s).file (state (step ∷ s)).file may.entry found
            (λ opened. kept_now.alone at not_part apart (subst (λ (e : Entry). left (state (step ∷ s)) at e) opened may.named)) may.leaves;
      }))
      (same_or_not at path)
    where
      said : MayFind (step ∷ s) path found → (found_book found ≡ Some one) ⊎ (found_book found ≡ Some other)
      said here =
          let left_here = kept.finds (step ∷ s) (beside path) path now kept_now found here in
          ⊎_elim (λ is. inl (ap found_book left_here.1.0 ∙ is)) (λ is. inr (ap found_book left_here.1.0 ∙ is)) (either left_here.0 left_here.1.1)

module _ (path : List ℕ) (book : BookValue) (line : Line) (s mid : List Step) (stored : IsStored path book s) (plain : IsPlain line) where
  abbrev text : List ℕ
  text = stored.text

  abbrev next : BookValue
  next = after line book

  abbrev Part : List ℕ → Type 0
  Part = Is (beside path)

  abbrev Either : List ℕ → Option (List ℕ) → Type 0
  Either = SaysEither path book next

  part_of_it : (octets : List ℕ) → LeavesBehind text (line_text line) octets → (book_in octets ≡ Some book) ⊎ (book_in octets ≡ Some next)
  part_of_it octets is = part_says text book line octets stored.says plain is

  all_of_it : book_in (text ++ line_text line) ≡ Some next
  all_of_it = ap (λ (r : Reading). r.book) (text_then_line text book line stored.says plain)

  pub appends : {T : Type 0} (one : Result T Fault) → mid ≡ step_of one (append (line_text line)) ∷ s → Notes path book next s mid
  appends one is = answered.either_way Part Either s mid (append (line_text line)) one is
      (changed path book next s (did (append (line_text line))) (flushed text) stored.kept (grown text (line_text line)) (kept.appends s (beside path) path (flushed text) stored.kept (line_text line))
      (λ at entry now. ⊎_elim (λ here. inl (once here)) (λ gone. inr gone) now) part_of_it)
      (changed path book next s (tried (append (line_text line))) (flushed text) stored.kept (worn text (line_text line)) (kept.not_appended s (beside path) path (flushed text) stored.kept (line_text line))
      (λ at entry now. ⊎_elim (λ here. inl (twice here)) (λ gone. inr gone) now) part_of_it)

  module _ {T : Type 0} (one : Result T Fault) (x : T) (ok : one ≡ Ok x) (first : mid ≡ step_of one (append (line_text line)) ∷ s) (now : List Step) where
    grew : IsKept (beside path) path (grown text (line_text line)) mid
    grew = subst (IsKept (beside path) path (grown text (line_text line))) (sym (answered.did_it s mid one (append (line_text line)) x ok first))
        (kept.appends s (beside path) path (flushed text) stored.kept (line_text line))

    none_behind : (octets : List ℕ) → LeavesBehind text (line_text line ++ []) octets → (book_in octets ≡ Some book) ⊎ (book_in octets ≡ Some next)
    none_behind octets is = part_of_it octets (subst (λ (l : List ℕ). LeavesBehind text l octets) (append-nil (line_text line)) is)

    flushes : {U : Type 0} (two : Result U Fault) → now ≡ step_of two flush ∷ mid → Notes path book next mid now
    flushes two is = answered.either_way Part Either mid now flush two is
        (changed path book next mid (did flush) (grown text (line_text line)) grew (flushed (text ++ line_text line)) (kept.flushes mid (beside path) path (grown text (line_text line)) grew)
        (λ at entry now. ⊎_elim (λ here. inl (once here)) (λ gone. inr gone) now) (λ octets is. inr (ap (λ (l : List ℕ). book_in l) is ∙ all_of_it)))
        (changed path book next mid (tried flush) (grown text (line_text line)) grew (worn text (line_text line ++ [])) (kept.not_flushed mid (beside path) path (grown text (line_text line)) grew)
        (λ at entry now. ⊎_elim (λ here. inl (twice here)) (λ gone. inr gone) now) none_behind)

    pub notes : {U : Type 0} (two : Result U Fault) → now ≡ step_of two flush ∷ mid → Notes path book next s now
    notes two is = moments.then Part Either s mid now (appends one first) (flushes two is)

    stores : {U : Type 0} (two : Result U Fault) (y : U) → two ≡ Ok y → now ≡ step_of two flush ∷ mid → IsStored path next now
    stores two y well is = record {
      text = text ++ line_text line;
      kept = subst (IsKept (beside path) path (flushed (text ++ line_text line))) (sym (answered.did_it mid now two flush y well is)) (kept.flushes mid (beside path) path (grown text (line_text line)) grew);
      says = text_then_line text book line stored.says plain;
    }

    pub stored_if : {U : Type 0} (two : Result U Fault) → now ≡ step_of two flush ∷ mid → OnOk two (IsStored path next now)
    stored_if {U = U} two is = by two refl
      where
        by : (answer : Result U Fault) → two ≡ answer → OnOk answer (IsStored path next now)
        by (Ok y) well = stores two y well is
        by (Err fault) well = tt

-- a whole file is written, whose text says a book
module _ (path text : List ℕ) (one book : BookValue) (s now : List Step) (reads : reading_of text ≡ says book) where
  pub replaces : Changes (Is (beside path)) (Whole path text) s now → Notes path one book s now
  replaces changes = wider (Is (beside path)) (Is (beside path)) (Whole path text) (SaysEither path one book) (λ at here. here)
      (λ at found whole. (whole.0, inr (ap found_book whole.1 ∙ ap (λ (r : Reading). r.book) reads))) s now changes

  pub replaced : IsKept (beside path) path (flushed text) now → IsStored path book now
  replaced kept_now = record { text = text; kept = kept_now; says = reads }

-- the text of a book and one line more
pub rewritten : (whole : List ℕ) (book : BookValue) (line : Line) → whole ≡ book_text book ++ line_text line → IsPlainBook book → IsPlain line → reading_of whole ≡ says (after line book)
rewritten whole book line is all_plain plain = ap reading_of is ∙ text_then_line (book_text book) book line (book_read book all_plain) plain

-- a text to which octets could be added
pub extended : {T E : Type 0} (result : Result T E) (old more new : List ℕ) → is_err result ≡ false → new ≡ (if is_ok result then old ++ more else old) → new ≡ old ++ more
extended (Ok x) old more new ok is = is
extended (Err e) old more new ok is = absurd cc

-- the path beside a path is another
pub apart : (path other : List ℕ) → other ≡ beside path → path ≢ other
apart path other is same =
    let both : length path ≡ length (beside path) = ap (λ (l : List ℕ). length l) (same ∙ is) in
    omega (arith, both, length-append path (codes ".new"))

-- ---- a line that was put is noted

-- a book that has room for one more line says the same; the path is given as text
module _ (path at : List ℕ) (old kept new : BookValue) (line : Line) (same : kept ≡ old) (here : at ≡ path) (noted : new ≡ after line kept) where
  pub said_then : new ≡ after line old
  said_then = noted ∙ ap (after line) same

  pub plain_then : IsPlain line → IsPlainBook old → IsPlainBook new
  plain_then plain all_plain = subst IsPlainBook (sym said_then) (after_plain line old plain all_plain)

  module _ (before now : List Step) where
    at_path : IsStored at (after line kept) now → IsStored path (after line kept) now
    at_path stored = subst (λ (l : List ℕ). IsStored l (after line kept) now) here stored

    pub stored_then : IsStored at (after line kept) now → IsStored path new now
    stored_then stored = subst (λ (b : BookValue). IsStored path b now) (sym noted) (at_path stored)

    pub holds_then : IsStored at (after line kept) now → Holds path (after line old) now
    holds_then stored = holds path (after line old) now (subst (λ (b : BookValue). IsStored path (after line b) now) same (at_path stored))

    pub notes_then : Notes at kept (after line kept) before now → Notes path old (after line old) before now
    notes_then notes_at =
        subst (λ (b : BookValue). Notes path b (after line b) before now) same (subst (λ (l : List ℕ). Notes l kept (after line kept) before now) here notes_at)

-- ---- a file is opened

-- what was found is plain
found_plain : (found : Option (List ℕ)) (book : BookValue) → found_book found ≡ Some book → IsPlainBook book
found_plain None book is = let same : empty ≡ book = cc in subst IsPlainBook same empty_plain
found_plain (Some text) book is = book_plain false text book is

pub reads_plain : (mends : Bool) (path : List ℕ) (book : BookValue) (before now : List Step) → Reads mends path book before now → IsPlainBook book
reads_plain mends path book before now reads = ⊎_elim (λ plainly. found_plain reads.found book plainly.0) (λ mended. book_plain true mended.text book mended.said) reads.said

-- its book was written as a whole
module _ (path at text : List ℕ) (book : BookValue) (here : at ≡ path) (is : text ≡ book_text book) (plain : IsPlainBook book) (before now : List Step) where
  said_by_text : reading_of text ≡ says book
  said_by_text = ap reading_of is ∙ book_read book plain

  pub opened_stored : IsKept (beside at) at (flushed text) now → IsStored path book now
  opened_stored kept_now = subst (λ (l : List ℕ). IsStored l book now) here (record { text = text; kept = kept_now; says = said_by_text })

  pub opened_notes : Changes (Is (beside at)) (Whole at text) before now → Notes path book book before now
  opened_notes changes = subst (λ (l : List ℕ). Notes l book book before now) here (replaces at text book book before now said_by_text changes)

-- a text was read that says this by itself
pub read_says : (mends : Bool) (path text : List ℕ) (book : BookValue) (before now : List Step) → book_in text ≡ Some book → now ≡ saw path (Some text) ∷ before → Reads mends path book before now
read_says mends path text book before now is steps = record { found = Some text; said = inl (is, steps) }

-- a text that says nothing by itself was kept aside, and says this without its bad lines
pub mended : (mends : Bool) (path text : List ℕ) (book : BookValue) (before read now : List Step) → read ≡ saw path (Some text) ∷ before → IsMended mends path (Some text) book read now → Reads mends path book before now
mended mends path text book before read now is mended_it = record {
  found = Some text;
  said = inr (subst (λ (l : List Step). IsMended mends path (Some text) book l now) is mended_it);
}
