-- A text is read octet by octet, and written line by line.
use Rattle.std.proofs.Common.{◌≡◌, ◌≢◌, ℕ, suc, ◌+◌, ◌<◌, ◌≤◌, ◌==◌, Bool, true, false, List, [], ◌∷◌, ◌++◌, length, map, take, drop, get_or, Option, Some, None, refl, sym, ap, ◌∙◌, subst, arith, if◌then◌else◌, append_assoc}
use Rattle.std.specs.List.{fold}
use Rattle.std.proofs.lemmas.Bool.{eq-eqb, ne_eqb}
use Rattle.std.proofs.lemmas.List.{append-nil, map-append, take-append-drop, take_all, take_more}
use Rattle.std.proofs.lemmas.List.Sums.{fold-append, fold_push}
use Rattle.outbox_file.specs.declared.book.Entry.{Entry}
use Rattle.outbox_file.specs.declared.lines.Line.{Line}
use Rattle.outbox_file.specs.declared.reading.BadLine.{BadLine}
use Rattle.outbox_file.specs.declared.lines.Line.TheVariants.{Next, Queued, Began}
use Rattle.outbox_file.specs.Books.{BookValue, after}
use Rattle.outbox_file.specs.Texts.{Looking, Reading, bad_line_in, book_by, first_bad, is_whole, line_in, line_text, look_on, noted, queued_text, read_on, reading_by, said, text_of, unlooked, unread}

none_said : (mends : Bool) (line : Option Line) → said mends line None ≡ None
none_said true None = refl
none_said false None = refl
none_said mends (Some line) = refl

none_noted : (mends : Bool) (line : List ℕ) → noted mends line None ≡ None
none_noted mends line = by (is_whole line)
  where
    by : (whole : Bool) → (if whole then said mends (line_in line) None else None) ≡ None
    by true = none_said mends (line_in line)
    by false = refl

-- a text with a bad line says nothing, whatever stands behind it
none_stays : (mends : Bool) (octets line : List ℕ) → (fold (read_on mends) (record { book = None; line = line }) octets).book ≡ None
none_stays mends [] line = refl
none_stays mends (octet ∷ octets) line = by (octet == 10) (λ (l : List ℕ). none_stays mends octets l)
  where
    by : (ends : Bool) → ((l : List ℕ) → (fold (read_on mends) (record { book = None; line = l }) octets).book ≡ None)
        → (fold (read_on mends) (if ends then record { book = noted mends line None; line = [] } else record { book = None; line = line ++ octet ∷ [] }) octets).book ≡ None
    by true stays = ap (λ (b : Option BookValue). (fold (read_on mends) (record { book = b; line = [] }) octets).book) (none_noted mends line) ∙ stays []
    by false stays = stays (line ++ octet ∷ [])

-- what was read so far
abbrev pub so_far : BookValue → List ℕ → Reading
so_far book line = record { book = Some book; line = line }

module _ (mends : Bool) (text : List ℕ) (i : ℕ) (below : i < length text) (book : BookValue) (line : List ℕ) (is : reading_by mends (take i text) ≡ so_far book line) where
  at_octet : (octet : ℕ) → get_or text i 0 ≡ octet → reading_by mends (take (i + 1) text) ≡ read_on mends (so_far book line) octet
  at_octet octet here =
      ap (reading_by mends) (take_more text i 0 below)
      ∙ fold_push (read_on mends) unread (take i text) (get_or text i 0)
      ∙ ap (λ (r : Reading). read_on mends r (get_or text i 0)) is
      ∙ ap (λ (o : ℕ). read_on mends (so_far book line) o) here

  -- a line ends
  pub line_ends : (next : BookValue) → get_or text i 0 ≡ 10 → noted mends line (Some book) ≡ Some next → reading_by mends (take (i + 1) text) ≡ so_far next []
  line_ends next ends says = at_octet 10 ends ∙ ap (λ (b : Option BookValue). record { book = b; line = [] }) says

  -- a line goes on
  pub line_goes_on : (octet : ℕ) → get_or text i 0 ≡ octet → octet ≢ 10 → reading_by mends (take (i + 1) text) ≡ so_far book (line ++ octet ∷ [])
  line_goes_on octet here more = at_octet octet here
      ∙ ap (λ (b : Bool). if b then record { book = noted mends line (Some book); line = [] } else so_far book (line ++ octet ∷ [])) (ne_eqb octet 10 more)

  -- a line says nothing, so the text doesn't
  pub bad_line : get_or text i 0 ≡ 10 → noted mends line (Some book) ≡ None → None ≡ book_by mends text
  bad_line ends nothing = sym
      (ap (book_by mends) (sym (take-append-drop (i + 1) text))
      ∙ ap (λ (r : Reading). r.book) (fold-append (read_on mends) unread (take (i + 1) text) (drop (i + 1) text))
      ∙ ap (λ (r : Reading). (fold (read_on mends) r (drop (i + 1) text)).book) (at_octet 10 ends ∙ ap (λ (b : Option BookValue). record { book = b; line = [] }) nothing)
      ∙ none_stays mends (drop (i + 1) text) [])

-- the whole text was read
pub all_read : (mends : Bool) (text : List ℕ) (i : ℕ) (book : BookValue) (line : List ℕ) → length text ≤ i → reading_by mends (take i text) ≡ so_far book line → Some book ≡ book_by mends text
all_read mends text i book line all is = sym (ap (book_by mends) (sym (take_all i text all)) ∙ ap (λ (r : Reading). r.book) is)

-- ---- the line that can't be parsed

-- what was looked through so far
abbrev pub looked : BadLine → List ℕ → Option BadLine → Looking
looked at line bad = record { at = at; line = line; bad = bad }

module _ (text : List ℕ) (i : ℕ) (below : i < length text) (at : BadLine) (line : List ℕ) (bad : Option BadLine) (is : fold look_on unlooked (take i text) ≡ looked at line bad) where
  looked_at : (octet : ℕ) → get_or text i 0 ≡ octet → fold look_on unlooked (take (i + 1) text) ≡ look_on (looked at line bad) octet
  looked_at octet here =
      ap (fold look_on unlooked) (take_more text i 0 below)
      ∙ fold_push look_on unlooked (take i text) (get_or text i 0)
      ∙ ap (λ (r : Looking). look_on r (get_or text i 0)) is
      ∙ ap (λ (o : ℕ). look_on (looked at line bad) o) here

  pub look_ends : get_or text i 0 ≡ 10
      → fold look_on unlooked (take (i + 1) text) ≡ looked (record { line = at.line + 1; offset = at.offset + length line + 1 }) [] (first_bad bad line at)
  look_ends ends = looked_at 10 ends

  pub look_goes_on : (octet : ℕ) → get_or text i 0 ≡ octet → octet ≢ 10 → fold look_on unlooked (take (i + 1) text) ≡ looked at (line ++ octet ∷ []) bad
  look_goes_on octet here more = looked_at octet here
      ∙ ap (λ (b : Bool). if b then looked (record { line = at.line + 1; offset = at.offset + length line + 1 }) [] (first_bad bad line at) else looked at (line ++ octet ∷ []) bad) (ne_eqb octet 10 more)

-- all was looked through
pub all_looked : (text : List ℕ) (i : ℕ) (at : BadLine) (line : List ℕ) (bad : Option BadLine) → length text ≤ i → fold look_on unlooked (take i text) ≡ looked at line bad → bad ≡ bad_line_in text
all_looked text i at line bad all is = sym (ap bad_line_in (sym (take_all i text all)) ∙ ap (λ (r : Looking). r.bad) is)

-- ---- lines are written

pub text_of-append : (one other : List Line) → text_of (one ++ other) ≡ text_of one ++ text_of other
text_of-append [] other = refl
text_of-append (line ∷ one) other = ap (λ (l : List ℕ). line_text line ++ l) (text_of-append one other) ∙ sym (append_assoc (line_text line) (text_of one) (text_of other))

-- one line more
pub text_more : (lines : List Line) (line : Line) (text : List ℕ) → text ≡ text_of lines → text ++ line_text line ≡ text_of (lines ++ line ∷ [])
text_more lines line text is = ap (λ (l : List ℕ). l ++ line_text line) is ∙ sym (text_of-append lines (line ∷ []) ∙ ap (λ (l : List ℕ). text_of lines ++ l) (append-nil (line_text line)))

-- one more file that waits
pub entries_more : (text : List ℕ) (entries : List Entry) (i : ℕ) (entry : Entry) → i < length entries → entry ≡ get_or entries i entry → text ≡ text_of (map Queued (take i entries))
    → (text ++ queued_text entry) ++ 10 ∷ [] ≡ text_of (map Queued (take (i + 1) entries))
entries_more text entries i entry below here is =
    append_assoc text (queued_text entry) (10 ∷ [])
    ∙ text_more (map Queued (take i entries)) (Queued entry) text is
    ∙ ap (λ (e : Entry). text_of (map Queued (take i entries) ++ Queued e ∷ [])) here
    ∙ ap text_of (sym (ap (map Queued) (take_more entries i entry below) ∙ map-append Queued (take i entries) (get_or entries i entry ∷ [])))

-- one more that began
pub begun_more : (text : List ℕ) (front : List Line) (begun : List ℕ) (i number : ℕ) → i < length begun → number ≡ get_or begun i 0 → text ≡ text_of (front ++ map Began (take i begun))
    → text ++ line_text (Began number) ≡ text_of (front ++ map Began (take (i + 1) begun))
begun_more text front begun i number below here is =
    text_more (front ++ map Began (take i begun)) (Began number) text is
    ∙ ap text_of (append_assoc front (map Began (take i begun)) (Began number ∷ []))
    ∙ ap (λ (n : ℕ). text_of (front ++ (map Began (take i begun) ++ Began n ∷ []))) here
    ∙ ap (λ (l : List Line). text_of (front ++ l)) (sym (ap (map Began) (take_more begun i 0 below) ∙ map-append Began (take i begun) (get_or begun i 0 ∷ [])))

-- all that began, and the next number
pub all_lines : (text : List ℕ) (front : List Line) (begun : List ℕ) (i next : ℕ) → length begun ≤ i → text ≡ text_of (front ++ map Began (take i begun))
    → text ++ line_text (Next next) ≡ text_of (front ++ (map Began begun ++ Next next ∷ []))
all_lines text front begun i next all is =
    text_more (front ++ map Began begun) (Next next) text (is ∙ ap (λ (l : List ℕ). text_of (front ++ map Began l)) (take_all i begun all))
    ∙ ap text_of (append_assoc front (map Began begun) (Next next ∷ []))
