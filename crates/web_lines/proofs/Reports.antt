-- Reports in the making: numbers behind numbers, families behind families.
use Rattle.std.proofs.Common.{◌≡◌, ℕ, ◌+◌, ◌<◌, List, [], ◌∷◌, ◌++◌, length, take, get_or, map, refl, ap, sym, ◌∙◌, arith}
use Rattle.std.proofs.lemmas.Grind.{common_steps}
use Rattle.std.proofs.lemmas.List.{take_more}
use Rattle.web_lines.specs.declared.lines.Line.{Line}
use Rattle.web_lines.specs.declared.told.Told.{Told}
use Rattle.web_lines.specs.Document.{AreLinesOf}
use Rattle.web_lines.specs.Families.{Row, count_rows, row_of, told_rows}
use Rattle.web_lines.specs.Metrics.{AddsCounts, AddsLine, AddsLines, AddsRows, IsMetrics, counts_text, head_text, up_text}

-- the numbers of one more line come behind those of lines
pub one_more_line : (row : Row) (lines : List Line) (line : Line) (a b c : List ℕ) → AddsLines row lines a b → AddsLine row line b c
    → AddsLines row (lines ++ line ∷ []) a c
one_more_line row [] line a b c same more = (c, rw (sym same) more, refl)
one_more_line row (first ∷ lines) line a b c (middle, begins, rest) more =
    (middle, begins, one_more_line row lines line middle b c rest more)

-- those up to the next line
pub next_line : (row : Row) (lines : List Line) (place : ℕ) (other : Line) (a b c : List ℕ) → place < length lines
    → AddsLines row (take place lines) a b → AddsLine row (get_or lines place other) b c
    → AddsLines row (take (place + 1) lines) a c
next_line row lines place other a b c within old more =
    rw (take_more lines place other within) (one_more_line row (take place lines) (get_or lines place other) a b c old more)

-- one more family comes behind families
pub one_more_row : (rows : List Row) (row : Row) (lines : List Line) (a b c : List ℕ) → AddsRows rows lines a b
    → AddsLines row lines (b ++ head_text row.head) c → AddsRows (rows ++ row ∷ []) lines a c
one_more_row [] row lines a b c same more = (c, rw (sym same) more, refl)
one_more_row (first ∷ rows) row lines a b c (middle, begins, rest) more =
    (middle, begins, one_more_row rows row lines middle b c rest more)

-- the row at a place is the last of those up to there
pub rows_to : (rows : List Told) (place : ℕ) (other : Told) → place < length rows
    → map row_of (take (place + 1) rows) ≡ map row_of (take place rows) ++ row_of (get_or rows place other) ∷ []
rows_to rows place other within = grind (arith, common_steps, take_more rows place other within)

-- the family of the next row comes behind those of the rows before
pub next_row : (rows : List Told) (place : ℕ) (other : Told) (lines : List Line) (a b c : List ℕ) → place < length rows
    → AddsRows (map row_of (take place rows)) lines a b → AddsLines (row_of (get_or rows place other)) lines (b ++ head_text (row_of (get_or rows place other)).head) c
    → AddsRows (map row_of (take (place + 1) rows)) lines a c
next_row rows place other lines a b c within old more =
    rw (rows_to rows place other within)
    (one_more_row (map row_of (take place rows)) (row_of (get_or rows place other)) lines a b c old more)

-- the rows of the code's table are those of the definition
pub told_report : (rows : List Told) (lines : List Line) (a b : List ℕ) → map row_of rows ≡ told_rows
    → AddsRows (map row_of rows) lines a b → AddsRows told_rows lines a b
told_report rows lines a b rows_are report = rw (sym rows_are) report

-- the same for those of a station that counts
pub count_report : (rows : List Told) (lines : List Line) (a b : List ℕ) → map row_of rows ≡ count_rows
    → AddsRows (map row_of rows) lines a b → AddsRows count_rows lines a b
count_report rows lines a b rows_are report = rw (sym rows_are) report

-- all numbers of a station that answers
pub whole_metrics : (status : List ℕ) (known told_lines counted_lines last_lines : List Line) (old start told counted text : List ℕ)
    → AreLinesOf status known → told_lines ≡ known → counted_lines ≡ known → last_lines ≡ known → old ≡ [] → start ≡ old ++ up_text 1
    → AddsRows told_rows told_lines start told → counted ≡ told ++ counts_text counted_lines → AddsCounts last_lines counted text
    → IsMetrics status text
whole_metrics status known told_lines counted_lines last_lines old start told counted text all told_same counted_same last_same none start_is rows counts last = (
  known,
  all,
  (
    told,
    rw (start_is ∙ ap (λ t. t ++ up_text 1) none) at (rw told_same at rows),
    rw (counts ∙ ap (λ l. told ++ counts_text l) counted_same) at (rw last_same at last),
  ),
)
