-- Meaning. Text for Prometheus.
use Rattle.std.specs.Prelude.{◌≡◌, ◌⊎◌, ◌==◌, ℕ, Bool, true, false, not, if◌then◌else◌, List, [], ◌∷◌, ◌++◌, Option, Some, flat_map, codes, decimal}
use Rattle.json.specs.Json.{Json, document}
use Rattle.web_lines.specs.declared.lines.Line.{Line}
use Rattle.web_lines.specs.declared.state.State.{State}
use Rattle.web_lines.specs.declared.state.State.TheVariants.{Active, Suspended, Storing, Closing, Ended}
use Rattle.web_lines.specs.Document.{AreLinesOf, count_of_kind, place_of}
use Rattle.web_lines.specs.Hindered.{count_of_hindered}
use Rattle.web_lines.specs.declared.kind.Kind.TheVariants as kinds
use Rattle.web_lines.specs.Families.{Head, Row, count_rows, hindered_head, outbox_head, reading_head, states_head, storing_head, told_rows, up_head}
use Rattle.web_lines.specs.Labels.{SaidLabel, labels_at}
use Rattle.web_lines.specs.Numbers.{IsNumberAt}
use Rattle.web_lines.specs.States.{count_in_state, name_of_state, states_of}

-- an octet of a label's value: a backslash and a quote have a backslash in front, and a line feed is written as a
-- backslash and an n
abbrev pub escaped_octet : ℕ → List ℕ
escaped_octet octet =
    if octet == 92 then 92 ∷ 92 ∷ [] else (if octet == 34 then 92 ∷ 34 ∷ [] else (if octet == 10 then 92 ∷ 110 ∷ [] else octet ∷ []))

-- a label's value
abbrev pub escaped : List ℕ → List ℕ
escaped value = flat_map escaped_octet value

-- a label
abbrev pub label_text : SaidLabel → List ℕ
label_text label = label.0 ++ codes "=\"" ++ escaped label.1 ++ codes "\""

-- labels in their braces, if there are some
unfoldable pub labels_text : List SaidLabel → List ℕ
labels_text [] = []
labels_text (first ∷ others) = codes "{" ++ label_text first ++ flat_map (λ label. codes "," ++ label_text label) others ++ codes "}"

-- the line of one number
unfoldable pub sample_text : List ℕ → List SaidLabel → ℕ → List ℕ
sample_text name labels number = name ++ labels_text labels ++ codes " " ++ decimal number ++ codes "\n"

-- the two lines above a family's numbers
unfoldable pub head_text : Head → List ℕ
head_text head =
    codes "# HELP " ++ head.name ++ codes " " ++ head.help ++ codes "\n# TYPE " ++ head.name ++ codes " " ++ head.form
    ++ codes "\n"

-- a family of one number without labels
abbrev pub bare_text : Head → ℕ → List ℕ
bare_text head number = head_text head ++ sample_text head.name [] number

-- whether the station answers: 1 where it does
abbrev pub up_text : ℕ → List ℕ
up_text is_up = bare_text up_head is_up

-- how many files wait in the outbox: the lines of that kind
abbrev pub outbox_text : List Line → List ℕ
outbox_text lines = bare_text outbox_head (count_of_kind kinds.Queued lines)

-- how many files are being read: the lines of that kind
abbrev pub reading_text : List Line → List ℕ
reading_text lines = bare_text reading_head (count_of_kind kinds.Reading lines)

-- how many received files are being stored, or couldn't be stored so far: the lines of that kind
abbrev pub storing_text : List Line → List ℕ
storing_text lines = bare_text storing_head (count_of_kind kinds.Storing lines)

-- how many of them say what hindered the last try
abbrev pub hindered_text : List Line → List ℕ
hindered_text lines = bare_text hindered_head (count_of_hindered lines)

-- how many transactions are in a state, by the states of all
abbrev pub state_text : List State → State → List ℕ
state_text states state = sample_text states_head.name ((codes "state", name_of_state state) ∷ []) (count_in_state state states)

-- how many transactions are in each state
abbrev pub states_text : List State → List ℕ
states_text states = head_text states_head ++ flat_map (state_text states) (Active ∷ Suspended ∷ Storing ∷ Closing ∷ Ended ∷ [])

-- how many files wait, how many are being read, how many are being stored, and how many couldn't be stored so far
abbrev pub files_text : List Line → List ℕ
files_text lines = outbox_text lines ++ reading_text lines ++ storing_text lines ++ hindered_text lines

-- how many transactions are in each state, and the numbers of files
abbrev pub counts_text : List Line → List ℕ
counts_text lines = states_text (states_of lines) ++ files_text lines

-- the line of a number with its labels, where there are both
abbrev pub told_text : Head → Option (List SaidLabel) → Option ℕ → List ℕ
told_text head (Some labels) (Some number) = sample_text head.name labels number
told_text head labels number = []

-- a line is of a row's kind
abbrev pub is_of_row : Row → Line → Bool
is_of_row row line = place_of line.kind == place_of row.kind

-- what a line says by a row, with its labels, follows a text
abbrev pub AddsTold : Row → Line → List ℕ → List ℕ → Type 0
AddsTold row line old new =
    (value : Json) × (document line.text.now ≡ Some value)
    × ((number : Option ℕ) × IsNumberAt row.spot value number × (new ≡ old ++ told_text row.head (labels_at row.kind row.spot value) number))

-- it follows where the line is of the row's kind; else nothing does
abbrev pub AddsLine : Row → Line → List ℕ → List ℕ → Type 0
AddsLine row line old new =
    ((is_of_row row line ≡ false) × (new ≡ old)) ⊎ ((is_of_row row line ≡ true) × AddsTold row line old new)

-- the numbers of lines follow a text, in order
abbrev pub AddsLines : Row → List Line → List ℕ → List ℕ → Type 0
AddsLines row [] old new = new ≡ old
AddsLines row (line ∷ lines) old new = (middle : List ℕ) × AddsLine row line old middle × AddsLines row lines middle new

-- families with the numbers of lines follow a text, in order
abbrev pub AddsRows : List Row → List Line → List ℕ → List ℕ → Type 0
AddsRows [] lines old new = new ≡ old
AddsRows (row ∷ rows) lines old new =
    (middle : List ℕ) × AddsLines row lines (old ++ head_text row.head) middle × AddsRows rows lines middle new

-- lines are those of a station that counts: one says how many files came whole
abbrev pub has_counts : List Line → Bool
has_counts lines = not (count_of_kind kinds.Delivered lines == 0)

-- the numbers of what such a station counts follow a text; of others nothing does
abbrev pub AddsCounts : List Line → List ℕ → List ℕ → Type 0
AddsCounts lines old new =
    ((has_counts lines ≡ false) × (new ≡ old)) ⊎ ((has_counts lines ≡ true) × AddsRows count_rows lines old new)

-- the numbers of a station that answers: that it does, the numbers in the lines of its status, those that count lines,
-- and those of what it counts
abbrev pub IsMetrics : List ℕ → List ℕ → Type 0
IsMetrics status text =
    (lines : List Line) × AreLinesOf status lines
    × ((told : List ℕ) × AddsRows told_rows lines (up_text 1) told × AddsCounts lines (told ++ counts_text lines) text)
