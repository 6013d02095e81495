-- Meaning. When a station started.
use Rattle.std.specs.Prelude.{◌≡◌, ℕ, List, Option, option_and_then, codes}
use Rattle.std.specs.List.{find}
use Rattle.json.specs.Json.{Json, document}
use Rattle.json.specs.Find.{get, as_str}
use Rattle.web_lines.specs.declared.kind.Kind.TheVariants.{Entity}
use Rattle.web_lines.specs.declared.lines.Line.{Line}
use Rattle.web_lines.specs.Document.{AreLinesOf, is_of_kind}

-- the text of a value's member `started`, if it has one
abbrev pub start_in : Json → Option (List ℕ)
start_in value = option_and_then as_str (get (codes "started") value)

-- the moment that a line says, if it is one JSON value with that member
abbrev pub start_of_line : List ℕ → Option (List ℕ)
start_of_line text = option_and_then start_in (document text)

-- the moment that the first line of the entity says
abbrev pub start_of_lines : List Line → Option (List ℕ)
start_of_lines lines = option_and_then (λ line. start_of_line line.text.now) (find (is_of_kind Entity) lines)

-- a status says that its station started at this moment, or doesn't say when
abbrev pub IsStartOf : List ℕ → Option (List ℕ) → Type 0
IsStartOf status moment = (lines : List Line) × AreLinesOf status lines × (moment ≡ start_of_lines lines)
