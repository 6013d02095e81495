-- Meaning. Received files that couldn't be stored so far.
use Rattle.std.specs.Prelude.{ℕ, Bool, false, List, ◌&&◌, Option, Some, None, is_some, codes}
use Rattle.std.specs.List.{count_by}
use Rattle.json.specs.Json.{Json, document}
use Rattle.json.specs.Find.{get}
use Rattle.web_lines.specs.declared.kind.Kind.TheVariants.{Storing}
use Rattle.web_lines.specs.declared.lines.Line.{Line}
use Rattle.web_lines.specs.Document.{is_of_kind}

-- what a line says has a member `why`
abbrev pub says_why : Option Json → Bool
says_why None = false
says_why (Some value) = is_some (get (codes "why") value)

-- a line is about a received file, and says what hindered the last try to store it
abbrev pub is_hindered : Line → Bool
is_hindered line = is_of_kind Storing line && says_why (document line.text.now)

-- how many such lines there are
abbrev pub count_of_hindered : List Line → ℕ
count_of_hindered lines = count_by is_hindered lines
