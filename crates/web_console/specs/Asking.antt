-- Meaning. What a console asks its station.
use Rattle.std.specs.Prelude.{ℕ, List, codes}
use Rattle.web_console.specs.declared.asked.Asked.{Asked}
use Rattle.web_console.specs.declared.asked.Asked.TheVariants.{Status, Kept, Events, Passed}

-- the line that asks for it
abbrev pub line_of : Asked → List ℕ
line_of Status = codes "status"
line_of Kept = codes "follow 1024 info"
line_of Events = codes "follow 1024 detail"
line_of (Passed permit) = permit.line.now
