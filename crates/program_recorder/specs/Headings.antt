-- Meaning. The first lines of a recording.
use Rattle.std.specs.Prelude.{ℕ, Bool, true, false, List, ◌++◌, Option, Some, None, codes, decimal}
use Rattle.answer_texts.specs.ToldTexts.{bundle_text}
use Rattle.indications.specs.declared.bundle.Bundle.{Bundle}
use Rattle.station_lines.specs.declared.moment.Moment.{Moment}
use Rattle.station_lines.specs.Moments.{moment_text}
use Rattle.program_recorder.specs.declared.heading.Facts.{Facts}

-- the program that records, and the entity
abbrev pub entity_line : Facts → List ℕ
entity_line facts = codes "# " ++ (facts.program.now ++ (codes ", entity " ++ (decimal facts.entity.0 ++ codes "\n")))

-- whether the user sends to the other entity or receives from it
abbrev pub way_word : Bool → List ℕ
way_word true = codes "sends to"
way_word false = codes "receives from"

-- the transaction
abbrev pub key_part : Facts → List ℕ
key_part facts = codes "# transaction " ++ (decimal facts.key.source.0 ++ (codes " " ++ decimal facts.key.seq))

-- its user, and the entity at the other end
abbrev pub user_part : Facts → List ℕ
user_part facts = codes ": user " ++ (facts.user.now ++ (codes " " ++ way_word facts.sends))

abbrev pub peer_part : Facts → List ℕ
peer_part facts = codes " entity " ++ (decimal facts.peer.0 ++ codes "\n")

-- the transaction, its user, and the entity at the other end
abbrev pub transaction_line : Facts → List ℕ
transaction_line facts = key_part facts ++ (user_part facts ++ peer_part facts)

-- a moment, where it was noted
abbrev pub moment_word : Option Moment → List ℕ
moment_word None = codes "not noted"
moment_word (Some moment) = moment_text moment

-- what came at a moment
abbrev pub moment_line : List ℕ → Option Moment → List ℕ
moment_line what moment = what ++ (moment_word moment ++ codes "\n")

-- when the first indication came
abbrev pub begun_line : Option Moment → List ℕ
begun_line begun = moment_line (codes "# first indication: ") begun

-- when the last indication came
abbrev pub last_line : Option Moment → List ℕ
last_line last = moment_line (codes "# last indication: ") last

-- the indication that ended the transaction, as it is printed, or that it has not ended
abbrev pub end_line : List ℕ → Option Bundle → List ℕ
end_line user None = codes "# it has not ended\n"
end_line user (Some bundle) = codes "# " ++ bundle_text user bundle

-- which transaction it is, and where it was recorded
abbrev pub what_lines : Facts → List ℕ
what_lines facts = entity_line facts ++ transaction_line facts

-- when it began, and when its last indication came
abbrev pub moment_lines : Facts → List ℕ
moment_lines facts = begun_line facts.begun ++ last_line facts.last

-- the first lines
abbrev pub heading_text : Facts → List ℕ
heading_text facts = what_lines facts ++ (moment_lines facts ++ end_line facts.user.now facts.end)
