-- Meaning. What is wrong with the operands of a line that isn't a command, in words.
use Rattle.std.specs.Prelude.{ℕ, ◌||◌, ◌&&◌, Bool, true, false, nat_le, if◌then◌else◌, List, [], ◌∷◌, ◌++◌, map, take, is_some, codes}
use Rattle.std.specs.Str.{bytes_eq}
use Rattle.config_reading.specs.Values.{ConfigValue}
use Rattle.event_levels.specs.Levels.{level_named}
use Rattle.line_words.specs.Operands.{class_of, number_of}
use Rattle.line_words.specs.Places.{lane_of, user_of}
use Rattle.server_lines.specs.Commands.{file_name_of, positive_of, rate_in}
use Rattle.server_lines.specs.declared.faults.Wanted.{Wanted}
use Rattle.server_lines.specs.declared.faults.Wanted.TheVariants as wanted

-- ---- words

-- an octet as it is shown: itself, or a question mark if it isn't printable
abbrev pub shown_octet : ℕ → ℕ
shown_octet octet = if nat_le 32 octet && nat_le octet 126 then octet else 63

-- at most forty octets of a word, in quotes
abbrev pub shown_word : List ℕ → List ℕ
shown_word word = codes "\"" ++ (map shown_octet (take 40 word) ++ codes "\"")

-- what an operand has to be, in words
abbrev pub wanted_text : Wanted → List ℕ
wanted_text wanted.User = codes "a user of the configuration"
wanted_text wanted.Lane = codes "one of the user's sending lanes"
wanted_text wanted.Class = codes "a class, 1 or 2"
wanted_text wanted.Entity = codes "the number of an entity"
wanted_text wanted.Link = codes "the number of an entity, or all"
wanted_text wanted.Name = codes "a name of 1 to 255 octets"
wanted_text wanted.Source = codes "the number of a transaction's source"
wanted_text wanted.Sequence = codes "a transaction's sequence number"
wanted_text wanted.Queued = codes "the number of a file in the outbox"
wanted_text wanted.Seconds = codes "a number of seconds, 1 to 86400"
wanted_text wanted.Rate = codes "a number of octets a second, 1 to 1000000000, or off"
wanted_text wanted.Count = codes "a number of events"
wanted_text wanted.Level = codes "a level: detail, info or warning"
wanted_text wanted.CountOrLevel = codes "a number of events, or a level: detail, info or warning"
wanted_text wanted.Closure = codes "the word closure"
wanted_text wanted.Options = codes "after the names come closure, urgent and as NAME, each or none, in this order"

-- a number, or the word `all`
abbrev pub is_link : List ℕ → Bool
is_link word = bytes_eq word (codes "all") || is_some (number_of word)

-- whether a word is what is wanted; the words of a send's options are right only in a command
abbrev pub fits : ConfigValue → Wanted → List ℕ → Bool
fits config wanted.User word = is_some (user_of config word)
fits config wanted.Lane word = is_some (lane_of config word)
fits config wanted.Class word = is_some (class_of word)
fits config wanted.Link word = is_link word
fits config wanted.Name word = is_some (file_name_of word)
fits config wanted.Seconds word = is_some (positive_of 86400 word)
fits config wanted.Rate word = is_some (rate_in word)
fits config wanted.Level word = is_some (level_named word)
fits config wanted.CountOrLevel word = is_some (level_named word) || is_some (number_of word)
fits config wanted.Closure word = bytes_eq word (codes "closure")
fits config wanted.Options word = false
fits config _ word = is_some (number_of word)

-- ---- lines

-- a word after all that are wanted
abbrev pub spare_fault : List (List ℕ) → List ℕ
spare_fault [] = []
spare_fault (word ∷ words) = shown_word word ++ codes " is one word too many"

abbrev pub is_options : Wanted → Bool
is_options wanted.Options = true
is_options _ = false

-- a word that isn't what is wanted; of a send's options any may be wrong
abbrev pub unfit_text : Wanted → List ℕ → List ℕ
unfit_text its word = if is_options its then wanted_text its else shown_word word ++ (codes " is not " ++ wanted_text its)

-- the first operand that isn't what is wanted, or else what is missing, or what is too many
abbrev pub operands_fault : ConfigValue → List Wanted → List (List ℕ) → List ℕ
operands_fault config [] words = spare_fault words
operands_fault config (its ∷ more) [] = wanted_text its ++ codes " is missing"
operands_fault config (its ∷ more) (word ∷ words) =
    if fits config its word then operands_fault config more words
    else unfit_text its word
