-- Meaning. Numbers on a command line.
use Rattle.std.specs.Prelude.{ℕ, ◌==◌, nat_lt, if◌then◌else◌, List, Option, Some, None}
use Rattle.std.specs.Option.{option_map}
use Rattle.cfdp_types.specs.declared.limits.TheConstants.{CONFIGURED_NUMBER}
use Rattle.cfdp_types.specs.declared.names.Class.{Class}
use Rattle.cfdp_types.specs.declared.names.Class.TheVariants as class
use Rattle.line_words.specs.Words.{decimal_of}
use Rattle.line_words.specs.Operands.{◌>>=◌}

-- the number that a word writes in decimal digits, if it is within a range
abbrev pub number_within : ℕ → ℕ → List ℕ → Option ℕ
number_within least most word = do
  number ← decimal_of most word
  if nat_lt number least then None else Some number

-- `Some` of an option's number, or `Some None` without the option; `None` where its word is not such a number
abbrev pub perhaps : (List ℕ → Option ℕ) → Option (List ℕ) → Option (Option ℕ)
perhaps read None = Some None
perhaps read (Some word) = option_map Some (read word)

-- how many workers a word asks for; 4 without a word
abbrev pub workers_of : Option (List ℕ) → Option ℕ
workers_of None = Some 4
workers_of (Some word) = number_within 1 16 word

-- a limit in octets a second
abbrev pub limit_of : Option (List ℕ) → Option (Option ℕ)
limit_of word = perhaps (number_within 1 1000000000) word

-- the number of the first transaction
abbrev pub first_number : Option (List ℕ) → Option (Option ℕ)
first_number word = perhaps (number_within 0 CONFIGURED_NUMBER) word

-- a class, from its number
abbrev pub class_of : List ℕ → Option Class
class_of word = do
  number ← number_within 1 2 word
  Some (if number == 1 then class.One else class.Two)
