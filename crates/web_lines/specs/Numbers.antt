-- Meaning. The numbers that stand in a line.
use Rattle.std.specs.Prelude.{◌≡◌, ℕ, Bool, true, false, List, Option, Some, None, option_map, option_and_then, codes}
use Rattle.std.specs.Option.{MatchOption, ok_or}
use Rattle.std.specs.Str.Parse.{ParsesUnsigned}
use Rattle.json.specs.Json.{Json, document}
use Rattle.json.specs.Find.{get, as_bool, as_number}
use Rattle.web_lines.specs.declared.place.Place.{Place}
use Rattle.web_lines.specs.declared.place.Place.TheVariants.{Member, Counted, Truth, Known}

-- where a number is: a member, a member of `counters`, one that is true or false, or one that is there
pub data Spot : Type 0 where
  at_member : List ℕ → Spot
  at_counter : List ℕ → Spot
  at_truth : List ℕ → Spot
  at_known : List ℕ → Spot

-- the place of the code
abbrev pub spot_of : Place → Spot
spot_of (Member name) = at_member name.now
spot_of (Counted name) = at_counter name.now
spot_of (Truth name) = at_truth name.now
spot_of (Known name) = at_known name.now

-- the whole number of 64 bits that a value is, if it is one
abbrev pub IsWholeNumber : Option Json → Option ℕ → Type 0
IsWholeNumber None number = number ≡ None
IsWholeNumber (Some value) number =
    MatchOption (as_number value) (number ≡ None) (λ text. ParsesUnsigned 64 10 text (ok_or number text))

-- the whole number of a member of a text that is one JSON value, if there is one
abbrev pub IsNumberIn : List ℕ → List ℕ → Option ℕ → Type 0
IsNumberIn name text number = MatchOption (document text) (number ≡ None) (λ value. IsWholeNumber (get name value) number)

-- 1 where it is true
abbrev pub bit : Bool → ℕ
bit true = 1
bit false = 0

-- the number at a place of a line, if there is one
abbrev pub IsNumberAt : Spot → Json → Option ℕ → Type 0
IsNumberAt (at_member name) line number = IsWholeNumber (get name line) number
IsNumberAt (at_counter name) line number = IsWholeNumber (option_and_then (get name) (get (codes "counters") line)) number
IsNumberAt (at_truth name) line number = number ≡ option_map bit (option_and_then as_bool (get name line))
IsNumberAt (at_known name) line number = number ≡ option_map (λ value. 1) (get name line)
