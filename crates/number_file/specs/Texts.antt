-- Meaning. The number in the text of a file.
use Rattle.std.specs.Prelude.{ℕ, ◌-◌, Bool, ◌&&◌, not, nat_le, if◌then◌else◌, List, [], ◌∷◌, ◌++◌, ◌==◌, length, take, slice_index, Option, Some, None, codes, decimal}
use Rattle.std.specs.Char.{is_ascii_digit}
use Rattle.std.specs.List.{list_all}
use Rattle.std.specs.Str.Parse.{digits_value}
use Rattle.number_file.specs.Rounds.{last_number}

-- the text of a number: its decimal digits, and a line feed
abbrev pub number_text : ℕ → List ℕ
number_text number = decimal number ++ 10 ∷ []

-- a text without the line feed at its end, if it has one there
abbrev pub line_of : List ℕ → List ℕ
line_of text = if slice_index text (length text - 1) == 10 then take (length text - 1) text else text

-- one decimal digit or more, and nothing else
abbrev pub is_numeral : List ℕ → Bool
is_numeral digits = not (length digits == 0) && list_all is_ascii_digit digits

-- the number of decimal digits, if a file may have it
abbrev pub value_of : List ℕ → Option ℕ
value_of digits = if is_numeral digits && nat_le (digits_value 10 digits) last_number then Some (digits_value 10 digits) else None

-- the number in a text of decimal digits, with or without a line feed at its end
abbrev pub number_in : List ℕ → Option ℕ
number_in text = value_of (line_of text)

-- the number that was found: 0 where there is no file
abbrev pub number_found : Option (List ℕ) → Option ℕ
number_found None = Some 0
number_found (Some text) = number_in text

-- the path beside a path, where a file is written before it gets its name
abbrev pub beside : List ℕ → List ℕ
beside path = path ++ codes ".new"
