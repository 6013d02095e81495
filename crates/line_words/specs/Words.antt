-- Meaning. The words of a line, and the numbers that they write.
use Rattle.std.specs.Prelude.{◌≡◌, ℕ, ◌+◌, ◌-◌, ◌*◌, ◌≤◌, ◌==◌, ◌&&◌, Bool, true, false, nat_le, if◌then◌else◌, List, [], ◌∷◌, Option, Some, None}
use Rattle.std.specs.Char.{is_ascii_digit}
use Rattle.std.specs.List.{slice_split, list_all}

-- the words of a line: the texts before, between and after its spaces
abbrev pub words_of : List ℕ → List (List ℕ)
words_of text = slice_split (λ octet. octet == 32) text

-- the number `value` with more decimal digits appended
abbrev pub value_after : ℕ → List ℕ → ℕ
value_after value [] = value
value_after value (digit ∷ digits) = value_after (value * 10 + (digit - 48)) digits

-- one decimal digit or more, and nothing else
abbrev pub is_numeral : List ℕ → Bool
is_numeral [] = false
is_numeral (digit ∷ digits) = is_ascii_digit digit && list_all is_ascii_digit digits

-- the number that a word writes, if it is at most the limit
abbrev pub decimal_of : ℕ → List ℕ → Option ℕ
decimal_of limit word =
    if is_numeral word && nat_le (value_after 0 word) limit then Some (value_after 0 word) else None

-- ---- one word at a time

-- the words in the rest of a line
abbrev pub words_left : Option (List ℕ) → List (List ℕ)
words_left None = []
words_left (Some text) = words_of text

-- the word, if it is the only one
abbrev pub only_word : List (List ℕ) → Option (List ℕ)
only_word (word ∷ []) = Some word
only_word words = None

-- the number with one more digit
abbrev pub value_with : ℕ → ℕ → ℕ
value_with value digit = value * 10 + (digit - 48)

-- the octet is a digit, and the number with it appended is at most the limit
abbrev pub IsDigitOf : ℕ → ℕ → ℕ → Type 0
IsDigitOf limit value digit = (is_ascii_digit digit ≡ true) × (value_with value digit ≤ limit)
