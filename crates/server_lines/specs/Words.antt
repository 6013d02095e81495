-- Meaning. How a word is written in a command.
use Rattle.std.specs.Prelude.{◌==◌, ◌||◌, ◌&&◌, ◌/◌, ◌%◌, ◌+◌, ◌++◌, ◌∷◌, [], ℕ, Bool, false, not, List, if◌then◌else◌, nat_lt, length, flat_map}
use Rattle.std.specs.Char.{is_ascii_graphic}
use Rattle.std.specs.List.{list_all}

-- a quote or a backslash, which needs a backslash between quotes
abbrev pub is_marked : ℕ → Bool
is_marked octet = (octet == 34) || (octet == 92)

-- a printable ASCII character
abbrev pub is_printable : ℕ → Bool
is_printable octet = (octet == 32) || is_ascii_graphic octet

-- an octet that doesn't make quotes necessary: printable, and not a space, a quote or a backslash
abbrev pub is_plain_octet : ℕ → Bool
is_plain_octet octet = is_ascii_graphic octet && not (is_marked octet)

-- a word that needs no quotes
abbrev pub is_plain : List ℕ → Bool
is_plain word = if length word == 0 then false else list_all is_plain_octet word

-- the hex digit of a number below sixteen
abbrev pub hex_digit : ℕ → ℕ
hex_digit number = if nat_lt number 10 then 48 + number else 87 + number

-- an octet as it is written between quotes
abbrev pub quoted_octet : ℕ → List ℕ
quoted_octet octet = if is_marked octet then 92 ∷ octet ∷ []
    else if is_printable octet then octet ∷ []
    else 92 ∷ 120 ∷ hex_digit (octet / 16) ∷ hex_digit (octet % 16) ∷ []

-- a word: in quotes if it needs them
abbrev pub word_octets : List ℕ → List ℕ
word_octets word = if is_plain word then word else 34 ∷ [] ++ (flat_map quoted_octet word ++ 34 ∷ [])
