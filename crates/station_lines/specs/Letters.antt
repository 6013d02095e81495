-- Meaning. Which characters a line doesn't have as they are, and what replaces them.
use Rattle.std.specs.Prelude.{ℕ, Bool, List, [], ◌∷◌, ◌++◌, ◌/◌, ◌%◌, ◌&&◌, ◌||◌, ◌==◌, nat_le, nat_lt, if◌then◌else◌, flat_map}
use Rattle.std.specs.Char.{digit_char, encode_utf8}
use Rattle.std.specs.Str.{chars}

-- a number is within a range
abbrev pub is_between : ℕ → ℕ → ℕ → Bool
is_between least most number = nat_le least number && nat_le number most

-- a character that a terminal obeys and JSON leaves as it is, or that turns the direction of the text around it
abbrev pub is_unsafe : ℕ → Bool
is_unsafe code = is_between 0x7f 0x9f code || code == 0x61c || is_between 0x200e 0x200f code || is_between 0x202a 0x202e code || is_between 0x2066 0x2069 code

-- JSON's escape of a character below 65,536: its code in four hex digits
abbrev pub escape : ℕ → List ℕ
escape code = 92 ∷ 117 ∷ digit_char (code / 4096) ∷ digit_char (code / 256 % 16) ∷ digit_char (code / 16 % 16) ∷ digit_char (code % 16) ∷ []

-- a character as a line has it
abbrev pub safe_char : ℕ → List ℕ
safe_char code = if is_unsafe code then escape code else encode_utf8 code

-- a text as a line has it
unfoldable pub safe_text : List ℕ → List ℕ
safe_text text = flat_map safe_char (chars text)

-- an octet of ASCII whose character stays as it is
abbrev pub is_plain : ℕ → Bool
is_plain octet = nat_lt octet 127
