-- Meaning. Which characters a terminal shows, and what replaces the others.
use Rattle.std.specs.Prelude.{ℕ, Bool, List, [], ◌∷◌, ◌++◌, ◌+◌, ◌/◌, ◌%◌, ◌&&◌, ◌||◌, ◌==◌, nat_le, nat_lt, not, if◌then◌else◌}
use Rattle.std.specs.Char.{is_control}

-- a number is within a range
abbrev pub is_between : ℕ → ℕ → ℕ → Bool
is_between least most number = nat_le least number && nat_le number most

-- a mark of Unicode's general punctuation: it has no width, or turns the direction of the text around it, or ends a
-- line
abbrev pub is_punctuation_mark : ℕ → Bool
is_punctuation_mark code = is_between 0x200b 0x200f code || is_between 0x2028 0x202e code || is_between 0x2060 0x206f code

-- a mark of a script: a soft hyphen, a joiner, a direction, a filler, a selector
abbrev pub is_script_mark : ℕ → Bool
is_script_mark code = code == 0xad || code == 0x34f || code == 0x61c || is_between 0x115f 0x1160 code
    || is_between 0x17b4 0x17b5 code || is_between 0x180b 0x180f code || code == 0x3164

-- a mark among the compatibility forms and above: selectors, a filler, annotations, tags
abbrev pub is_high_mark : ℕ → Bool
is_high_mark code = is_between 0xfe00 0xfe0f code || code == 0xfeff || code == 0xffa0 || is_between 0xfff0 0xfffb code
    || is_between 0x1bca0 0x1bca3 code || is_between 0x1d173 0x1d17a code || is_between 0xe0000 0xe0fff code

-- a mark that a terminal hides, or that turns the direction of the text around it: those that Unicode lets a display
-- ignore, and the separators of lines
abbrev pub is_mark : ℕ → Bool
is_mark code = is_punctuation_mark code || is_script_mark code || is_high_mark code

-- a character that a terminal obeys or hides: a control character or a mark
abbrev pub is_hidden : ℕ → Bool
is_hidden code = is_control code || is_mark code

-- a character that may be printed: one that a terminal shows, or a line feed
abbrev pub is_visible : ℕ → Bool
is_visible code = code == 10 || not (is_hidden code)

-- the hex digit of a number below sixteen
abbrev pub hex_digit : ℕ → ℕ
hex_digit number = if nat_lt number 10 then 48 + number else 87 + number

-- the two hex digits of a number below 256
abbrev pub hex_pair : ℕ → List ℕ
hex_pair number = hex_digit (number / 16) ∷ hex_digit (number % 16) ∷ []

-- the replacement of a hidden character: a backslash, and its code in hex
abbrev pub escape : ℕ → List ℕ
escape code = if nat_lt code 256 then 92 ∷ 120 ∷ hex_pair code
    else 92 ∷ 117 ∷ hex_pair (code / 65536) ++ hex_pair (code / 256 % 256) ++ hex_pair (code % 256)

-- a character as it is printed
abbrev pub shown : ℕ → List ℕ
shown code = if is_hidden code then escape code else code ∷ []
