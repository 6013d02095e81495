-- Meaning. The members of a line, as the tokens of its JSON.
use Rattle.std.specs.Prelude.{ℕ, Bool, nat_le, if◌then◌else◌, List, [], ◌∷◌, ◌++◌, map, codes, decimal}
use Rattle.std.specs.Str.{is_utf8}
use Rattle.hex.specs.Hex.{encode_lower}
use Rattle.json.specs.Token.{Token, begin_object, end_object, begin_array, end_array, key, string, number, boolean}
use Rattle.json.specs.Print.{print}
use Rattle.station_lines.specs.Letters.{safe_text}
use Rattle.station_lines.specs.Moments.{moment_text}
use Rattle.station_lines.specs.declared.moment.Moment.{Moment}

-- a text
unfoldable pub text_member : List ℕ → List ℕ → List Token
text_member name value = key name ∷ string value ∷ []

-- true or false
unfoldable pub flag_member : List ℕ → Bool → List Token
flag_member name value = key name ∷ boolean value ∷ []

-- a number, and above 2^53 as text too
unfoldable pub number_member : List ℕ → ℕ → List Token
number_member name value =
    key name ∷ number (decimal value)
    ∷ (if nat_le value 9_007_199_254_740_992 then [] else text_member (name ++ codes "_text") (decimal value))

-- octets in hex
abbrev pub hex_string : List ℕ → Token
hex_string octets = string (encode_lower octets)

-- octets in hex, under a name
unfoldable pub hex_member : List ℕ → List ℕ → List Token
hex_member name octets = key name ∷ hex_string octets ∷ []

-- octets as text, or in hex where they are not UTF-8
unfoldable pub octets_member : List ℕ → List ℕ → List Token
octets_member name octets = if is_utf8 octets then text_member name octets else hex_member (name ++ codes "_hex") octets

-- a moment
unfoldable pub moment_member : List ℕ → Moment → List Token
moment_member name moment = text_member name (moment_text moment)

-- lists of octets, each in hex
abbrev pub hex_strings : List (List ℕ) → List Token
hex_strings values = map hex_string values

-- a number
abbrev pub number_token : ℕ → Token
number_token value = number (decimal value)

-- numbers
abbrev pub number_tokens : List ℕ → List Token
number_tokens values = map number_token values

-- lists of octets in an array
unfoldable pub hexes_member : List ℕ → List (List ℕ) → List Token
hexes_member name values = key name ∷ begin_array ∷ (hex_strings values ++ end_array ∷ [])

-- numbers in an array
unfoldable pub numbers_member : List ℕ → List ℕ → List Token
numbers_member name values = key name ∷ begin_array ∷ (number_tokens values ++ end_array ∷ [])

-- an object with these members
unfoldable pub object_member : List ℕ → List Token → List Token
object_member name members = key name ∷ begin_object ∷ (members ++ end_object ∷ [])

-- the line of an object with these members
abbrev pub line_of : List Token → List ℕ
line_of members = safe_text (print (begin_object ∷ (members ++ end_object ∷ []))) ++ codes "\n"
