-- A text of plain characters stays as it is.
use Rattle.std.proofs.Common.{◌≡◌, ◌<◌, ◌++◌, ◌∷◌, [], ℕ, zero, suc, List, true, false, flat_map, get_or, refl, ap, ◌∙◌, arith}
use Rattle.std.specs.List.{list_all}
use Rattle.std.specs.Str.{IsAscii, chars}
use Rattle.std.proofs.lemmas.Bool.{and_parts, ltb-true}
use Rattle.std.proofs.lemmas.Bool.Decides.{nat_tests}
use Rattle.std.proofs.lemmas.Str.{chars-IsAscii, encode_ascii}
use Rattle.station_lines.specs.Letters.{is_plain, is_unsafe, safe_char, safe_text}

is_safe : (code : ℕ) → is_plain code ≡ true → is_unsafe code ≡ false
is_safe code plain = grind (arith, nat_tests)

plain_char : (code : ℕ) → is_plain code ≡ true → safe_char code ≡ code ∷ []
plain_char code plain = rw (is_safe code plain) (encode_ascii code (omega (arith, ltb-true code 127 plain)))

plain_letters : (text : List ℕ) → list_all is_plain text ≡ true → flat_map safe_char text ≡ text
plain_letters [] all = refl
plain_letters (code ∷ rest) all =
    let (plain, others) = and_parts (is_plain code) (list_all is_plain rest) all in
    rw (plain_char code plain, plain_letters rest others) refl

plain_ascii : (text : List ℕ) → list_all is_plain text ≡ true → IsAscii text
plain_ascii [] all place = omega arith
plain_ascii (code ∷ rest) all zero = omega (arith, ltb-true code 127 (and_parts (is_plain code) (list_all is_plain rest) all).0)
plain_ascii (code ∷ rest) all (suc place) = plain_ascii rest (and_parts (is_plain code) (list_all is_plain rest) all).1 place

pub safe_text_plain : (text : List ℕ) → list_all is_plain text ≡ true → safe_text text ≡ text
unfolding safe_text
safe_text_plain text plain = ap (flat_map safe_char) (chars-IsAscii text (plain_ascii text plain)) ∙ plain_letters text plain
