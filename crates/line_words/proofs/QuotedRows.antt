-- Worked rows: lines with quotes.
use Rattle.std.proofs.Common.{◌≡◌, ◌∷◌, [], map, replicate, Some, None, codes, refl}
use Rattle.line_words.specs.Quoted.{words_in, quoted_words_of}

-- words in quotes, beside words without; an escape writes any octet
quoted : map words_in (codes "\"a b\" c" ∷ codes "a \"\" \"\\\"\\\\\\x00\\xfF\"" ∷ codes "a\"b \"c\"" ∷ (34 ∷ 195 ∷ 169 ∷ 10 ∷ 34 ∷ []) ∷ [])
    ≡ Some (codes "a b" ∷ codes "c" ∷ [])
    ∷ Some (codes "a" ∷ [] ∷ (34 ∷ 92 ∷ 0 ∷ 255 ∷ []) ∷ [])
    ∷ Some (codes "a\"b" ∷ codes "c" ∷ [])
    ∷ Some ((195 ∷ 169 ∷ 10 ∷ []) ∷ [])
    ∷ []
quoted = refl

-- a quote that isn't closed, something behind one that is, escapes that are none, octets above ASCII outside quotes
bad : map words_in (codes "\"a" ∷ codes "a \"" ∷ codes "\"a\"b" ∷ codes "\"a\"\"b\"" ∷ codes "\"\\n\"" ∷ codes "\"\\x0g\"" ∷ codes "\"\\x0\""
    ∷ codes "\"\\\"" ∷ codes "\"\\X00\"" ∷ (34 ∷ 34 ∷ 32 ∷ 233 ∷ []) ∷ (233 ∷ []) ∷ [])
    ≡ replicate 11 None
bad = refl

-- lines without quotes have the words between their spaces
plain : map words_in ([] ∷ codes " " ∷ codes "a  b " ∷ codes "a\\x20b" ∷ [])
    ≡ Some ([] ∷ []) ∷ Some ([] ∷ [] ∷ []) ∷ Some (codes "a" ∷ [] ∷ codes "b" ∷ [] ∷ []) ∷ Some (codes "a\\x20b" ∷ []) ∷ []
plain = refl

-- read as lines with quotes are, they have the same words
alike : map quoted_words_of ([] ∷ codes " " ∷ codes "a  b " ∷ codes "a\\x20b" ∷ [])
    ≡ Some ([] ∷ []) ∷ Some ([] ∷ [] ∷ []) ∷ Some (codes "a" ∷ [] ∷ codes "b" ∷ [] ∷ []) ∷ Some (codes "a\\x20b" ∷ []) ∷ []
alike = refl
