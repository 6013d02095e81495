-- Words come back from their line, and what they write comes back from each word.
use Rattle.std.proofs.Common.{◌≡◌, ℕ, suc, ◌<◌, ◌≤◌, ◌-◌, ◌^◌, ◌==◌, ◌&&◌, Bool, true, false, not, nat_le, List, [], ◌∷◌, ◌++◌, length, Option, Some, None, All, refl, sym, ap, ◌∙◌, subst, arith, rules, ◌/◌, ◌%◌, nat_lt, if◌then◌else◌, slice_index}
use Rattle.std.specs.Prelude.{decimal}
use Rattle.std.specs.Char.{is_ascii_digit}
use Rattle.std.specs.List.{list_all}
use Rattle.std.proofs.lemmas.Bool.{agree_below_at, and_parts, eqb-true, le-leb, ne_eqb}
use Rattle.std.proofs.lemmas.Fmt.{decimal_nonempty, digits_decimal, digits_value-decimal}
use Rattle.std.proofs.lemmas.List.Elements.{All-nil, All-cons}
use Rattle.std.proofs.lemmas.List.Splits.{slice_split_at, slice_split_none}
use Rattle.std.proofs.lemmas.Str.Parse.{IsNumeralModel, numerals_by_fold}
use Rattle.hex.specs.Hex.{IsBytes, decode_of, encode_lower, encode_with, lower_digits}
use Rattle.hex.proofs.HexLemmas.{decode_of-encode_lower, length-encode_with}
use Rattle.cfdp_types.specs.declared.key.TxnKey.{TxnKey}
use Rattle.line_words.specs.Words.{words_of, value_after, is_numeral, decimal_of}
use Rattle.line_words.specs.Operands.{name_of, number_of, key_from}
use Rattle.line_words.proofs.Texts.{name_is_text}
use Rattle.std.specs.Str.{IsUtf8}
use Rattle.cfdp_types.specs.declared.limits.TheConstants.{NAME_OCTETS}
use Rattle.script_lines.specs.Commands.{octets_of, stamp_of}
use Rattle.journal_scripts.specs.Rows.{is_word, is_word_octet, line_of}
use Rattle.journal_scripts.specs.Laws.{IsKey}

-- ---- words and their line

-- a word has no space
abbrev pub is_solid : List ℕ → Bool
is_solid word = list_all (λ octet. not (octet == 32)) word

abbrev pub are_solid : List (List ℕ) → Bool
are_solid words = list_all is_solid words

not_true : (b : Bool) → not b ≡ true → b ≡ false
not_true true is = absurd cc
not_true false is = refl

no_space : (word : List ℕ) → is_solid word ≡ true → All (λ octet. (octet == 32) ≡ false) word
no_space [] solid = All-nil (λ octet. (octet == 32) ≡ false)
no_space (octet ∷ octets) solid =
    let both = and_parts (not (octet == 32)) (is_solid octets) solid in
    All-cons (λ octet. (octet == 32) ≡ false) octet octets (not_true (octet == 32) both.0) (no_space octets both.1)

pub words_back : (word : List ℕ) (words : List (List ℕ)) → are_solid (word ∷ words) ≡ true → words_of (line_of (word ∷ words)) ≡ word ∷ words
words_back word [] solid =
    slice_split_none (λ octet. octet == 32) word (no_space word (and_parts (is_solid word) true solid).0)
words_back word (next ∷ words) solid =
    let both = and_parts (is_solid word) (are_solid (next ∷ words)) solid in
    slice_split_at (λ octet. octet == 32) word 32 (line_of (next ∷ words)) (no_space word both.0) refl
    ∙ ap (λ ws. word ∷ ws) (words_back next words both.1)

-- ---- names that are words

ascii : (name : List ℕ) → list_all is_word_octet name ≡ true → list_all (λ octet. nat_lt octet 128) name ≡ true
ascii [] all = refl
ascii (octet ∷ octets) all =
    let both = and_parts (is_word_octet octet) (list_all is_word_octet octets) all in
    rw ((and_parts (nat_lt octet 128) (not (octet == 32) && not (octet == 10)) both.0).0) (ascii octets both.1)

octets_of_word : (name : List ℕ) → is_word name ≡ true → list_all is_word_octet name ≡ true
octets_of_word name is = (and_parts (nat_lt 0 (length name) && nat_le (length name) NAME_OCTETS) (list_all is_word_octet name) is).1

pub word_name_back : (name : List ℕ) → is_word name ≡ true → name_of name ≡ Some name
word_name_back name is = rw (ascii name (octets_of_word name is)) refl

pub word_is_text : (name : List ℕ) → is_word name ≡ true → IsUtf8 name
word_is_text name is = name_is_text name name (sym (word_name_back name is))

pub word_solid : (name : List ℕ) → is_word name ≡ true → is_solid name ≡ true
word_solid name is = by name (octets_of_word name is)
  where
    by : (name : List ℕ) → list_all is_word_octet name ≡ true → is_solid name ≡ true
    by [] all = refl
    by (octet ∷ octets) all =
        let both = and_parts (is_word_octet octet) (list_all is_word_octet octets) all in
        let spaces = (and_parts (nat_lt octet 128) (not (octet == 32) && not (octet == 10)) both.0).1 in
        rw ((and_parts (not (octet == 32)) (not (octet == 10)) spaces).0) (by octets both.1)

-- ---- numbers

own : IsNumeralModel (λ digits. list_all is_ascii_digit digits ≡ true) (value_after 0)
own = numerals_by_fold _ (search rules) value_after (search rules)

numeral : (word : List ℕ) → 0 < length word → list_all is_ascii_digit word ≡ true → is_numeral word ≡ true
numeral [] some all = absurd (omega arith)
numeral (digit ∷ digits) some all = all

pub decimal_back : (limit n : ℕ) → n ≤ limit → n < 2 ^ 64 → decimal_of limit (decimal n) ≡ Some n
decimal_back limit n within fits =
    let digits = numeral (decimal n) (decimal_nonempty n fits) (digits_decimal own n fits) in
    let value : value_after 0 (decimal n) ≡ n = digits_value-decimal own n fits in
    rw (digits, value, le-leb n limit within) refl

pub number_back : (n : ℕ) → n < 2 ^ 64 → number_of (decimal n) ≡ Some n
number_back n fits = decimal_back (2 ^ 64 - 1) n (omega arith) fits

pub stamp_back : (n : ℕ) → n < 2 ^ 32 → stamp_of (decimal n) ≡ Some n
stamp_back n fits = decimal_back (2 ^ 32 - 1) n (omega arith) (omega arith)

pub key_back : (key : TxnKey) → IsKey key → key_from (decimal key.source.0) (decimal key.seq) ≡ Some key
key_back key is = rw (number_back key.source.0 is.0, number_back key.seq is.1) refl

digit_solid : (octet : ℕ) → is_ascii_digit octet ≡ true → not (octet == 32) ≡ true
digit_solid octet digit = by (octet == 32) refl
  where
    by : (same : Bool) → (octet == 32) ≡ same → not same ≡ true
    by false is = refl
    by true is = let none = subst (λ o. is_ascii_digit o ≡ true) (eqb-true octet 32 is) digit in absurd cc

pub digits_solid : (word : List ℕ) → list_all is_ascii_digit word ≡ true → is_solid word ≡ true
digits_solid [] all = refl
digits_solid (digit ∷ digits) all =
    let both = and_parts (is_ascii_digit digit) (list_all is_ascii_digit digits) all in
    rw (digit_solid digit both.0) (digits_solid digits both.1)

pub decimal_solid : (n : ℕ) → n < 2 ^ 64 → is_solid (decimal n) ≡ true
decimal_solid n fits = digits_solid (decimal n) (digits_decimal own n fits)

-- ---- octets

hex_digit_solid : (n : ℕ) → n < 16 → not (slice_index lower_digits n == 32) ≡ true
hex_digit_solid n fits = agree_below_at (λ d. not (slice_index lower_digits d == 32)) (λ d. true) 16 n refl fits

pub hex_solid : (octets : List ℕ) → IsBytes octets → is_solid (encode_lower octets) ≡ true
unfolding encode_with
hex_solid [] bytes = refl
hex_solid (octet ∷ octets) bytes =
    let fits : octet < 256 = bytes 0 in
    rw (hex_digit_solid (octet / 16) (omega arith), hex_digit_solid (octet % 16) (omega arith)) (hex_solid octets (λ i. bytes (suc i)))

pub octets_back : (octets : List ℕ) → IsBytes octets → (octets ≡ [] → ⊥) → octets_of (encode_lower octets) ≡ Some octets
octets_back octets bytes some =
    let word = encode_lower octets in
    let len = length-encode_with lower_digits octets in
    let long : (length word == 0) ≡ false = ne_eqb (length word) 0 (λ none. some (empty octets (omega (arith, len, none)))) in
    rw (long, decode_of-encode_lower octets bytes) refl
  where
    empty : (octets : List ℕ) → length octets ≡ 0 → octets ≡ []
    empty [] none = refl
    empty (octet ∷ octets) none = absurd (omega (arith, none))
