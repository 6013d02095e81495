-- The number of a text, and the text of a number.
use Rattle.std.proofs.Common.{subst, ◌≡◌, ◌≢◌, ⊎_elim, ℕ, ◌-◌, ◌<◌, ◌≤◌, ◌^◌, Bool, true, false, not, ◌&&◌, nat_le, if◌then◌else◌, List, [], ◌∷◌, length, take, get_or, Some, None, Result, Ok, Err, decimal, codes, refl, sym, ap, ◌∙◌, arith, length-append}
use Rattle.std.specs.Char.{is_ascii_digit}
use Rattle.std.specs.List.{list_all}
use Rattle.std.specs.Prelude.{MatchResult}
use Rattle.std.specs.Result.{result_ok}
use Rattle.std.specs.Str.{IsUtf8, all_ascii_digits}
use Rattle.std.specs.Str.Parse.{IsNumeral, digits_value, ParsesUnsigned}
use Rattle.std.proofs.lemmas.Bool.{lt-leb, le-leb, cases_lt, eq-eqb, ne_eqb}
use Rattle.std.proofs.lemmas.Fmt.{IsAscii-from_digits, decimal_is_IsNumeral}
use Rattle.std.proofs.lemmas.Str.{IsUtf8-from_ascii}
use Rattle.std.proofs.lemmas.Str.Parse.{IsNumeralModel, numerals_by_value, parse_digits, tells_all_ascii_digits}
use Rattle.std.proofs.Math.Seq.{get_or-append_seam}
use Rattle.std.proofs.lemmas.List.{take_at}
use Rattle.number_file.specs.Rounds.{last_number}
use Rattle.number_file.specs.Texts.{beside, is_numeral, line_of, number_in, number_text, value_of}

-- ---- digits

same_test : (digits : List ℕ) → list_all is_ascii_digit digits ≡ all_ascii_digits digits
same_test [] = refl
same_test (digit ∷ digits) = ap (λ b. is_ascii_digit digit && b) (same_test digits)

model : IsNumeralModel (λ digits. all_ascii_digits digits ≡ true) (digits_value 10)
model = numerals_by_value (λ digits. all_ascii_digits digits ≡ true) tells_all_ascii_digits

are_all : (digits : List ℕ) → list_all is_ascii_digit digits ≡ true → all_ascii_digits digits ≡ true
are_all digits all = sym (same_test digits) ∙ all

pub are_text : (digits : List ℕ) → list_all is_ascii_digit digits ≡ true → IsUtf8 digits
are_text digits all = IsUtf8-from_ascii digits (IsAscii-from_digits digits (model.to digits (are_all digits all)))

-- ---- what `parse` answers

no_other : (one other : Bool) → other ≡ false → (one && other) ≡ false
no_other true other is = is
no_other false other is = refl

pub too_great : (digits : List ℕ) → last_number < digits_value 10 digits → value_of digits ≡ None
too_great digits above = ap (λ b. if b then Some (digits_value 10 digits) else None)
    (no_other (is_numeral digits) (nat_le (digits_value 10 digits) last_number) (lt-leb (digits_value 10 digits) last_number above))

above : (digits : List ℕ) → 0 < length digits → ¬ ((0 < length digits) × (digits_value 10 digits < 2 ^ 64)) → last_number < digits_value 10 digits
above digits some why = ⊎_elim (λ below. absurd (why (some, below))) (λ far. omega (arith, far)) (cases_lt (digits_value 10 digits) (2 ^ 64))

pub not_parsed : {E : Type 0} (digits text : List ℕ) (result : Result ℕ E) → 0 < length digits → list_all is_ascii_digit digits ≡ true → text ≡ digits
    → ParsesUnsigned 64 10 text result → None ≡ result_ok result → None ≡ value_of digits
not_parsed digits text (Ok number) some all same parses none = absurd cc
not_parsed {E = E} digits text (Err e) some all same parses none =
    sym (too_great digits (above digits some (parse_digits model {E = E} 64 digits (Err e) (subst (λ (t : List ℕ). ParsesUnsigned {E = E} 64 10 t (Err e)) same parses) (are_all digits all))))

-- ---- what an answer of `from_utf8` says

pub at_ok : {T E : Type 0} (r : Result T E) (P : T → Type 0) (Q : E → Type 0) (v : T) → MatchResult r P Q → Some v ≡ result_ok r → P v
at_ok (Ok x) P Q v at is = let same : x ≡ v = cc in subst P same at
at_ok (Err e) P Q v at is = absurd cc

pub at_err : {T E : Type 0} (r : Result T E) (P : T → Type 0) (Q : E → Type 0) → MatchResult r P Q → None ≡ result_ok r → (e : E) × Q e
at_err (Ok x) P Q at is = absurd cc
at_err (Err e) P Q at is = (e, at)

-- ---- a number is read as it was written

pub value_some : (digits : List ℕ) (number : ℕ) → is_numeral digits ≡ true → digits_value 10 digits ≡ number → number ≤ last_number → value_of digits ≡ Some number
value_some digits number numeral is small =
    ap (λ b. if b && nat_le (digits_value 10 digits) last_number then Some (digits_value 10 digits) else None) numeral
    ∙ ap (λ (n : ℕ). if nat_le n last_number then Some n else None) is
    ∙ ap (λ b. if b then Some number else None) (le-leb number last_number small)

numeral_of : (digits : List ℕ) → IsNumeral 10 digits → is_numeral digits ≡ true
numeral_of digits is =
    ap (λ b. not b && list_all is_ascii_digit digits) (ne_eqb (length digits) 0 (λ none. let some = is.0 in omega (arith, none, some)))
    ∙ same_test digits ∙ model.from digits is.1

line_back : (number : ℕ) → line_of (number_text number) ≡ decimal number
line_back number =
    let many = length-append (decimal number) (10 ∷ []) in
    let last : get_or (number_text number) (length (number_text number) - 1) 0 ≡ 10 =
    ap (λ k. get_or (number_text number) k 0) (omega (arith, many)) ∙ get_or-append_seam (decimal number) 10 [] 0 in
    ap (λ b. if b then take (length (number_text number) - 1) (number_text number) else number_text number) (eq-eqb _ 10 last)
    ∙ take_at (decimal number) (10 ∷ []) (length (number_text number) - 1) (omega (arith, many))

pub reads_back : (number : ℕ) → number ≤ last_number → number_in (number_text number) ≡ Some number
reads_back number small =
    let is = decimal_is_IsNumeral number (omega (arith, small)) in
    ap value_of (line_back number) ∙ value_some (decimal number) number (numeral_of (decimal number) is.0) is.1 small

-- ---- the path beside a path

pub apart : (path other : List ℕ) → other ≡ beside path → path ≢ other
apart path other is same =
    let both : length path ≡ length (beside path) = ap length (same ∙ is) in
    omega (arith, both, length-append path (codes ".new"))
