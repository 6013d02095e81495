-- Reading a decimal number digit by digit.
use Rattle.std.proofs.Common.{◌≡◌, ℕ, ◌+◌, ◌-◌, ◌*◌, ◌<◌, ◌≤◌, ◌⊎◌, Bool, true, false, cond, ◌&&◌, List, [], ◌∷◌, length, Option, Some, None, refl, ap, arith, nat_le, inl, inr}
use Rattle.std.proofs.lemmas.Bool.{lt-leb, le-leb, leb-true, leb-false}
use Rattle.std.specs.Char.{is_ascii_digit}
use Rattle.std.specs.List.{list_all}
use Rattle.line_words.specs.Words.{value_after, decimal_of}
use Rattle.line_words.specs.Words.{value_with, IsDigitOf}

-- the number, after some of its digits
abbrev pub decimal_rest : ℕ → ℕ → List ℕ → Option ℕ
decimal_rest limit value digits =
    cond (list_all is_ascii_digit digits && nat_le (value_after value digits) limit) (Some (value_after value digits)) None

pub decimal_of-nonempty : (limit : ℕ) (word : List ℕ) → 0 < length word → decimal_of limit word ≡ decimal_rest limit 0 word
decimal_of-nonempty limit [] some = absurd (omega arith)
decimal_of-nonempty limit (digit ∷ digits) some = refl

pub le-value_after : (value : ℕ) (digits : List ℕ) → value ≤ value_after value digits
le-value_after value [] = omega arith
le-value_after value (digit ∷ digits) = omega (arith, le-value_after (value * 10 + (digit - 48)) digits)

-- with a test that fails nothing is left
none_if_digit : (a b : Bool) (within : Bool) (n : ℕ) → a ≡ false → cond ((a && b) && within) (Some n) None ≡ None
none_if_digit a b within n e = ap (λ x. cond ((x && b) && within) (Some n) None) e

none_if_over : (a within : Bool) (n : ℕ) → within ≡ false → cond (a && within) (Some n) None ≡ None
none_if_over true within n e = ap (λ x. cond x (Some n) None) e
none_if_over false within n e = refl

either : (b : Bool) → (b ≡ true) ⊎ (b ≡ false)
either true = inl refl
either false = inr refl

-- no digit, or too large a number, with whatever follows
pub decimal_rest-refused : (limit value digit : ℕ) (digits : List ℕ) → ¬ (IsDigitOf limit value digit) → decimal_rest limit value (digit ∷ digits) ≡ None
decimal_rest-refused limit value digit digits refused =
    let n = value_after (value_with value digit) digits in
    elim (either (is_ascii_digit digit)) [
      | inr other ↦ none_if_digit (is_ascii_digit digit) (list_all is_ascii_digit digits) (nat_le n limit) n other
      | inl is_digit ↦ elim (either (nat_le (value_with value digit) limit)) [
        | inl within ↦ absurd (refused (is_digit, leb-true (value_with value digit) limit within))
        | inr over ↦
            let above : limit < n = omega (arith, leb-false (value_with value digit) limit over, le-value_after (value_with value digit) digits) in
            none_if_over (list_all is_ascii_digit (digit ∷ digits)) (nat_le n limit) n (lt-leb n limit above)
      ]
    ]

-- one digit more
pub decimal_rest-cons : (limit value digit : ℕ) (digits : List ℕ) → IsDigitOf limit value digit → decimal_rest limit value (digit ∷ digits) ≡ decimal_rest limit (value_with value digit) digits
decimal_rest-cons limit value digit digits is_digit =
    ap (λ b. cond ((b && list_all is_ascii_digit digits) && nat_le (value_after (value_with value digit) digits) limit) (Some (value_after (value_with value digit) digits)) None) is_digit.0

-- no digit is left
pub decimal_rest-nil : (limit value : ℕ) → value ≤ limit → decimal_rest limit value [] ≡ Some value
decimal_rest-nil limit value within = ap (λ b. cond b (Some value) None) (le-leb value limit within)
