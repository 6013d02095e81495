-- The differences of octets, one over the other.
use Rattle.std.proofs.Common.{◌≡◌, ℕ, ◌+◌, ◌<◌, List, length, take, slice_index_or, ap, sym, ◌∙◌, bit_or, arith}
use Rattle.std.specs.Int.Bits.{bit_xor, xor_assoc, xor_self, xor_zero_l, xor_zero_r}
use Rattle.std.proofs.lemmas.Grind.{common_steps}
use Rattle.std.proofs.lemmas.Nat.{le_or_l, le_or_r}

-- numbers without a difference are one
pub same_from_none : (a b : ℕ) → bit_xor a b ≡ 0 → a ≡ b
same_from_none a b none =
    sym (xor_zero_r a) ∙ ap (bit_xor a) (sym (xor_self b)) ∙ sym (xor_assoc a b b) ∙ ap (λ n. bit_xor n b) none ∙ xor_zero_l b

-- where there is no difference there was none before
pub none_before : (all more : ℕ) → bit_or all more ≡ 0 → all ≡ 0
none_before all more none = omega (arith, le_or_l all more, none)

-- nor is there one now
pub none_now : (all a b : ℕ) → bit_or all (bit_xor a b) ≡ 0 → a ≡ b
none_now all a b none = same_from_none a b (omega (arith, le_or_r all (bit_xor a b), none))

-- and the other way round
pub none_yet : (all a b : ℕ) → all ≡ 0 → a ≡ b → bit_or all (bit_xor a b) ≡ 0
none_yet all a b before same =
    ap (λ n. bit_or n (bit_xor a b)) before ∙ ap (λ n. bit_or 0 (bit_xor n b)) same ∙ ap (bit_or 0) (xor_self b)

-- one more octet that is the same
pub one_more : (xs ys : List ℕ) (place : ℕ) → length xs ≡ length ys → place < length xs → take place xs ≡ take place ys
    → slice_index_or xs place 0 ≡ slice_index_or ys place 0 → take (place + 1) xs ≡ take (place + 1) ys
one_more xs ys place long within before now = grind (arith, common_steps)
