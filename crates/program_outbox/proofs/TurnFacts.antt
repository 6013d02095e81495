-- The users' first turns, one by one.
use Rattle.std.proofs.Common.{◌≡◌, ℕ, zero, suc, ◌+◌, [], ◌∷◌, ◌++◌, ap, arith}
use Rattle.std.specs.List.{range_with_len}

-- one number more comes behind the others
pub one_more : (a n j : ℕ) → a + n ≡ j → range_with_len a (n + 1) ≡ range_with_len a n ++ j ∷ []
one_more a zero j at = let same : a ≡ j = omega (arith, at) in ap (λ k. k ∷ []) same
one_more a (suc n) j at =
    let next : a + 1 + n ≡ j = omega (arith, at)
    in let longer : suc n + 1 ≡ suc (n + 1) = omega arith
    in rw longer (ap (λ rest. a ∷ rest) (one_more (a + 1) n j next))
