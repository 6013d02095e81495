-- The octets of a received file, one by one.
use Rattle.std.proofs.Common.{◌≡◌, ℕ, zero, suc, ◌+◌, ◌<◌, true, length, Option, Some, None, refl, ap, ◌∙◌, arith}
use Rattle.std.specs.Prelude.{is_some, slice_get, unwrap_or}
use Rattle.receiver_table.specs.Answers.{octets_from}

-- there are as many as are asked for
pub octets_from-length : (received : ℕ → Option ℕ) (k n : ℕ) → length (octets_from received k n) ≡ n
octets_from-length received k zero = refl
octets_from-length received k (suc n) = ap suc (octets_from-length received (k + 1) n)

same_again : (o : Option ℕ) → is_some o ≡ true → Some (unwrap_or o 0) ≡ o
same_again None there = absurd cc
same_again (Some x) there = refl

-- each is the one that was received there
pub octets_from-at : (received : ℕ → Option ℕ) (k n i j : ℕ) → j ≡ k + i → i < n → is_some (received j) ≡ true
    → slice_get (octets_from received k n) i ≡ received j
octets_from-at received k zero i j at below there = absurd (omega arith)
octets_from-at received k (suc n) zero j at below there =
    let same : k ≡ j = omega arith in
    ap (λ x. Some (unwrap_or (received x) 0)) same ∙ same_again (received j) there
octets_from-at received k (suc n) (suc i) j at below there = octets_from-at received (k + 1) n i j (omega arith) (omega arith) there
