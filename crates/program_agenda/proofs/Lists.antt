-- Lists whose items change one by one.
use Rattle.std.proofs.Common.{◌≡◌, ℕ, suc, zero, ◌<◌, List, [], ◌∷◌, map, length, get_or, set, take, drop, refl, ap, subst, arith}

-- the first so many items of xs are those of ys, changed by f; the others are the same
pub record AreChanged {A : Type 0} (f : A → A) (i : ℕ) (xs ys : List A) : Type 0 where
  pub done : take i xs ≡ map f (take i ys)
  pub left : drop i xs ≡ drop i ys

no_items : {A : Type 0} {x : A} {xs : List A} → x ∷ xs ≡ [] → ⊥
no_items e = cc

-- one more item
pub changed_step : {A : Type 0} (f : A → A) (i : ℕ) (xs ys : List A) (v d : A) → i < length xs → AreChanged f i xs ys → v ≡ f (get_or xs i d) → AreChanged f (suc i) (set xs i v) ys
changed_step f i [] ys v d within before new = absurd (omega arith)
changed_step {A} f zero (x ∷ xs) ys v d within before new =
    let P : List A → Type 0 = λ zs. AreChanged f 1 (v ∷ xs) zs in
    subst P before.left (record { done = ap (λ b. b ∷ []) new; left = refl })
changed_step f (suc i) (x ∷ xs) [] v d within before new = absurd (no_items before.done)
changed_step f (suc i) (x ∷ xs) (y ∷ ys) v d within before new =
    let head : x ≡ f y = cc (before.done) in
    let tail : take i xs ≡ map f (take i ys) = cc (before.done) in
    let rest = changed_step f i xs ys v d (omega arith) (record { done = tail; left = before.left }) new in
    record { done = (λ j. head j ∷ rest.done j); left = rest.left }
