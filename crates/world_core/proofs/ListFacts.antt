-- One place of a list changed.
use Rattle.std.proofs.Common.{◌≡◌, ℕ, zero, suc, ◌<◌, arith, List, [], ◌∷◌, length, Some, slice_get, slice_set, ap, refl}

pub some_is : {A : Type 0} (a b : A) → Some a ≡ Some b → a ≡ b
some_is a b e = cc

-- what is there, put there again
pub set_same : {A : Type 0} (xs : List A) (i : ℕ) (x : A) → slice_get xs i ≡ Some x → slice_set xs i x ≡ xs
set_same [] i x is = refl
set_same (y ∷ ys) zero x is = ap (λ z. z ∷ ys) (sym_is y x is)
  where
    sym_is : {A : Type 0} (a b : A) → Some a ≡ Some b → b ≡ a
    sym_is a b e = cc
set_same (y ∷ ys) (suc i) x is = ap (λ zs. y ∷ zs) (set_same ys i x is)

pub set_length : {A : Type 0} (xs : List A) (i : ℕ) (x : A) → length (slice_set xs i x) ≡ length xs
set_length [] i x = refl
set_length (y ∷ ys) zero x = refl
set_length (y ∷ ys) (suc i) x = ap suc (set_length ys i x)

pub set_here : {A : Type 0} (xs : List A) (i : ℕ) (x : A) → i < length xs → slice_get (slice_set xs i x) i ≡ Some x
set_here [] i x less = absurd (omega (arith, less))
set_here (y ∷ ys) zero x less = refl
set_here (y ∷ ys) (suc i) x less = set_here ys i x (omega (arith, less))

pub set_beside : {A : Type 0} (xs : List A) (i j : ℕ) (x : A) → (i ≡ j → ⊥) → slice_get (slice_set xs i x) j ≡ slice_get xs j
set_beside [] i j x apart = refl
set_beside (y ∷ ys) zero zero x apart = absurd (apart refl)
set_beside (y ∷ ys) zero (suc j) x apart = refl
set_beside (y ∷ ys) (suc i) zero x apart = refl
set_beside (y ∷ ys) (suc i) (suc j) x apart = set_beside ys i j x (λ e. apart (ap suc e))

pub get_within : {A : Type 0} (xs : List A) (i : ℕ) (x : A) → slice_get xs i ≡ Some x → i < length xs
get_within [] i x is = absurd cc
get_within (y ∷ ys) zero x is = omega (arith)
get_within (y ∷ ys) (suc i) x is = let less = get_within ys i x is in omega (arith, less)

pub within_get : {A : Type 0} (xs : List A) (i : ℕ) → i < length xs → (x : A) × (slice_get xs i ≡ Some x)
within_get [] i less = absurd (omega (arith, less))
within_get (y ∷ ys) zero less = (y, refl)
within_get (y ∷ ys) (suc i) less = within_get ys i (omega (arith, less))
