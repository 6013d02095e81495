-- What holds of each pass, where one changes or one more comes; and bundles by their lanes.
use Rattle.std.proofs.Common.{◌≡◌, ◌≢◌, ◌⊎◌, ℕ, ◌<◌, ◌≤◌, All, Bool, true, false, zero, suc, cond, eqb, eq-eqb, ne_eqb, List, [], ◌∷◌, ◌++◌, length, set, Option, None, get_or, refl, ap, sym, subst, ⊎_elim, inl, inr, arith}
use Rattle.std.proofs.lemmas.Bool.{cases_lt}
use Rattle.std.proofs.lemmas.List.Elements.{All-nil, All-cons}
use mathlib.Core.Option.{some, some-injective, some-ne-none}
use lib.ListN.{get_elem?}
use Rattle.crossbeam_queue.proofs.Lists.{at_set}
use Rattle.indications.specs.declared.bundle.Bundle.{Bundle}
use Rattle.indications.specs.LaneLists.{of_lane}

module _ {A : Type 0} where
  abbrev pub EachPass : (ℕ → A → Type 0) → List A → Type 0
  EachPass F views = (pass : ℕ) (view : A) → get_elem? views pass ≡ some view → F pass view

  pub each_set : (F : ℕ → A → Type 0) (views : List A) (pass : ℕ) (w : A) → F pass w
      → ((j : ℕ) (u : A) → j ≢ pass → get_elem? views j ≡ some u → F j u) → EachPass F (set views pass w)
  each_set F views pass w mine others j u e = ⊎_elim
      (λ (x : (j ≡ pass) × (w ≡ u)). subst (λ (y : ℕ × A). F y.0 y.1) (λ i. (sym x.0 i, x.1 i)) mine)
      (λ (x : (j ≢ pass) × (get_elem? views j ≡ some u)). others j u x.0 x.1) (at_set views pass j w u e)

  at_end : (l : List A) (a b : A) (j : ℕ) → get_elem? (l ++ a ∷ []) j ≡ some b
      → (get_elem? l j ≡ some b) ⊎ ((length l ≡ j) × (a ≡ b))
  at_end [] a b zero e = inr (refl, some-injective a b e)
  at_end [] a b (suc j) e = absurd (some-ne-none b (sym e))
  at_end (x ∷ xs) a b zero e = inl e
  at_end (x ∷ xs) a b (suc j) e = ⊎_elim inl (λ (t : (length xs ≡ j) × (a ≡ b)). inr (ap suc t.0, t.1)) (at_end xs a b j e)

  pub each_more : (F : ℕ → A → Type 0) (views : List A) (w : A) → F (length views) w → EachPass F views → EachPass F (views ++ w ∷ [])
  each_more F views w mine others j u e = ⊎_elim (others j u)
      (λ (x : (length views ≡ j) × (w ≡ u)). subst (λ (y : ℕ × A). F y.0 y.1) (λ i. (x.0 i, x.1 i)) mine) (at_end views w u j e)

  pub is_within : (l : List A) (j : ℕ) (a : A) → get_elem? l j ≡ some a → j < length l
  is_within [] j a e = absurd (some-ne-none a (sym e))
  is_within (x ∷ xs) zero a e = omega arith
  is_within (x ∷ xs) (suc j) a e = omega (arith, is_within xs j a e)

  -- a place that holds nothing, or that is not there
  pub get_or-more_none : (xs : List (Option A)) (i : ℕ) → get_or (xs ++ None ∷ []) i None ≡ get_or xs i None
  get_or-more_none [] zero = refl
  get_or-more_none [] (suc i) = refl
  get_or-more_none (x ∷ xs) zero = refl
  get_or-more_none (x ∷ xs) (suc i) = get_or-more_none xs i

  pub get_or-past_none : (xs : List (Option A)) → get_or xs (length xs) None ≡ None
  get_or-past_none [] = refl
  get_or-past_none (x ∷ xs) = get_or-past_none xs

  pub get_or-set_here : (xs : List A) (i : ℕ) (x d : A) → i < length xs → get_or (set xs i x) i d ≡ x
  get_or-set_here [] i x d less = absurd (omega arith)
  get_or-set_here (y ∷ ys) zero x d less = refl
  get_or-set_here (y ∷ ys) (suc i) x d less = get_or-set_here ys i x d (omega arith)

  pub get_or-set_else : (xs : List A) (i j : ℕ) (x d : A) → j ≢ i → get_or (set xs i x) j d ≡ get_or xs j d
  get_or-set_else [] i j x d apart = refl
  get_or-set_else (y ∷ ys) zero zero x d apart = absurd (apart refl)
  get_or-set_else (y ∷ ys) zero (suc j) x d apart = refl
  get_or-set_else (y ∷ ys) (suc i) zero x d apart = refl
  get_or-set_else (y ∷ ys) (suc i) (suc j) x d apart = get_or-set_else ys i j x d (λ e. apart (ap suc e))

-- bundles of no lane are none
pub no_bundles : (xs : List Bundle) → ((lane : ℕ) → of_lane lane xs ≡ []) → xs ≡ []
no_bundles [] none = refl
no_bundles (x ∷ xs) none =
    let some : cond (eqb x.lane x.lane) (x ∷ of_lane x.lane xs) (of_lane x.lane xs) ≡ [] = none x.lane in
    let here : x ∷ of_lane x.lane xs ≡ [] =
    subst (λ (b : Bool). cond b (x ∷ of_lane x.lane xs) (of_lane x.lane xs) ≡ []) (eq-eqb x.lane x.lane refl) some in
    absurd cc

pub none_behind : (xs ys : List Bundle) → xs ++ ys ≡ [] → ys ≡ []
none_behind [] ys none = none
none_behind (x ∷ xs) ys none = absurd cc

none_kept : {A : Type 0} (is : Bool) (x : A) (xs : List A) → cond is (x ∷ xs) xs ≡ [] → (is ≡ false) × (xs ≡ [])
none_kept true x xs none = absurd cc
none_kept false x xs none = (refl, none)

-- bundles before others, where lanes from one on have none of all: they are of lanes below it
pub lower_lanes : (lanes : ℕ) (xs ys : List Bundle) → ((lane : ℕ) → lanes ≤ lane → of_lane lane (xs ++ ys) ≡ [])
    → All (λ (bundle : Bundle). bundle.lane < lanes) xs
lower_lanes lanes [] ys none = All-nil (λ (bundle : Bundle). bundle.lane < lanes)
lower_lanes lanes (x ∷ xs) ys none = All-cons (λ (bundle : Bundle). bundle.lane < lanes) x xs
    (⊎_elim (λ (less : x.lane < lanes). less)
    (λ (past : lanes ≤ x.lane).
    let other = (none_kept (eqb x.lane x.lane) x (of_lane x.lane (xs ++ ys)) (none x.lane past)).0 in
    let same = eq-eqb x.lane x.lane refl in absurd cc)
    (cases_lt x.lane lanes))
    (lower_lanes lanes xs ys (λ lane le. (none_kept (eqb x.lane lane) x (of_lane lane (xs ++ ys)) (none lane le)).1))

-- a table of lanes in which one has another value
abbrev pub changed_at : {B : Type 0} → ℕ → B → (ℕ → B) → ℕ → B
changed_at lane value table other = cond (eqb other lane) value (table other)

pub changed_here : {B : Type 0} (lane : ℕ) (value : B) (table : ℕ → B) → changed_at lane value table lane ≡ value
changed_here lane value table = ap (λ (b : Bool). cond b value (table lane)) (eq-eqb lane lane refl)

pub changed_else : {B : Type 0} (lane : ℕ) (value : B) (table : ℕ → B) (other : ℕ) → other ≢ lane
    → changed_at lane value table other ≡ table other
changed_else lane value table other apart = ap (λ (b : Bool). cond b value (table other)) (ne_eqb other lane apart)
