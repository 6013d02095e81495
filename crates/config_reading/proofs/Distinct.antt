-- Lists whose items differ, with one more at the end.
use Rattle.std.proofs.Common.{◌≡◌, ℕ, Bool, true, false, not, ◌&&◌, ◌||◌, nat_eq, List, [], ◌∷◌, ◌++◌, refl, arith}
use Rattle.std.specs.List.{list_all, list_any}
use Rattle.std.proofs.lemmas.Bool.{and_parts, not-true, or_parts}
use Rattle.std.proofs.lemmas.Bool.Decides.{nat_tests}
use Rattle.std.proofs.lemmas.List.Folds.{list_all-append, list_any-append}
use Rattle.config_reading.specs.Texts.{is_same_text}
use Rattle.config_reading.specs.Values.{are_distinct}

pub list_all-last : {A : Type 0} (test : A → Bool) (xs : List A) (x : A) → list_all test xs ≡ true → test x ≡ true → list_all test (xs ++ x ∷ []) ≡ true
list_all-last test xs x all last = rw (list_all-append test xs (x ∷ []), all, last)

pub are_distinct-last : {A : Type 0} (same : A → A → Bool) (xs : List A) (x : A) → are_distinct same xs ≡ true → list_any (λ y. same y x) xs ≡ false → are_distinct same (xs ++ x ∷ []) ≡ true
are_distinct-last same [] x distinct new = refl
are_distinct-last same (y ∷ ys) x distinct new =
    let (alone, rest) = and_parts (not (list_any (same y) ys)) (are_distinct same ys) distinct in
    let (other, later) = or_parts (same y x) (list_any (λ z. same z x) ys) new in
    let none = not-true (list_any (same y) ys) alone in
    rw (list_any-append (same y) ys (x ∷ []), none, other, are_distinct-last same ys x rest later)

nat_eq-swap : (x y : ℕ) → nat_eq x y ≡ nat_eq y x
nat_eq-swap x y = grind (arith, nat_tests)

pub is_same_text-swap : (xs ys : List ℕ) → is_same_text xs ys ≡ is_same_text ys xs
is_same_text-swap [] [] = refl
is_same_text-swap [] (y ∷ ys) = refl
is_same_text-swap (x ∷ xs) [] = refl
is_same_text-swap (x ∷ xs) (y ∷ ys) = (λ i. nat_eq-swap x y i && is_same_text-swap xs ys i)

pub list_any-swap : (name : List ℕ) (names : List (List ℕ)) → list_any (λ other. is_same_text other name) names ≡ list_any (is_same_text name) names
list_any-swap name [] = refl
list_any-swap name (other ∷ names) = (λ i. is_same_text-swap other name i || list_any-swap name names i)
