-- What is found in lists that are seen through a function.
use Rattle.std.proofs.Common.{◌≡◌, suc, ◌+◌, Bool, cond, not, nat_lt, List, [], ◌∷◌, map, length, position, Some, None, refl, ap}
use Rattle.std.specs.List.{position_or_len}

position_or_len-map : {A B : Type 0} (f : A → B) (test : B → Bool) (xs : List A) → position_or_len test (map f xs) ≡ position_or_len (λ x. test (f x)) xs
position_or_len-map f test [] = refl
position_or_len-map f test (x ∷ xs) = ap (λ n. cond (not (test (f x))) (1 + n) 0) (position_or_len-map f test xs)

pub length-seen : {A B : Type 0} (f : A → B) (xs : List A) → length (map f xs) ≡ length xs
length-seen f [] = refl
length-seen f (x ∷ xs) = ap suc (length-seen f xs)

pub position-map : {A B : Type 0} (f : A → B) (test : B → Bool) (xs : List A) → position test (map f xs) ≡ position (λ x. test (f x)) xs
position-map f test xs = (λ i. cond (nat_lt (position_or_len-map f test xs i) (length-seen f xs i)) (Some (position_or_len-map f test xs i)) None)
