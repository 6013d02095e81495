-- Places in a line, and what fits into a room.
use Rattle.std.proofs.Common.{◌≡◌, ℕ, ◌+◌, ◌-◌, ◌<◌, ◌≤◌, Bool, true, false, not, nat_le, nat_lt, List, [], ◌∷◌, Some, None, length, take, drop, get_or, refl, ap, ◌∙◌, arith, inl, inr, add-one, drop-cons, suc}
use Rattle.std.proofs.lemmas.Bool.{cases_Bool}
use Rattle.std.proofs.lemmas.Bool.Decides.{nat_tests}
use Rattle.std.proofs.lemmas.List.Sums.{prefix_len-le-length, sum_by-cons, sum_by-insert, sum_by-take-drop}
use Rattle.std.proofs.lemmas.List.{take_all}
use Rattle.std.proofs.lemmas.List.Edits.{length-insert}
use Rattle.std.specs.List.{filter, position, position_or_len}
use Rattle.program_parking.specs.declared.parked.Parked.{Parked}
use Rattle.program_parking.specs.Lanes.{cost, costs, fitting, inserted, is_above, is_of_other, within}

-- ---- the first place that passes

some_is : {A : Type 0} {a b : A} → Some a ≡ Some b → a ≡ b
some_is e = cc

pub first_place : {A : Type 0} (p : A → Bool) (xs : List A) (i : ℕ) → position p xs ≡ Some i → position_or_len p xs ≡ i
first_place {A} p xs i found = elim (cases_Bool (nat_lt (position_or_len p xs) (length xs))) [
  | inl inside ↦ some_is (rw inside at found)
  | inr outside ↦ let bad : None ≡ Some i = rw outside at found in cc
]

pub no_place : {A : Type 0} (p : A → Bool) (xs : List A) → position p xs ≡ None → position_or_len p xs ≡ length xs
no_place {A} p xs found = elim (cases_Bool (nat_lt (position_or_len p xs) (length xs))) [
  | inl inside ↦ let bad : Some (position_or_len p xs) ≡ None = rw inside at found in cc
  | inr outside ↦
      let most : position_or_len p xs ≤ length xs = prefix_len-le-length (λ x. not (p x)) xs in
      grind (arith, nat_tests)
]

-- ---- what fits

pub costs-cons : (one : Parked) (xs : List Parked) → costs (one ∷ xs) ≡ cost one + costs xs
costs-cons one xs = sum_by-cons cost one xs

pub costs-drop : (count : ℕ) (xs : List Parked) (d : Parked) → count < length xs
    → costs (drop count xs) ≡ cost (get_or xs count d) + costs (drop (count + 1) xs)
costs-drop count xs d inside = rw (add-one, drop-cons xs count d inside) (costs-cons (get_or xs count d) (drop (suc count) xs))

-- what fits where the first one fits, and where it doesn't
pub fitting-fits : (limit : ℕ) (one : Parked) (xs : List Parked) → cost one ≤ limit → fitting limit (one ∷ xs) ≡ one ∷ fitting (limit - cost one) xs
fitting-fits limit one xs fits = let yes : nat_le (cost one) limit ≡ true = grind (arith, nat_tests) in rw yes refl

pub fitting-not : (limit : ℕ) (one : Parked) (xs : List Parked) → limit < cost one → fitting limit (one ∷ xs) ≡ []
fitting-not limit one xs large = let no : nat_le (cost one) limit ≡ false = grind (arith, nat_tests) in rw no refl

-- all of them fit where their octets do
pub fitting_all : (limit : ℕ) (xs : List Parked) → costs xs ≤ limit → fitting limit xs ≡ xs
fitting_all limit [] enough = refl
fitting_all limit (one ∷ xs) enough =
    let parts : costs (one ∷ xs) ≡ cost one + costs xs = costs-cons one xs in
    let rest : fitting (limit - cost one) xs ≡ xs = fitting_all (limit - cost one) xs (omega arith) in
    fitting-fits limit one xs (omega arith) ∙ ap (λ later. one ∷ later) rest

-- they are the first ones of the line
pub fitting_is_front : (limit : ℕ) (xs : List Parked) → take (length (fitting limit xs)) xs ≡ fitting limit xs
fitting_is_front limit [] = refl
fitting_is_front limit (one ∷ xs) = by (nat_le (cost one) limit) refl (fitting_is_front (limit - cost one) xs)
  where
    by : (b : Bool) → nat_le (cost one) limit ≡ b → take (length (fitting (limit - cost one) xs)) xs ≡ fitting (limit - cost one) xs
        → take (length (fitting limit (one ∷ xs))) (one ∷ xs) ≡ fitting limit (one ∷ xs)
    by true fits rest = rw fits (ap (λ later. one ∷ later) rest)
    by false large rest = rw large refl

pub fitting_room : (limit : ℕ) (xs : List Parked) → costs (fitting limit xs) ≤ limit
fitting_room limit [] = omega arith
fitting_room limit (one ∷ xs) = by (nat_le (cost one) limit) refl (fitting_room (limit - cost one) xs)
  where
    by : (b : Bool) → nat_le (cost one) limit ≡ b → costs (fitting (limit - cost one) xs) ≤ limit - cost one → costs (fitting limit (one ∷ xs)) ≤ limit
    by true fits rest =
        let room : cost one ≤ limit = grind (arith, nat_tests) in
        let parts : costs (one ∷ fitting (limit - cost one) xs) ≡ cost one + costs (fitting (limit - cost one) xs) = costs-cons one (fitting (limit - cost one) xs) in
        let most : costs (one ∷ fitting (limit - cost one) xs) ≤ limit = omega arith in
        rw (fitting-fits limit one xs room) most
    by false large rest =
        let none : limit < cost one = grind (arith, nat_tests) in
        let nothing : costs [] ≤ limit = omega arith in
        rw (fitting-not limit one xs none) nothing

pub fitting_less : (limit : ℕ) (xs : List Parked) → costs (fitting limit xs) ≤ costs xs
fitting_less limit xs =
    let parts : costs (take (length (fitting limit xs)) xs) + costs (drop (length (fitting limit xs)) xs) ≡ costs xs = sum_by-take-drop cost xs (length (fitting limit xs)) in
    let less : costs (take (length (fitting limit xs)) xs) ≤ costs xs = omega arith in
    rw (fitting_is_front limit xs) at less

-- ---- a line without one transaction

pub costs_filter : (p : Parked → Bool) (xs : List Parked) → costs (filter p xs) ≤ costs xs
costs_filter p [] = omega arith
costs_filter p (one ∷ xs) = by (p one) refl (costs_filter p xs) (costs-cons one xs)
  where
    by : (b : Bool) → p one ≡ b → costs (filter p xs) ≤ costs xs → costs (one ∷ xs) ≡ cost one + costs xs
        → costs (filter p (one ∷ xs)) ≤ costs (one ∷ xs)
    by true stays rest parts =
        let kept : costs (one ∷ filter p xs) ≡ cost one + costs (filter p xs) = costs-cons one (filter p xs) in
        let less : costs (one ∷ filter p xs) ≤ costs (one ∷ xs) = omega arith in
        rw stays less
    by false goes rest parts =
        let less : costs (filter p xs) ≤ costs (one ∷ xs) = omega arith in
        rw goes less

-- ---- the whole line

pub costs_drop_less : (count : ℕ) (xs : List Parked) → costs (drop count xs) ≤ costs xs
costs_drop_less count xs = let parts : costs (take count xs) + costs (drop count xs) ≡ costs xs = sum_by-take-drop cost xs count in omega arith

pub place_within : (number : ℕ) (xs : List Parked) → position_or_len (is_above number) xs ≤ length xs
place_within number xs = prefix_len-le-length (λ x. not (is_above number x)) xs

pub costs_inserted : (one : Parked) (xs : List Parked) → costs (inserted one xs) ≡ costs xs + cost one
costs_inserted one xs = sum_by-insert cost xs (position_or_len (is_above one.number) xs) one

pub within_all : (limit : ℕ) (one : Parked) (xs : List Parked) → length xs < 16384 → costs xs + cost one ≤ limit → within limit (inserted one xs) ≡ inserted one xs
within_all limit one xs few enough =
    let count : length (inserted one xs) ≡ length xs + 1 = length-insert xs (position_or_len (is_above one.number) xs) one (place_within one.number xs) in
    let all : take 16384 (inserted one xs) ≡ inserted one xs = take_all 16384 (inserted one xs) (omega arith) in
    let octets : costs (inserted one xs) ≡ costs xs + cost one = costs_inserted one xs in
    let fits : fitting limit (inserted one xs) ≡ inserted one xs = fitting_all limit (inserted one xs) (omega arith) in
    rw all fits

pub within_room : (limit : ℕ) (xs : List Parked) → costs (within limit xs) ≤ limit
within_room limit xs = fitting_room limit (take 16384 xs)
