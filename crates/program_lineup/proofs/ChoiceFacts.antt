-- The number that a choice lets go is the next one of an idle lane, and is free.
use Rattle.std.proofs.Common.{◌≡◌, ◌⊎◌, ℕ, ◌==◌, ◌&&◌, ◌||◌, min, Bool, true, false, nat_eq, nat_le, if◌then◌else◌, List, [], ◌∷◌, Option, Some, None, fold, refl, subst, arith, inl, inr}
use Rattle.std.proofs.lemmas.Bool.{and_parts, cases_Bool, false≢true}
use Rattle.std.proofs.lemmas.Bool.Decides.{nat_tests}
use Rattle.program_lineup.specs.declared.choice.Choice.TheVariants.{Goes, Skips, Waits}
use Rattle.program_lineup.specs.declared.choice.Standing.{Standing}
use Rattle.program_lineup.specs.declared.choice.Standing.TheVariants.{Free, Awaits, Lags}
use Rattle.program_lineup.specs.declared.sending_lane.SendingLane.{SendingLane}
use Rattle.program_lineup.specs.Lineups.{Numbers, choice, chosen, highest, is_awaiting, is_idle, is_so, least, lowest, standing, stands}
use Rattle.program_lineup.specs.LineupLaws.{has_next}

-- the least of the numbers that may go, over some of the lanes
abbrev lowest_from : ℕ → Numbers → List SendingLane → Option ℕ → List SendingLane → Option ℕ
lowest_from user numbers lanes best rest = fold (λ best lane. if stands Free user numbers lanes lane then least best lane.next else best) best rest

goes_lowest : (low : Option ℕ) (awaits : Bool) (lags : Option ℕ) (number : ℕ) → chosen low awaits lags ≡ Goes number → low ≡ Some number
goes_lowest (Some other) awaits lags number is = cc
goes_lowest None true lags number is = let bad : Waits ≡ Goes number = is in cc
goes_lowest None false None number is = let bad : Waits ≡ Goes number = is in cc
goes_lowest None false (Some other) number is = let bad : Skips other ≡ Goes number = is in cc

free_is : (one : Standing) → is_so Free one ≡ true → one ≡ Free
free_is Free is = refl
free_is Awaits is = absurd (false≢true is)
free_is Lags is = absurd (false≢true is)

-- a number that may go: of an idle lane, among these, and free
abbrev May : ℕ → Numbers → List SendingLane → List SendingLane → ℕ → Type 0
May user numbers lanes rest number = (has_next user rest number ≡ true) × (standing numbers lanes number ≡ Free)

may_later : (user : ℕ) (numbers : Numbers) (lanes : List SendingLane) (lane : SendingLane) (rest : List SendingLane) (number : ℕ)
    → May user numbers lanes rest number → May user numbers lanes (lane ∷ rest) number
may_later user numbers lanes lane rest number (there, free) = (by (is_idle user lane && (lane.next == number)) there, free)
  where
    by : (b : Bool) → has_next user rest number ≡ true → b || has_next user rest number ≡ true
    by true there = refl
    by false there = there

may_here : (user : ℕ) (numbers : Numbers) (lanes : List SendingLane) (lane : SendingLane) (rest : List SendingLane)
    → stands Free user numbers lanes lane ≡ true → May user numbers lanes (lane ∷ rest) lane.next
may_here user numbers lanes lane rest is =
    let (idle, so) = and_parts (is_idle user lane) (is_so Free (standing numbers lanes lane.next)) is in
    let same : nat_eq lane.next lane.next ≡ true = grind (arith, nat_tests) in
    (rw (idle, same) refl, free_is (standing numbers lanes lane.next) so)

-- the least of two is one of them
least_is : (best : Option ℕ) (number other : ℕ) → least best number ≡ Some other → (best ≡ Some other) ⊎ (number ≡ other)
least_is None number other is = inr cc
least_is (Some before) number other is = by (cases_Bool (nat_le before number))
  where
    same : min before number ≡ other
    same = cc

    by : ((nat_le before number ≡ true) ⊎ (nat_le before number ≡ false)) → (Some before ≡ Some other) ⊎ (number ≡ other)
    by (inl less) = let first : before ≡ other = grind (arith, nat_tests) in inl cc
    by (inr more) = let second : number ≡ other = grind (arith, nat_tests) in inr second

-- the least of some and the best before is that one, or may go
lowest_may : (user : ℕ) (numbers : Numbers) (lanes rest : List SendingLane) (best : Option ℕ) (number : ℕ) → lowest_from user numbers lanes best rest ≡ Some number
    → (best ≡ Some number) ⊎ May user numbers lanes rest number
lowest_may user numbers lanes [] best number is = inl is
lowest_may user numbers lanes (lane ∷ rest) best number is = by (cases_Bool (stands Free user numbers lanes lane)) (λ other. lowest_may user numbers lanes rest other number)
  where
    from_least : (least best lane.next ≡ Some number) ⊎ May user numbers lanes rest number → stands Free user numbers lanes lane ≡ true
        → (best ≡ Some number) ⊎ May user numbers lanes (lane ∷ rest) number
    from_least (inr later) so = inr (may_later user numbers lanes lane rest number later)
    from_least (inl here) so = elim (least_is best lane.next number here) [
      | inl before ↦ inl before
      | inr same ↦ inr (subst (λ (n : ℕ). May user numbers lanes (lane ∷ rest) n) same (may_here user numbers lanes lane rest so))
    ]

    by : ((stands Free user numbers lanes lane ≡ true) ⊎ (stands Free user numbers lanes lane ≡ false))
        → ((other : Option ℕ) → lowest_from user numbers lanes other rest ≡ Some number → (other ≡ Some number) ⊎ May user numbers lanes rest number)
        → (best ≡ Some number) ⊎ May user numbers lanes (lane ∷ rest) number
    by (inl so) others = from_least (others (least best lane.next) (rw so at is)) so
    by (inr not_so) others = elim (others best (rw not_so at is)) [
      | inl before ↦ inl before
      | inr later ↦ inr (may_later user numbers lanes lane rest number later)
    ]

pub goes_free : (user : ℕ) (numbers : Numbers) (lanes : List SendingLane) (number : ℕ) → choice user numbers lanes ≡ Goes number
    → (has_next user lanes number ≡ true) × (standing numbers lanes number ≡ Free)
goes_free user numbers lanes number is =
    let low : lowest user numbers lanes ≡ Some number = goes_lowest (lowest user numbers lanes) (is_awaiting user numbers lanes) (highest user numbers lanes) number is in
    elim (lowest_may user numbers lanes lanes None number low) [
      | inl nothing ↦ none nothing
      | inr may ↦ may
    ]
  where
    none : None ≡ Some number → (has_next user lanes number ≡ true) × (standing numbers lanes number ≡ Free)
    none bad = cc
