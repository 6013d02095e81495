-- How many times a datagram is in a line, through parts, insertions and filters.
use Rattle.std.proofs.Common.{◌≡◌, ◌⊎◌, ℕ, ◌+◌, ◌<◌, ◌≤◌, Bool, true, false, not, ◌==◌, nat_lt, nat_eq, if◌then◌else◌, List, [], ◌∷◌, ◌++◌, take, drop, zero, suc, refl, sym, ap, ◌∙◌, arith, inl, inr}
use Rattle.std.proofs.lemmas.Bool.{and_parts, cases_Bool}
use Rattle.std.proofs.lemmas.Bool.Decides.{nat_tests}
use Rattle.std.specs.List.{filter}
use Rattle.program_parking.specs.declared.parked.Parked.{Parked}
use Rattle.program_parking.specs.Lanes.{inserted}
use Rattle.program_parking.specs.ParkingLaws.{ComesBefore, IsBefore, Key, is_key, key_of, times, without}
use Rattle.program_parking.proofs.LineFacts.{AreBefore, inserted_after, inserted_before, keys}

-- once, or not at all
abbrev pub one_if : Bool → ℕ
one_if b = if b then 1 else 0

-- ---- parts

pub times_append : (key : Key) (xs ys : List Key) → times key (xs ++ ys) ≡ times key xs + times key ys
times_append key [] ys = omega arith
times_append key (x ∷ xs) ys =
    let rest : times key (xs ++ ys) ≡ times key xs + times key ys = times_append key xs ys in
    omega arith

pub times_take_drop : (key : Key) (n : ℕ) (xs : List Parked) → times key (keys xs) ≡ times key (keys (take n xs)) + times key (keys (drop n xs))
times_take_drop key zero xs = omega arith
times_take_drop key (suc n) [] = omega arith
times_take_drop key (suc n) (x ∷ xs) =
    let rest : times key (keys xs) ≡ times key (keys (take n xs)) + times key (keys (drop n xs)) = times_take_drop key n xs in
    omega arith

pub times_filters : (key : Key) (p : Parked → Bool) (xs : List Parked)
    → times key (keys xs) ≡ times key (keys (filter p xs)) + times key (keys (filter (λ x. not (p x)) xs))
times_filters key p [] = omega arith
times_filters key p (x ∷ xs) = by (p x) refl (times_filters key p xs)
  where
    by : (b : Bool) → p x ≡ b → times key (keys xs) ≡ times key (keys (filter p xs)) + times key (keys (filter (λ y. not (p y)) xs))
        → times key (keys (x ∷ xs)) ≡ times key (keys (filter p (x ∷ xs))) + times key (keys (filter (λ y. not (p y)) (x ∷ xs)))
    by true stays rest = rw stays (omega arith)
    by false goes rest = rw goes (omega arith)

pub times_inserted : (key : Key) (one : Parked) (xs : List Parked) → times key (keys (inserted one xs)) ≡ one_if (is_key key (key_of one)) + times key (keys xs)
times_inserted key one [] = refl
times_inserted key one (x ∷ xs) = by (cases_Bool (nat_lt one.number x.number)) (times_inserted key one xs)
  where
    by : ((nat_lt one.number x.number ≡ true) ⊎ (nat_lt one.number x.number ≡ false))
        → times key (keys (inserted one xs)) ≡ one_if (is_key key (key_of one)) + times key (keys xs)
        → times key (keys (inserted one (x ∷ xs))) ≡ one_if (is_key key (key_of one)) + times key (keys (x ∷ xs))
    by (inl above) rest = let less : one.number < x.number = grind (arith, nat_tests) in rw (inserted_before one x xs less) refl
    by (inr below) rest =
        let least : x.number ≤ one.number = grind (arith, nat_tests) in
        rw (inserted_after one x xs least) (omega arith)

-- ---- one datagram

pub key_parts : (key one : Key) → is_key key one ≡ true → (one.number ≡ key.number) × (one.arrival ≡ key.arrival)
key_parts key one is =
    let (number, arrival) = and_parts (one.number == key.number) (one.arrival == key.arrival) is in
    let same : one.number ≡ key.number = grind (arith, nat_tests) in
    let came : one.arrival ≡ key.arrival = grind (arith, nat_tests) in
    (same, came)

pub key_same : (key one : Key) → is_key key one ≡ true → key ≡ one
key_same key one is =
    let (number, arrival) = key_parts key one is in
    let first : record key { number = one.number } ≡ key = ap (λ (n : ℕ). record key { number = n }) number in
    let second : record one { arrival = key.arrival } ≡ one = ap (λ (n : ℕ). record one { arrival = n }) (sym arrival) in
    sym first ∙ second

pub times_itself : (key : Key) (ks : List Key) → times key (key ∷ ks) ≡ 1 + times key ks
times_itself key ks =
    let number : nat_eq key.number key.number ≡ true = grind (arith, nat_tests) in
    let arrival : nat_eq key.arrival key.arrival ≡ true = grind (arith, nat_tests) in
    rw (number, arrival) refl

-- what comes before another is not that one
apart : (key one : Key) → ComesBefore key one → is_key key one ≡ false
apart key one (inl less) = let differs : nat_eq one.number key.number ≡ false = grind (arith, nat_tests) in rw differs refl
apart key one (inr (same, later)) =
    let differs : nat_eq one.arrival key.arrival ≡ false = grind (arith, nat_tests) in
    let number : nat_eq one.number key.number ≡ true = grind (arith, nat_tests) in
    rw (number, differs) refl

apart_too : (key one : Key) → ComesBefore key one → is_key one key ≡ false
apart_too key one (inl less) = let differs : nat_eq key.number one.number ≡ false = grind (arith, nat_tests) in rw differs refl
apart_too key one (inr (same, later)) =
    let differs : nat_eq key.arrival one.arrival ≡ false = grind (arith, nat_tests) in
    let number : nat_eq key.number one.number ≡ true = grind (arith, nat_tests) in
    rw (number, differs) refl

pub times_before : (key : Key) (ks : List Key) → IsBefore key ks → times key ks ≡ 0
times_before key [] all = refl
times_before key (k ∷ ks) (here, all) =
    let rest : times key ks ≡ 0 = times_before key ks all in
    rw (apart key k here) (omega arith)

pub times_behind : (key : Key) (ks : List Key) → AreBefore ks (key ∷ []) → times key ks ≡ 0
times_behind key [] all = refl
times_behind key (k ∷ ks) ((here, none), all) =
    let rest : times key ks ≡ 0 = times_behind key ks all in
    rw (apart_too k key here) (omega arith)

-- ---- a list without one datagram

-- what is not the one is there as often as before
without_other : (key one : Key) (ks : List Key) → is_key one key ≡ false → times one (without key ks) ≡ times one ks
without_other key one [] other = refl
without_other key one (k ∷ ks) other = by (cases_Bool (is_key key k)) (without_other key one ks other)
  where
    by : ((is_key key k ≡ true) ⊎ (is_key key k ≡ false)) → times one (without key ks) ≡ times one ks → times one (without key (k ∷ ks)) ≡ times one (k ∷ ks)
    by (inl goes) rest =
        let same : key ≡ k = key_same key k goes in
        let nothing : is_key one k ≡ false = rw (← same) other in
        rw (goes, nothing) (omega arith)
    by (inr stays) rest = rw stays (omega arith)

-- the one is not there
without_itself : (key : Key) (ks : List Key) → times key (without key ks) ≡ 0
without_itself key [] = refl
without_itself key (k ∷ ks) = by (cases_Bool (is_key key k)) (without_itself key ks)
  where
    by : ((is_key key k ≡ true) ⊎ (is_key key k ≡ false)) → times key (without key ks) ≡ 0 → times key (without key (k ∷ ks)) ≡ 0
    by (inl goes) rest = rw goes rest
    by (inr stays) rest = rw stays (rw stays (omega arith))

-- with the one behind all others, where it was once there in all
pub times_taken : (key one : Key) (out behind gone : List Key) → times key out ≡ 0 → times key behind ≡ 0
    → times one (out ++ key ∷ []) + times one behind + times one (without key gone) ≡ (if is_key one key then 1 else times one out + times one behind + times one gone)
times_taken key one out behind gone not_out not_behind = by (cases_Bool (is_key one key)) (times_append one out (key ∷ []))
  where
    by : ((is_key one key ≡ true) ⊎ (is_key one key ≡ false)) → times one (out ++ key ∷ []) ≡ times one out + times one (key ∷ [])
        → times one (out ++ key ∷ []) + times one behind + times one (without key gone) ≡ (if is_key one key then 1 else times one out + times one behind + times one gone)
    by (inl is) sum =
        let same : one ≡ key = key_same one key is in
        let none_out : times one out ≡ 0 = rw same not_out in
        let none_behind : times one behind ≡ 0 = rw same not_behind in
        let none_gone : times one (without key gone) ≡ 0 = rw same (without_itself key gone) in
        let alone : times one (key ∷ []) ≡ 1 = rw is refl in
        rw is (omega arith)
    by (inr other) sum =
        let rest : times one (without key gone) ≡ times one gone = without_other key one gone other in
        let nothing : times one (key ∷ []) ≡ 0 = rw other refl in
        rw other (omega arith)
