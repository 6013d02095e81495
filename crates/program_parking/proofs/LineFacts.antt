-- Lines of datagrams: their order and what is among them, through parts, insertions and filters.
use Rattle.std.proofs.Common.{◌≡◌, ◌⊎◌, ℕ, ◌+◌, ◌<◌, ◌≤◌, Bool, true, false, ◌&&◌, ◌==◌, nat_lt, List, [], ◌∷◌, ◌++◌, length, map, take, drop, min, zero, suc, refl, sym, ap, ◌∙◌, arith, inl, inr}
use Rattle.std.proofs.lemmas.Bool.{and_parts, cases_Bool}
use Rattle.std.proofs.lemmas.List.{length-take, take-take}
use Rattle.std.proofs.lemmas.Bool.Decides.{nat_tests}
use Rattle.std.specs.List.{filter}
use Rattle.program_parking.specs.declared.parked.Parked.{Parked}
use Rattle.program_parking.specs.Lanes.{behind, inserted, is_above, is_behind, within}
use Rattle.program_parking.specs.ParkingLaws.{ComesBefore, IsBefore, IsRising, Key, key_of}
use Rattle.program_parking.proofs.PlaceFacts.{fitting_is_front}

abbrev pub keys : List Parked → List Key
keys xs = map key_of xs

-- ---- coming before

pub before_trans : (a b c : Key) → ComesBefore a b → ComesBefore b c → ComesBefore a c
before_trans a b c (inl less) (inl more) = inl (omega arith)
before_trans a b c (inl less) (inr (same, later)) = inl (omega arith)
before_trans a b c (inr (same, later)) (inl more) = inl (omega arith)
before_trans a b c (inr (same, later)) (inr (too, last)) = inr (same ∙ too, omega arith)

pub before_all : (a b : Key) (ks : List Key) → ComesBefore a b → IsBefore b ks → IsBefore a ks
before_all a b [] first rest = tt
before_all a b (k ∷ ks) first (here, rest) = (before_trans a b k first here, before_all a b ks first rest)

-- each of a list comes before all of another
abbrev pub AreBefore : List Key → List Key → Type 0
AreBefore [] ys = Unit {0}
AreBefore (x ∷ xs) ys = IsBefore x ys × AreBefore xs ys

pub before_append : (k : Key) (xs ys : List Key) → IsBefore k xs → IsBefore k ys → IsBefore k (xs ++ ys)
before_append k [] ys first last = last
before_append k (x ∷ xs) ys (here, first) last = (here, before_append k xs ys first last)

pub rising_append : (xs ys : List Key) → IsRising xs → IsRising ys → AreBefore xs ys → IsRising (xs ++ ys)
rising_append [] ys first last apart = last
rising_append (x ∷ xs) ys (here, first) last (before, apart) = (before_append x xs ys here before, rising_append xs ys first last apart)

pub are_before_append : (xs : List Key) (k : Key) (ys : List Key) → AreBefore xs ys → IsBefore k ys → AreBefore (xs ++ k ∷ []) ys
are_before_append [] k ys apart before = (before, tt)
are_before_append (x ∷ xs) k ys (here, apart) before = (here, are_before_append xs k ys apart before)

-- ---- parts

pub before_take : (k : Key) (n : ℕ) (xs : List Parked) → IsBefore k (keys xs) → IsBefore k (keys (take n xs))
before_take k zero xs all = tt
before_take k (suc n) [] all = tt
before_take k (suc n) (x ∷ xs) (here, all) = (here, before_take k n xs all)

pub rising_take : (n : ℕ) (xs : List Parked) → IsRising (keys xs) → IsRising (keys (take n xs))
rising_take zero xs all = tt
rising_take (suc n) [] all = tt
rising_take (suc n) (x ∷ xs) (here, all) = (before_take (key_of x) n xs here, rising_take n xs all)

pub before_drop : (k : Key) (n : ℕ) (xs : List Parked) → IsBefore k (keys xs) → IsBefore k (keys (drop n xs))
before_drop k zero xs all = all
before_drop k (suc n) [] all = tt
before_drop k (suc n) (x ∷ xs) (here, all) = before_drop k n xs all

pub rising_drop : (n : ℕ) (xs : List Parked) → IsRising (keys xs) → IsRising (keys (drop n xs))
rising_drop zero xs all = all
rising_drop (suc n) [] all = tt
rising_drop (suc n) (x ∷ xs) (here, all) = rising_drop n xs all

-- those within a room are the first ones
pub within_is : (limit : ℕ) (xs : List Parked) → within limit xs ≡ take (length (within limit xs)) xs
within_is limit xs =
    let front : take (length (within limit xs)) (take 16384 xs) ≡ within limit xs = fitting_is_front limit (take 16384 xs) in
    let few : length (take (length (within limit xs)) (take 16384 xs)) ≡ min (length (within limit xs)) (length (take 16384 xs)) = length-take (length (within limit xs)) (take 16384 xs) in
    let all : length (take 16384 xs) ≡ min 16384 (length xs) = length-take 16384 xs in
    let same : length (take (length (within limit xs)) (take 16384 xs)) ≡ length (within limit xs) = ap length front in
    let most : length (within limit xs) ≤ 16384 = omega arith in
    sym front ∙ take-take (length (within limit xs)) 16384 xs most

-- ---- filters

pub before_filter : (k : Key) (p : Parked → Bool) (xs : List Parked) → IsBefore k (keys xs) → IsBefore k (keys (filter p xs))
before_filter k p [] all = tt
before_filter k p (x ∷ xs) (here, all) = by (p x) refl (before_filter k p xs all)
  where
    by : (b : Bool) → p x ≡ b → IsBefore k (keys (filter p xs)) → IsBefore k (keys (filter p (x ∷ xs)))
    by true stays rest = rw stays (here, rest)
    by false goes rest = rw goes rest

pub rising_filter : (p : Parked → Bool) (xs : List Parked) → IsRising (keys xs) → IsRising (keys (filter p xs))
rising_filter p [] all = tt
rising_filter p (x ∷ xs) (here, all) = by (p x) refl (before_filter (key_of x) p xs here) (rising_filter p xs all)
  where
    by : (b : Bool) → p x ≡ b → IsBefore (key_of x) (keys (filter p xs)) → IsRising (keys (filter p xs)) → IsRising (keys (filter p (x ∷ xs)))
    by true stays before rest = rw stays (before, rest)
    by false goes before rest = rw goes rest

-- a datagram with no greater number that came before
pub at_most : (a b : Key) → a.number ≤ b.number → a.arrival < b.arrival → ComesBefore a b
at_most a b least came = by (cases_Bool (nat_lt a.number b.number))
  where
    by : ((nat_lt a.number b.number ≡ true) ⊎ (nat_lt a.number b.number ≡ false)) → ComesBefore a b
    by (inl less) = let lower : a.number < b.number = grind (arith, nat_tests) in inl lower
    by (inr not_less) = let same : a.number ≡ b.number = grind (arith, nat_tests) in inr (same, came)

-- ---- insertions

one_more : (n : ℕ) → 1 + n ≡ suc n
one_more n = omega arith

pub inserted_before : (one x : Parked) (xs : List Parked) → one.number < x.number → inserted one (x ∷ xs) ≡ one ∷ x ∷ xs
inserted_before one x xs less = let above : is_above one.number x ≡ true = grind (arith, nat_tests) in rw above refl

pub inserted_after : (one x : Parked) (xs : List Parked) → x.number ≤ one.number → inserted one (x ∷ xs) ≡ x ∷ inserted one xs
inserted_after one x xs least =
    let not_above : is_above one.number x ≡ false = grind (arith, nat_tests) in
    rw (not_above, one_more) refl

pub before_inserted : (k : Key) (one : Parked) (xs : List Parked) → ComesBefore k (key_of one) → IsBefore k (keys xs) → IsBefore k (keys (inserted one xs))
before_inserted k one [] first all = (first, tt)
before_inserted k one (x ∷ xs) first (here, all) = by (cases_Bool (nat_lt one.number x.number)) (before_inserted k one xs first all)
  where
    by : ((nat_lt one.number x.number ≡ true) ⊎ (nat_lt one.number x.number ≡ false)) → IsBefore k (keys (inserted one xs)) → IsBefore k (keys (inserted one (x ∷ xs)))
    by (inl above) rest = let less : one.number < x.number = grind (arith, nat_tests) in rw (inserted_before one x xs less) (first, (here, all))
    by (inr below) rest = let least : x.number ≤ one.number = grind (arith, nat_tests) in rw (inserted_after one x xs least) (here, rest)

-- all came before so many were parked
abbrev pub AreEarly : ℕ → List Parked → Type 0
AreEarly arrivals [] = Unit {0}
AreEarly arrivals (x ∷ xs) = (x.arrival < arrivals) × AreEarly arrivals xs

pub rising_inserted : (one : Parked) (xs : List Parked) → AreEarly one.arrival xs → IsRising (keys xs) → IsRising (keys (inserted one xs))
rising_inserted one [] early all = (tt, tt)
rising_inserted one (x ∷ xs) (came, early) (here, all) = by (cases_Bool (nat_lt one.number x.number)) (rising_inserted one xs early all)
  where
    by : ((nat_lt one.number x.number ≡ true) ⊎ (nat_lt one.number x.number ≡ false)) → IsRising (keys (inserted one xs)) → IsRising (keys (inserted one (x ∷ xs)))
    by (inl above) rest =
        let less : one.number < x.number = grind (arith, nat_tests) in
        let first : ComesBefore (key_of one) (key_of x) = inl less in
        rw (inserted_before one x xs less) ((first, before_all (key_of one) (key_of x) (keys xs) first here), (here, all))
    by (inr below) rest =
        let least : x.number ≤ one.number = grind (arith, nat_tests) in
        let first : ComesBefore (key_of x) (key_of one) = at_most (key_of x) (key_of one) least came in
        rw (inserted_after one x xs least) (before_inserted (key_of x) one xs first here, rest)

-- ---- behind a datagram

pub behind_drop : (number arrival : ℕ) (x : Parked) (xs : List Parked) → is_behind number arrival x ≡ false → behind number arrival (x ∷ xs) ≡ behind number arrival xs
behind_drop number arrival x xs not_behind = rw (not_behind, one_more) refl

pub behind_all : (number arrival : ℕ) (x : Parked) (xs : List Parked) → is_behind number arrival x ≡ true → behind number arrival (x ∷ xs) ≡ x ∷ xs
behind_all number arrival x xs is_so = rw is_so refl

-- what the test says
behind_means : (number arrival : ℕ) (x : Parked) → is_behind number arrival x ≡ true → ComesBefore (record { number = number; arrival = arrival }) (key_of x)
behind_means number arrival x is_so = by (cases_Bool (nat_lt number x.number))
  where
    by : ((nat_lt number x.number ≡ true) ⊎ (nat_lt number x.number ≡ false)) → ComesBefore (record { number = number; arrival = arrival }) (key_of x)
    by (inl less) = let lower : number < x.number = grind (arith, nat_tests) in inl lower
    by (inr not_less) =
        let rest : ((x.number == number) && nat_lt arrival x.arrival) ≡ true = rw not_less at is_so in
        let (same, later) = and_parts (x.number == number) (nat_lt arrival x.arrival) rest in
        let equal : number ≡ x.number = grind (arith, nat_tests) in
        let came : arrival < x.arrival = grind (arith, nat_tests) in
        inr (equal, came)

pub behind_before : (number arrival : ℕ) (xs : List Parked) → IsRising (keys xs) → IsBefore (record { number = number; arrival = arrival }) (keys (behind number arrival xs))
behind_before number arrival [] all = tt
behind_before number arrival (x ∷ xs) (here, all) = by (cases_Bool (is_behind number arrival x)) (behind_before number arrival xs all)
  where
    by : ((is_behind number arrival x ≡ true) ⊎ (is_behind number arrival x ≡ false)) → IsBefore (record { number = number; arrival = arrival }) (keys (behind number arrival xs))
        → IsBefore (record { number = number; arrival = arrival }) (keys (behind number arrival (x ∷ xs)))
    by (inl is_so) rest =
        let first : ComesBefore (record { number = number; arrival = arrival }) (key_of x) = behind_means number arrival x is_so in
        rw (behind_all number arrival x xs is_so) (first, before_all (record { number = number; arrival = arrival }) (key_of x) (keys xs) first here)
    by (inr not_so) rest = rw (behind_drop number arrival x xs not_so) rest

-- ---- lists apart

pub apart_take : (ks : List Key) (n : ℕ) (xs : List Parked) → AreBefore ks (keys xs) → AreBefore ks (keys (take n xs))
apart_take [] n xs all = tt
apart_take (k ∷ ks) n xs (here, all) = (before_take k n xs here, apart_take ks n xs all)

pub apart_drop : (ks : List Key) (n : ℕ) (xs : List Parked) → AreBefore ks (keys xs) → AreBefore ks (keys (drop n xs))
apart_drop [] n xs all = tt
apart_drop (k ∷ ks) n xs (here, all) = (before_drop k n xs here, apart_drop ks n xs all)

pub apart_filter : (ks : List Key) (p : Parked → Bool) (xs : List Parked) → AreBefore ks (keys xs) → AreBefore ks (keys (filter p xs))
apart_filter [] p xs all = tt
apart_filter (k ∷ ks) p xs (here, all) = (before_filter k p xs here, apart_filter ks p xs all)

-- all have no greater number and came before so many were parked
abbrev pub AreLow : ℕ → ℕ → List Key → Type 0
AreLow floor arrivals [] = Unit {0}
AreLow floor arrivals (k ∷ ks) = (k.number ≤ floor) × (k.arrival < arrivals) × AreLow floor arrivals ks

pub apart_inserted : (ks : List Key) (floor : ℕ) (one : Parked) (xs : List Parked) → AreLow floor one.arrival ks → floor ≤ one.number
    → AreBefore ks (keys xs) → AreBefore ks (keys (inserted one xs))
apart_inserted [] floor one xs low least all = tt
apart_inserted (k ∷ ks) floor one xs (number, came, low) least (here, all) =
    (before_inserted k one xs (at_most k (key_of one) (omega arith) came) here, apart_inserted ks floor one xs low least all)

pub low_more : (ks : List Key) (floor more arrivals later : ℕ) → floor ≤ more → arrivals ≤ later → AreLow floor arrivals ks → AreLow more later ks
low_more [] floor more arrivals later least last low = tt
low_more (k ∷ ks) floor more arrivals later least last (number, came, low) = (omega arith, omega arith, low_more ks floor more arrivals later least last low)

pub low_append : (ks : List Key) (floor arrivals : ℕ) (k : Key) → AreLow floor arrivals ks → k.number ≤ floor → k.arrival < arrivals → AreLow floor arrivals (ks ++ k ∷ [])
low_append [] floor arrivals k low number came = (number, came, tt)
low_append (other ∷ ks) floor arrivals k (n, c, low) number came = (n, c, low_append ks floor arrivals k low number came)

pub early_more : (arrivals later : ℕ) (xs : List Parked) → arrivals ≤ later → AreEarly arrivals xs → AreEarly later xs
early_more arrivals later [] last all = tt
early_more arrivals later (x ∷ xs) last (here, all) = (omega arith, early_more arrivals later xs last all)

-- ---- early datagrams

pub early_take : (arrivals n : ℕ) (xs : List Parked) → AreEarly arrivals xs → AreEarly arrivals (take n xs)
early_take arrivals zero xs all = tt
early_take arrivals (suc n) [] all = tt
early_take arrivals (suc n) (x ∷ xs) (here, all) = (here, early_take arrivals n xs all)

pub early_drop : (arrivals n : ℕ) (xs : List Parked) → AreEarly arrivals xs → AreEarly arrivals (drop n xs)
early_drop arrivals zero xs all = all
early_drop arrivals (suc n) [] all = tt
early_drop arrivals (suc n) (x ∷ xs) (here, all) = early_drop arrivals n xs all

pub early_filter : (arrivals : ℕ) (p : Parked → Bool) (xs : List Parked) → AreEarly arrivals xs → AreEarly arrivals (filter p xs)
early_filter arrivals p [] all = tt
early_filter arrivals p (x ∷ xs) (here, all) = by (p x) refl (early_filter arrivals p xs all)
  where
    by : (b : Bool) → p x ≡ b → AreEarly arrivals (filter p xs) → AreEarly arrivals (filter p (x ∷ xs))
    by true stays rest = rw stays (here, rest)
    by false goes rest = rw goes rest

pub early_inserted : (arrivals : ℕ) (one : Parked) (xs : List Parked) → one.arrival < arrivals → AreEarly one.arrival xs → AreEarly arrivals (inserted one xs)
early_inserted arrivals one [] came all = (came, tt)
early_inserted arrivals one (x ∷ xs) came (here, all) = by (cases_Bool (nat_lt one.number x.number)) (early_inserted arrivals one xs came all) (later xs all)
  where
    later : (ys : List Parked) → AreEarly one.arrival ys → AreEarly arrivals ys
    later [] all = tt
    later (y ∷ ys) (first, all) = (omega arith, later ys all)

    by : ((nat_lt one.number x.number ≡ true) ⊎ (nat_lt one.number x.number ≡ false)) → AreEarly arrivals (inserted one xs) → AreEarly arrivals xs → AreEarly arrivals (inserted one (x ∷ xs))
    by (inl above) rest same =
        let less : one.number < x.number = grind (arith, nat_tests) in
        rw (inserted_before one x xs less) (came, (omega arith, same))
    by (inr below) rest same =
        let least : x.number ≤ one.number = grind (arith, nat_tests) in
        rw (inserted_after one x xs least) (omega arith, rest)
