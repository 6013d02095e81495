-- Whatever leaves by a pace keeps to its limit.
use Rattle.std.proofs.Common.{◌≡◌, ℕ, ◌+◌, ◌-◌, ◌*◌, ◌^◌, ◌<◌, ◌≤◌, min, max, Bool, true, false, ◌&&◌, nat_le, if◌then◌else◌, List, [], ◌∷◌, Option, Some, None, refl, sym, ap, ◌∙◌, subst, arith, zero-add}
use Rattle.std.specs.Int.{div_ceil}
use Rattle.std.proofs.lemmas.Bool.{leb-true, and_parts}
use Rattle.std.proofs.lemmas.Grind.{div_ceil_times}
use Rattle.std.proofs.Math.Nat.{mul_comm, mul_assoc, mul-le-mul_left}
use Rattle.program_agenda.specs.declared.pace.Pace.{Pace}
use Rattle.program_agenda.specs.Paces.{told, is_free, time_of, spent_by, spent, charged_by, charged}
use Rattle.program_agenda.specs.PaceLaws.{Departure, gone, paced, IsPaced, AreAtMost, octets_within, KeepsToRate}

-- ---- the time of octets

told_small : (n : ℕ) → n ≤ 18446744073709551615 → told n ≡ n
told_small n small = omega arith

time_covers : (octets limit : ℕ) → octets < 2 ^ 32 → octets * 1000000000 ≤ max limit 1 * time_of octets limit
time_covers octets limit few =
    let all : told (octets * 1000000000) ≡ octets * 1000000000 = told_small (octets * 1000000000) (omega arith) in
    let some : 0 < max limit 1 = omega arith in
    let times : octets * 1000000000 ≤ time_of octets limit * max limit 1 = rw all (div_ceil_times (octets * 1000000000) (max limit 1) some).0 in
    subst (λ n. octets * 1000000000 ≤ n) (mul_comm (time_of octets limit) (max limit 1)) times

-- ---- one departure

-- what left since a moment took its time behind it, unless the time that is told is at its end
abbrev Covers : ℕ → ℕ → ℕ → ℕ → Type 0
Covers limit since over octets = over < 18446744073709551615 → octets * 1000000000 ≤ limit * (over - since)

mul_add : (k a b : ℕ) → k * (a + b) ≡ k * a + k * b
mul_add k a b = omega arith

covers_more : (limit since over earliest time octets more : ℕ) → since ≤ earliest → more * 1000000000 ≤ limit * time
    → Covers limit since over octets → Covers limit since (told (max over (told earliest) + time)) (more + octets)
covers_more limit since over earliest time octets more later takes covers small =
    let before : octets * 1000000000 ≤ limit * (over - since) = covers (omega arith) in
    let longer : (over - since) + time ≤ told (max over (told earliest) + time) - since = omega arith in
    let most : limit * ((over - since) + time) ≤ limit * (told (max over (told earliest) + time) - since) = mul-le-mul_left limit longer in
    let parts : limit * ((over - since) + time) ≡ limit * (over - since) + limit * time = mul_add limit (over - since) time in
    omega arith

covers_same : (limit since over earliest time octets : ℕ)
    → Covers limit since over octets → Covers limit since (told (max over (told earliest) + time)) octets
covers_same limit since over earliest time octets covers small =
    let before : octets * 1000000000 ≤ limit * (over - since) = covers (omega arith) in
    let longer : over - since ≤ told (max over (told earliest) + time) - since = omega arith in
    let most : limit * (over - since) ≤ limit * (told (max over (told earliest) + time) - since) = mul-le-mul_left limit longer in
    omega arith

-- ---- a run

limit_spent : (limit : Option ℕ) (octets now : ℕ) (pace : Pace) → (spent_by limit octets now pace).limit ≡ pace.limit
limit_spent None octets now pace = refl
limit_spent (Some n) octets now pace = refl

limit_charged : (limit : Option ℕ) (octets now : ℕ) (pace : Pace) → (charged_by limit octets now pace).limit ≡ pace.limit
limit_charged None octets now pace = refl
limit_charged (Some n) octets now pace = refl

limit_gone : (of_file : Bool) (octets now : ℕ) (pace : Pace) → (gone of_file octets now pace).limit ≡ pace.limit
limit_gone true octets now pace = limit_spent pace.limit octets now pace
limit_gone false octets now pace = limit_charged pace.limit octets now pace

limit_paced : (pace : Pace) (run : List Departure) → (paced pace run).limit ≡ pace.limit
limit_paced pace [] = refl
limit_paced pace (departure ∷ earlier) =
    limit_gone departure.of_file departure.octets departure.at (paced pace earlier) ∙ limit_paced pace earlier

over_spent : (pace : Pace) (limit octets now : ℕ) → pace.limit ≡ Some limit
    → (spent octets now pace).over_at ≡ told (max pace.over_at (told ((now - 10) * 1000000)) + time_of octets limit)
over_spent pace limit octets now is = ap (λ o. (spent_by o octets now pace).over_at) is

-- what is charged ends no earlier
over_charged : (limit : Option ℕ) (octets now : ℕ) (pace : Pace) → pace.over_at ≤ (charged_by limit octets now pace).over_at
over_charged None octets now pace = omega arith
over_charged (Some n) octets now pace = omega arith

covers_raised : (limit since over later octets : ℕ) → over ≤ later → Covers limit since over octets → Covers limit since later octets
covers_raised limit since over later octets le covers small =
    let before : octets * 1000000000 ≤ limit * (over - since) = covers (omega arith) in
    let longer : over - since ≤ later - since = omega arith in
    let most : limit * (over - since) ≤ limit * (later - since) = mul-le-mul_left limit longer in
    omega arith

-- how many octets of files left from a moment on
abbrev octets_since : ℕ → List Departure → ℕ
octets_since start [] = 0
octets_since start (departure ∷ earlier) =
    (if departure.of_file && nat_le start departure.at then departure.octets else 0) + octets_since start earlier

-- the moment behind which a span's time counts, in nanoseconds
abbrev since : ℕ → ℕ
since start = (start - 10) * 1000000

covers_next : (start limit over at octets more : ℕ) (there : Bool) → nat_le start at ≡ there → more < 2 ^ 32
    → Covers (max limit 1) (since start) over octets
    → Covers (max limit 1) (since start) (told (max over (told ((at - 10) * 1000000)) + time_of more limit)) ((if there then more else 0) + octets)
covers_next start limit over at octets more true is few covers =
    let from : start ≤ at = leb-true start at is in
    covers_more (max limit 1) (since start) over ((at - 10) * 1000000) (time_of more limit) octets more (omega arith) (time_covers more limit few) covers
covers_next start limit over at octets more false is few covers =
    subst (Covers (max limit 1) (since start) (told (max over (told ((at - 10) * 1000000)) + time_of more limit))) (sym (zero-add octets))
    (covers_same (max limit 1) (since start) over ((at - 10) * 1000000) (time_of more limit) octets covers)

covers_gone : (of_file : Bool) (pace : Pace) (start limit at octets more : ℕ) → pace.limit ≡ Some limit → (of_file ≡ true → octets < 2 ^ 32)
    → Covers (max limit 1) (since start) pace.over_at more
    → Covers (max limit 1) (since start) (gone of_file octets at pace).over_at ((if of_file && nat_le start at then octets else 0) + more)
covers_gone true pace start limit at octets more is few covers =
    subst (λ over. Covers (max limit 1) (since start) over ((if nat_le start at then octets else 0) + more))
    (sym (over_spent pace limit octets at is))
    (covers_next start limit pace.over_at at more octets (nat_le start at) refl (few refl) covers)
covers_gone false pace start limit at octets more is few covers =
    subst (Covers (max limit 1) (since start) (charged octets at pace).over_at) (sym (zero-add more))
    (covers_raised (max limit 1) (since start) pace.over_at (charged octets at pace).over_at more (over_charged pace.limit octets at pace) covers)

covers_run : (pace : Pace) (limit most start : ℕ) (run : List Departure) → pace.limit ≡ Some limit → most < 2 ^ 32 → AreAtMost most run
    → Covers (max limit 1) (since start) (paced pace run).over_at (octets_since start run)
covers_run pace limit most start [] is few small = λ below. omega arith
covers_run pace limit most start (departure ∷ earlier) is few small =
    covers_gone departure.of_file (paced pace earlier) start limit departure.at departure.octets (octets_since start earlier)
    (limit_paced pace earlier ∙ is)
    (λ file. let le : departure.octets ≤ most = small.0 file in omega arith) (covers_run pace limit most start earlier is few small.1)

-- ---- a span

-- what left within a span left since its start
within_since : (start end : ℕ) (run : List Departure) → octets_within start end run ≤ octets_since start run
within_since start end [] = omega arith
within_since start end (departure ∷ earlier) =
    within_one departure.of_file (nat_le start departure.at) (nat_le departure.at end) departure.octets (octets_within start end earlier)
    (octets_since start earlier) (within_since start end earlier)
  where
    within_one : (file from to : Bool) (octets within all : ℕ) → within ≤ all
        → (if file && (from && to) then octets else 0) + within ≤ (if file && from then octets else 0) + all
    within_one true true true octets within all le = omega arith
    within_one true true false octets within all le = omega arith
    within_one true false to octets within all le = omega arith
    within_one false from to octets within all le = omega arith

-- the moment at which something may leave ends what left before
free_ends : (limit start end over at octets : ℕ) → end < 2 ^ 44 → at ≤ end → nat_le over (told (at * 1000000)) ≡ true
    → Covers limit (since start) over octets → octets * 1000 ≤ limit * (end + 10 - start)
free_ends limit start end over at octets near inside free covers =
    let over_by : over ≤ told (at * 1000000) = leb-true over (told (at * 1000000)) free in
    let before : octets * 1000000000 ≤ limit * (over - since start) = covers (omega arith) in
    let spans : over - since start ≤ (end + 10 - start) * 1000000 = omega arith in
    let most : limit * (over - since start) ≤ limit * ((end + 10 - start) * 1000000) = mul-le-mul_left limit spans in
    let same : limit * (end + 10 - start) * 1000000 ≡ limit * ((end + 10 - start) * 1000000) = mul_assoc limit (end + 10 - start) 1000000 in
    omega arith

span_next : (limit start end most over at octets within since_start : ℕ) (file there : Bool) → (file && (nat_le start at && nat_le at end)) ≡ there
    → end < 2 ^ 44 → (file ≡ true → octets ≤ most)
    → (file ≡ true → nat_le over (told (at * 1000000)) ≡ true) → Covers limit (since start) over since_start → within ≤ since_start
    → within * 1000 ≤ limit * (end + 10 - start) + most * 1000
    → ((if there then octets else 0) + within) * 1000 ≤ limit * (end + 10 - start) + most * 1000
span_next limit start end most over at octets within since_start file true is near small free covers le before =
    let parts = and_parts file (nat_le start at && nat_le at end) is in
    let inside : at ≤ end = leb-true at end (and_parts (nat_le start at) (nat_le at end) parts.1).1 in
    let fits : octets ≤ most = small parts.0 in
    let past : since_start * 1000 ≤ limit * (end + 10 - start) = free_ends limit start end over at since_start near inside (free parts.0) covers in
    omega arith
span_next limit start end most over at octets within since_start file false is near small free covers le before = omega arith

pub keeps_to_rate : KeepsToRate
keeps_to_rate pace limit most start end [] is free few small near = omega arith
keeps_to_rate pace limit most start end (departure ∷ earlier) is free few small near =
    span_next (max limit 1) start end most (paced pace earlier).over_at departure.at departure.octets (octets_within start end earlier) (octets_since start earlier)
    departure.of_file (departure.of_file && (nat_le start departure.at && nat_le departure.at end)) refl near small.0 free.0 (covers_run pace limit most start earlier is few small.1)
    (within_since start end earlier) (keeps_to_rate pace limit most start end earlier is free.1 few small.1 near)
