-- Each datagram that was parked is in one place, over every run of a lane.
use Rattle.std.proofs.Common.{◌≡◌, ◌⊎◌, ℕ, ◌+◌, ◌/◌, ◌<◌, ◌≤◌, Bool, true, false, if◌then◌else◌, List, [], ◌∷◌, ◌++◌, Option, Some, None, length, take, zero, suc, refl, sym, subst, arith, inl, inr}
use Rattle.std.proofs.lemmas.Bool.{cases_Bool}
use Rattle.std.specs.List.{filter, position_or_len}
use Rattle.program_parking.specs.declared.parked.Parked.{Parked}
use Rattle.program_parking.specs.declared.parked.Lent.{Lent}
use Rattle.program_parking.specs.declared.outcome.Outcome.{Outcome}
use Rattle.program_parking.specs.declared.outcome.Outcome.TheVariants.{Taken, Refused, Waits}
use Rattle.program_parking.specs.Lanes.{LaneValue, behind, costs, front_of, halved, inserted, is_behind, is_none_of, is_of_other, lendable, within}
use Rattle.program_parking.proofs.PlaceFacts.{fitting_is_front}
use Rattle.program_parking.specs.ParkingLaws.{AreMoves, Key, MayMove, Move, Run, forgets, given_up, gives_way, is_key, itself, key_of, key_of_lent, lends, line_of, of_number, parks, run_lent, run_of, run_settled, settles, step, times, up_to, without, without_room}
use Rattle.program_parking.proofs.LineFacts.{behind_before, keys, within_is}
use Rattle.program_parking.proofs.RunFacts.{RunIsOrdered, runs_ordered}
use Rattle.program_parking.proofs.TimesFacts.{key_parts, key_same, one_if, times_append, times_before, times_behind, times_filters, times_inserted, times_itself, times_take_drop, times_taken}

-- the datagram that is lent was parked
abbrev pub IsParked : Option Lent → List Key → Type 0
IsParked None parked = Unit {0}
IsParked (Some lent) parked = 0 < times (key_of_lent lent) parked

-- each that was parked has one place, came before the next one's place, and is once there
pub record IsCounted (run : Run) : Type 0 where
  pub placed : (key : Key) → times key run.parked ≡ times key run.out + times key (keys run.lane.waiting) + times key run.dropped
  pub once : (key : Key) → times key run.parked ≤ 1
  pub early : (key : Key) → 0 < times key run.parked → key.arrival < run.arrivals
  pub lent : IsParked run.lent run.parked

-- ---- a datagram is parked

-- those that fit and those that don't are all
room_parts : (key : Key) (limit : ℕ) (one : Parked) (lane : LaneValue)
    → times key (keys (inserted one lane.waiting)) ≡ times key (keys (within limit (inserted one lane.waiting))) + times key (without_room limit one lane)
room_parts key limit one lane =
    let parts : times key (keys (inserted one lane.waiting)) ≡ times key (keys (take (length (within limit (inserted one lane.waiting))) (inserted one lane.waiting))) + times key (without_room limit one lane) =
    times_take_drop key (length (within limit (inserted one lane.waiting))) (inserted one lane.waiting) in
    subst (λ (xs : List Parked). times key (keys (inserted one lane.waiting)) ≡ times key (keys xs) + times key (without_room limit one lane)) (sym (within_is limit (inserted one lane.waiting))) parts

parks_placed : (limit : ℕ) (one : Parked) (run : Run) (key : Key) → IsCounted run
    → times key (key_of one ∷ run.parked) ≡ times key run.out + times key (keys (within limit (inserted one run.lane.waiting))) + times key (without_room limit one run.lane ++ run.dropped)
parks_placed limit one run key counted =
    let was : times key run.parked ≡ times key run.out + times key (keys run.lane.waiting) + times key run.dropped = counted.placed key in
    let more : times key (keys (inserted one run.lane.waiting)) ≡ one_if (is_key key (key_of one)) + times key (keys run.lane.waiting) = times_inserted key one run.lane.waiting in
    let parts : times key (keys (inserted one run.lane.waiting)) ≡ times key (keys (within limit (inserted one run.lane.waiting))) + times key (without_room limit one run.lane) = room_parts key limit one run.lane in
    let gone : times key (without_room limit one run.lane ++ run.dropped) ≡ times key (without_room limit one run.lane) + times key run.dropped = times_append key (without_room limit one run.lane) run.dropped in
    omega arith

parks_once : (one : Parked) (run : Run) (key : Key) → run.arrivals ≤ one.arrival → IsCounted run → times key (key_of one ∷ run.parked) ≤ 1
parks_once one run key last counted = by (cases_Bool (is_key key (key_of one))) (counted.once key) (counted.early key)
  where
    by : ((is_key key (key_of one) ≡ true) ⊎ (is_key key (key_of one) ≡ false)) → times key run.parked ≤ 1 → (0 < times key run.parked → key.arrival < run.arrivals)
        → times key (key_of one ∷ run.parked) ≤ 1
    by (inl is) most early =
        let (number, arrival) = key_parts key (key_of one) is in
        rw is (new (times key run.parked) arrival early)
      where
        new : (n : ℕ) → one.arrival ≡ key.arrival → (0 < n → key.arrival < run.arrivals) → 1 + n ≤ 1
        new zero arrival early = omega arith
        new (suc n) arrival early = let came : key.arrival < run.arrivals = early (omega arith) in omega arith
    by (inr other) most early = rw other (omega arith)

parks_early : (one : Parked) (run : Run) (key : Key) → run.arrivals ≤ one.arrival → IsCounted run → 0 < times key (key_of one ∷ run.parked) → key.arrival < one.arrival + 1
parks_early one run key last counted some = by (cases_Bool (is_key key (key_of one))) (counted.early key) some
  where
    by : ((is_key key (key_of one) ≡ true) ⊎ (is_key key (key_of one) ≡ false)) → (0 < times key run.parked → key.arrival < run.arrivals)
        → 0 < times key (key_of one ∷ run.parked) → key.arrival < one.arrival + 1
    by (inl is) early some = let (number, arrival) = key_parts key (key_of one) is in omega arith
    by (inr other) early some =
        let before : 0 < times key run.parked = let all : 0 < 0 + times key run.parked = rw other at some in omega arith in
        let came : key.arrival < run.arrivals = early before in
        omega arith

still_parked : (one : Key) (lent : Option Lent) (parked : List Key) → IsParked lent parked → IsParked lent (one ∷ parked)
still_parked one None parked is = tt
still_parked one (Some lent) parked is = omega arith

parks_counted : (limit : ℕ) (one : Parked) (run : Run) → run.arrivals ≤ one.arrival → IsCounted run → IsCounted (step (parks limit one) run)
parks_counted limit one run last counted = record {
  placed = λ key. parks_placed limit one run key counted;
  once = λ key. parks_once one run key last counted;
  early = λ key some. parks_early one run key last counted some;
  lent = still_parked (key_of one) run.lent run.parked counted.lent;
}

-- ---- one is lent

front_is_there : (waiting : List Parked) (lent : Lent) → front_of waiting ≡ Some lent → 0 < times (key_of_lent lent) (keys waiting)
front_is_there [] lent is = let bad : None ≡ Some lent = is in cc
front_is_there (x ∷ xs) lent is =
    let first : times (key_of x) (keys (x ∷ xs)) ≡ 1 + times (key_of x) (keys xs) = times_itself (key_of x) (keys xs) in
    let there : 0 < times (key_of x) (keys (x ∷ xs)) = omega arith in
    let same : record { number = x.number; arrival = x.arrival; octets = x.octets } ≡ lent = cc in
    subst (λ (it : Lent). 0 < times (key_of_lent it) (keys (x ∷ xs))) same there

lendable_is_there : (lane : LaneValue) (lent : Lent) → lendable lane ≡ Some lent → 0 < times (key_of_lent lent) (keys lane.waiting)
lendable_is_there lane lent is = by (cases_Bool lane.is_lent)
  where
    by : ((lane.is_lent ≡ true) ⊎ (lane.is_lent ≡ false)) → 0 < times (key_of_lent lent) (keys lane.waiting)
    by (inl busy) = let bad : None ≡ Some lent = rw busy at is in cc
    by (inr free) = front_is_there lane.waiting lent (rw free at is)

lends_counted : (lent : Option Lent) (run : Run) → lendable run.lane ≡ lent → IsCounted run → IsCounted (run_lent lent run)
lends_counted None run is counted = counted
lends_counted (Some lent) run is counted =
    let there : 0 < times (key_of_lent lent) (keys run.lane.waiting) = lendable_is_there run.lane lent is in
    let all : times (key_of_lent lent) run.parked ≡ times (key_of_lent lent) run.out + times (key_of_lent lent) (keys run.lane.waiting) + times (key_of_lent lent) run.dropped = counted.placed (key_of_lent lent) in
    record { placed = counted.placed; once = counted.once; early = counted.early; lent = omega arith }

-- ---- it is settled

taken_placed : (lent : Lent) (run : Run) (key : Key) → run.lent ≡ Some lent → RunIsOrdered run → IsCounted run
    → times key run.parked ≡ times key (run.out ++ key_of_lent lent ∷ []) + times key (keys (behind lent.number lent.arrival run.lane.waiting)) + times key (without (key_of_lent lent) (up_to lent run.lane.waiting ++ run.dropped))
taken_placed lent run key is ordered counted =
    let (after, came) = rw is at ordered.next in
    let not_out : times (key_of_lent lent) run.out ≡ 0 = times_behind (key_of_lent lent) run.out after in
    let not_behind : times (key_of_lent lent) (keys (behind lent.number lent.arrival run.lane.waiting)) ≡ 0 =
    times_before (key_of_lent lent) (keys (behind lent.number lent.arrival run.lane.waiting)) (behind_before lent.number lent.arrival run.lane.waiting ordered.line_rises) in
    let now = times_taken (key_of_lent lent) key run.out (keys (behind lent.number lent.arrival run.lane.waiting)) (up_to lent run.lane.waiting ++ run.dropped) not_out not_behind in
    let was : times key run.parked ≡ times key run.out + times key (keys run.lane.waiting) + times key run.dropped = counted.placed key in
    let parts : times key (keys run.lane.waiting) ≡ times key (up_to lent run.lane.waiting) + times key (keys (behind lent.number lent.arrival run.lane.waiting)) =
    times_take_drop key (position_or_len (is_behind lent.number lent.arrival) run.lane.waiting) run.lane.waiting in
    let gone : times key (up_to lent run.lane.waiting ++ run.dropped) ≡ times key (up_to lent run.lane.waiting) + times key run.dropped = times_append key (up_to lent run.lane.waiting) run.dropped in
    let total : times key run.parked ≡ times key run.out + times key (keys (behind lent.number lent.arrival run.lane.waiting)) + times key (up_to lent run.lane.waiting ++ run.dropped) = omega arith in
    by (cases_Bool (is_key key (key_of_lent lent))) now total
  where
    by : ((is_key key (key_of_lent lent) ≡ true) ⊎ (is_key key (key_of_lent lent) ≡ false))
        → times key (run.out ++ key_of_lent lent ∷ []) + times key (keys (behind lent.number lent.arrival run.lane.waiting)) + times key (without (key_of_lent lent) (up_to lent run.lane.waiting ++ run.dropped))
        ≡ (if is_key key (key_of_lent lent) then 1 else times key run.out + times key (keys (behind lent.number lent.arrival run.lane.waiting)) + times key (up_to lent run.lane.waiting ++ run.dropped))
        → times key run.parked ≡ times key run.out + times key (keys (behind lent.number lent.arrival run.lane.waiting)) + times key (up_to lent run.lane.waiting ++ run.dropped)
        → times key run.parked ≡ times key (run.out ++ key_of_lent lent ∷ []) + times key (keys (behind lent.number lent.arrival run.lane.waiting)) + times key (without (key_of_lent lent) (up_to lent run.lane.waiting ++ run.dropped))
    by (inl same) now total =
        let one : key ≡ key_of_lent lent = key_same key (key_of_lent lent) same in
        let there : IsParked (Some lent) run.parked = rw is at counted.lent in
        let some : 0 < times key run.parked = rw one there in
        let most : times key run.parked ≤ 1 = counted.once key in
        let alone = rw same at now in
        omega arith
    by (inr other) now total = let all = rw other at now in omega arith

taken_counted : (lent : Lent) (run : Run) → run.lent ≡ Some lent → RunIsOrdered run → IsCounted run → IsCounted (run_settled Taken (Some lent) run)
taken_counted lent run is ordered counted = record {
  placed = λ key. taken_placed lent run key is ordered counted;
  once = counted.once;
  early = counted.early;
  lent = tt;
}

refused_placed : (lent : Lent) (run : Run) (key : Key) → IsCounted run
    → times key run.parked ≡ times key run.out + times key (keys (filter (is_none_of lent.number lent.arrival) run.lane.waiting)) + times key (itself lent run.lane.waiting ++ run.dropped)
refused_placed lent run key counted =
    let was : times key run.parked ≡ times key run.out + times key (keys run.lane.waiting) + times key run.dropped = counted.placed key in
    let parts : times key (keys run.lane.waiting) ≡ times key (keys (filter (is_none_of lent.number lent.arrival) run.lane.waiting)) + times key (itself lent run.lane.waiting) = times_filters key (is_none_of lent.number lent.arrival) run.lane.waiting in
    let gone : times key (itself lent run.lane.waiting ++ run.dropped) ≡ times key (itself lent run.lane.waiting) + times key run.dropped = times_append key (itself lent run.lane.waiting) run.dropped in
    omega arith

refused_counted : (lent : Lent) (run : Run) → IsCounted run → IsCounted (run_settled Refused (Some lent) run)
refused_counted lent run counted = record {
  placed = λ key. refused_placed lent run key counted;
  once = counted.once;
  early = counted.early;
  lent = tt;
}

settled_counted : (outcome : Outcome) (lent : Option Lent) (run : Run) → run.lent ≡ lent → RunIsOrdered run → IsCounted run → IsCounted (run_settled outcome lent run)
settled_counted outcome None run is ordered counted = counted
settled_counted Refused (Some lent) run is ordered counted = refused_counted lent run counted
settled_counted Waits (Some lent) run is ordered counted = record { placed = counted.placed; once = counted.once; early = counted.early; lent = tt }
settled_counted Taken (Some lent) run is ordered counted = taken_counted lent run is ordered counted

-- ---- a transaction is forgotten

forgets_placed : (number : ℕ) (run : Run) (key : Key) → IsCounted run
    → times key run.parked ≡ times key run.out + times key (keys (filter (is_of_other number) run.lane.waiting)) + times key (of_number number run.lane.waiting ++ run.dropped)
forgets_placed number run key counted =
    let was : times key run.parked ≡ times key run.out + times key (keys run.lane.waiting) + times key run.dropped = counted.placed key in
    let parts : times key (keys run.lane.waiting) ≡ times key (keys (filter (is_of_other number) run.lane.waiting)) + times key (of_number number run.lane.waiting) = times_filters key (is_of_other number) run.lane.waiting in
    let gone : times key (of_number number run.lane.waiting ++ run.dropped) ≡ times key (of_number number run.lane.waiting) + times key run.dropped = times_append key (of_number number run.lane.waiting) run.dropped in
    omega arith

forgets_counted : (number : ℕ) (run : Run) → IsCounted run → IsCounted (step (forgets number) run)
forgets_counted number run counted = record {
  placed = λ key. forgets_placed number run key counted;
  once = counted.once;
  early = counted.early;
  lent = counted.lent;
}

-- ---- the last ones go

gives_way_placed : (run : Run) (key : Key) → IsCounted run
    → times key run.parked ≡ times key run.out + times key (keys (halved run.lane).waiting) + times key (given_up run.lane ++ run.dropped)
gives_way_placed run key counted =
    let count : ℕ = length (halved run.lane).waiting in
    let was : times key run.parked ≡ times key run.out + times key (keys run.lane.waiting) + times key run.dropped = counted.placed key in
    let parts : times key (keys run.lane.waiting) ≡ times key (keys (take count run.lane.waiting)) + times key (given_up run.lane) = times_take_drop key count run.lane.waiting in
    let these : take count run.lane.waiting ≡ (halved run.lane).waiting = fitting_is_front (costs run.lane.waiting / 2) run.lane.waiting in
    let fits : times key (keys run.lane.waiting) ≡ times key (keys (halved run.lane).waiting) + times key (given_up run.lane) =
    subst (λ (xs : List Parked). times key (keys run.lane.waiting) ≡ times key (keys xs) + times key (given_up run.lane)) these parts in
    let gone : times key (given_up run.lane ++ run.dropped) ≡ times key (given_up run.lane) + times key run.dropped = times_append key (given_up run.lane) run.dropped in
    omega arith

gives_way_counted : (run : Run) → IsCounted run → IsCounted (step gives_way run)
gives_way_counted run counted = record {
  placed = λ key. gives_way_placed run key counted;
  once = counted.once;
  early = counted.early;
  lent = counted.lent;
}

-- ---- every run

step_counted : (it : Move) (run : Run) → MayMove it run → RunIsOrdered run → IsCounted run → IsCounted (step it run)
step_counted (parks limit one) run (last, least) ordered counted = parks_counted limit one run last counted
step_counted lends run may ordered counted = lends_counted (lendable run.lane) run refl counted
step_counted (settles outcome) run may ordered counted = settled_counted outcome run.lent run refl ordered counted
step_counted (forgets number) run may ordered counted = forgets_counted number run counted
step_counted gives_way run may ordered counted = gives_way_counted run counted

runs_counted : (moves : List Move) → AreMoves moves → IsCounted (run_of moves)
runs_counted [] all = record { placed = λ key. refl; once = λ key. omega arith; early = λ key some. absurd (none some); lent = tt }
  where
    none : 0 < 0 → ⊥
    none it = omega arith
runs_counted (it ∷ moves) (may, all) = step_counted it (run_of moves) may (runs_ordered moves all) (runs_counted moves all)

pub accounted : (moves : List Move) (key : Key) → AreMoves moves → 0 < times key (run_of moves).parked → times key (line_of (run_of moves) ++ (run_of moves).dropped) ≡ 1
accounted moves key all some =
    let counted : IsCounted (run_of moves) = runs_counted moves all in
    let placed = counted.placed key in
    let most = counted.once key in
    let line : times key (line_of (run_of moves)) ≡ times key (run_of moves).out + times key (keys (run_of moves).lane.waiting) = times_append key (run_of moves).out (keys (run_of moves).lane.waiting) in
    let whole : times key (line_of (run_of moves) ++ (run_of moves).dropped) ≡ times key (line_of (run_of moves)) + times key (run_of moves).dropped = times_append key (line_of (run_of moves)) (run_of moves).dropped in
    omega arith
