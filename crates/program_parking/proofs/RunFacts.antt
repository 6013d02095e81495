-- What every run of a lane keeps.
use Rattle.std.proofs.Common.{◌≡◌, ℕ, ◌+◌, ◌/◌, ◌<◌, ◌≤◌, Bool, true, false, max, List, [], ◌∷◌, ◌++◌, Option, Some, None, length, take, refl, sym, subst, arith}
use Rattle.std.specs.List.{filter, position_or_len}
use Rattle.program_parking.specs.declared.parked.Parked.{Parked}
use Rattle.program_parking.specs.declared.parked.Lent.{Lent}
use Rattle.program_parking.specs.declared.outcome.Outcome.{Outcome}
use Rattle.program_parking.specs.declared.outcome.Outcome.TheVariants.{Taken, Refused, Waits}
use Rattle.program_parking.specs.Lanes.{LaneValue, behind, costs, halved, inserted, is_behind, is_none_of, is_of_other, lendable, within}
use Rattle.program_parking.proofs.PlaceFacts.{fitting_is_front}
use Rattle.program_parking.specs.ParkingLaws.{AreMoves, IsRising, Key, MayMove, Move, Run, forgets, gives_way, key_of, key_of_lent, lends, line_of, parks, run_lent, run_of, run_settled, settles, step}
use Rattle.program_parking.proofs.LineFacts.{AreBefore, AreEarly, AreLow, apart_drop, apart_filter, apart_inserted, apart_take, are_before_append, behind_before, early_drop, early_filter, early_inserted, early_more, early_take, keys, low_append, low_more, rising_append, rising_drop, rising_filter, rising_inserted, rising_take, within_is}

-- of the datagram that is lent: it comes after all that were taken
abbrev pub IsNext : Option Lent → List Key → ℕ → Type 0
IsNext None out arrivals = Unit {0}
IsNext (Some lent) out arrivals = AreBefore out (key_of_lent lent ∷ []) × (lent.arrival < arrivals)

pub record IsOrdered (lane : LaneValue) (lent : Option Lent) (out : List Key) (arrivals : ℕ) : Type 0 where
  pub out_rises : IsRising out
  pub line_rises : IsRising (keys lane.waiting)
  pub apart : AreBefore out (keys lane.waiting)
  pub low : AreLow lane.floor arrivals out
  pub early : AreEarly arrivals lane.waiting
  pub next : IsNext lent out arrivals

next_later : (lent : Option Lent) (out : List Key) (arrivals later : ℕ) → arrivals ≤ later → IsNext lent out arrivals → IsNext lent out later
next_later None out arrivals later last next = tt
next_later (Some lent) out arrivals later last (apart, came) = (apart, omega arith)

-- ---- a datagram is parked

parked_ordered : (limit : ℕ) (one : Parked) (lane : LaneValue) (lent : Option Lent) (out : List Key) (arrivals : ℕ) → arrivals ≤ one.arrival → lane.floor ≤ one.number
    → IsOrdered lane lent out arrivals → IsOrdered (record lane { waiting = within limit (inserted one lane.waiting) }) lent out (one.arrival + 1)
parked_ordered limit one lane lent out arrivals last least ordered =
    let count : ℕ = length (within limit (inserted one lane.waiting)) in
    let early : AreEarly one.arrival lane.waiting = early_more arrivals one.arrival lane.waiting last ordered.early in
    let low : AreLow lane.floor one.arrival out = low_more out lane.floor lane.floor arrivals one.arrival (omega arith) last ordered.low in
    let rises : IsRising (keys (take count (inserted one lane.waiting))) = rising_take count (inserted one lane.waiting) (rising_inserted one lane.waiting early ordered.line_rises) in
    let apart : AreBefore out (keys (take count (inserted one lane.waiting))) = apart_take out count (inserted one lane.waiting) (apart_inserted out lane.floor one lane.waiting low least ordered.apart) in
    let came : AreEarly (one.arrival + 1) (take count (inserted one lane.waiting)) = early_take (one.arrival + 1) count (inserted one lane.waiting) (early_inserted (one.arrival + 1) one lane.waiting (omega arith) early) in
    let these : within limit (inserted one lane.waiting) ≡ take count (inserted one lane.waiting) = within_is limit (inserted one lane.waiting) in
    let P : List Parked → Type 0 = λ xs. IsRising (keys xs) × AreBefore out (keys xs) × AreEarly (one.arrival + 1) xs in
    let (r, a, e) = subst P (sym these) (rises, apart, came) in
    record {
      out_rises = ordered.out_rises;
      line_rises = r;
      apart = a;
      low = low_more out lane.floor lane.floor one.arrival (one.arrival + 1) (omega arith) (omega arith) low;
      early = e;
      next = next_later lent out arrivals (one.arrival + 1) (omega arith) ordered.next;
    }

-- ---- one is lent

lent_next : (lane : LaneValue) (out : List Key) (arrivals : ℕ) → AreBefore out (keys lane.waiting) → AreEarly arrivals lane.waiting → IsNext (lendable lane) out arrivals
lent_next lane out arrivals apart early = by lane.is_lent lane.waiting apart early
  where
    first_of : (ks : List Key) (k : Key) (rest : List Key) → AreBefore ks (k ∷ rest) → AreBefore ks (k ∷ [])
    first_of [] k rest all = tt
    first_of (other ∷ ks) k rest ((here, later), all) = ((here, tt), first_of ks k rest all)

    by : (b : Bool) (xs : List Parked) → AreBefore out (keys xs) → AreEarly arrivals xs → IsNext (lendable (record lane { is_lent = b; waiting = xs })) out arrivals
    by true xs all came = tt
    by false [] all came = tt
    by false (x ∷ xs) all (here, came) = (first_of out (key_of x) (keys xs) all, here)

lent_ordered : (lane : LaneValue) (before : Option Lent) (lent : Lent) (out : List Key) (arrivals : ℕ) → lendable lane ≡ Some lent → IsOrdered lane before out arrivals
    → IsOrdered (record lane { is_lent = true }) (Some lent) out arrivals
lent_ordered lane before lent out arrivals is ordered = record {
  out_rises = ordered.out_rises;
  line_rises = ordered.line_rises;
  apart = ordered.apart;
  low = ordered.low;
  early = ordered.early;
  next = subst (λ (it : Option Lent). IsNext it out arrivals) is (lent_next lane out arrivals ordered.apart ordered.early);
}

-- ---- it is settled

taken_ordered : (lane : LaneValue) (lent : Lent) (out : List Key) (arrivals : ℕ) → IsOrdered lane (Some lent) out arrivals
    → IsOrdered (record { waiting = behind lent.number lent.arrival lane.waiting; is_lent = false; floor = max lane.floor lent.number }) None (out ++ key_of_lent lent ∷ []) arrivals
taken_ordered lane lent out arrivals ordered =
    let (after, came) = ordered.next in
    let count : ℕ = position_or_len (is_behind lent.number lent.arrival) lane.waiting in
    let low : AreLow (max lane.floor lent.number) arrivals out = low_more out lane.floor (max lane.floor lent.number) arrivals arrivals (omega arith) (omega arith) ordered.low in
    record {
      out_rises = rising_append out (key_of_lent lent ∷ []) ordered.out_rises (tt, tt) after;
      line_rises = rising_drop count lane.waiting ordered.line_rises;
      apart = are_before_append out (key_of_lent lent) (keys (behind lent.number lent.arrival lane.waiting)) (apart_drop out count lane.waiting ordered.apart) (behind_before lent.number lent.arrival lane.waiting ordered.line_rises);
      low = low_append out (max lane.floor lent.number) arrivals (key_of_lent lent) low (omega arith) came;
      early = early_drop arrivals count lane.waiting ordered.early;
      next = tt;
    }

kept_ordered : (lane : LaneValue) (lent : Lent) (out : List Key) (arrivals : ℕ) → IsOrdered lane (Some lent) out arrivals → IsOrdered (record lane { is_lent = false }) None out arrivals
kept_ordered lane lent out arrivals ordered = record {
  out_rises = ordered.out_rises;
  line_rises = ordered.line_rises;
  apart = ordered.apart;
  low = ordered.low;
  early = ordered.early;
  next = tt;
}

refused_ordered : (lane : LaneValue) (lent : Lent) (out : List Key) (arrivals : ℕ) → IsOrdered lane (Some lent) out arrivals
    → IsOrdered (record lane { waiting = filter (is_none_of lent.number lent.arrival) lane.waiting; is_lent = false }) None out arrivals
refused_ordered lane lent out arrivals ordered = record {
  out_rises = ordered.out_rises;
  line_rises = rising_filter (is_none_of lent.number lent.arrival) lane.waiting ordered.line_rises;
  apart = apart_filter out (is_none_of lent.number lent.arrival) lane.waiting ordered.apart;
  low = ordered.low;
  early = early_filter arrivals (is_none_of lent.number lent.arrival) lane.waiting ordered.early;
  next = tt;
}

-- ---- a transaction is forgotten

forgotten_ordered : (number : ℕ) (lane : LaneValue) (lent : Option Lent) (out : List Key) (arrivals : ℕ) → IsOrdered lane lent out arrivals
    → IsOrdered (record lane { waiting = filter (is_of_other number) lane.waiting }) lent out arrivals
forgotten_ordered number lane lent out arrivals ordered = record {
  out_rises = ordered.out_rises;
  line_rises = rising_filter (is_of_other number) lane.waiting ordered.line_rises;
  apart = apart_filter out (is_of_other number) lane.waiting ordered.apart;
  low = ordered.low;
  early = early_filter arrivals (is_of_other number) lane.waiting ordered.early;
  next = ordered.next;
}

-- ---- the last ones go

halved_ordered : (lane : LaneValue) (lent : Option Lent) (out : List Key) (arrivals : ℕ) → IsOrdered lane lent out arrivals → IsOrdered (halved lane) lent out arrivals
halved_ordered lane lent out arrivals ordered =
    let count : ℕ = length (halved lane).waiting in
    let rises : IsRising (keys (take count lane.waiting)) = rising_take count lane.waiting ordered.line_rises in
    let apart : AreBefore out (keys (take count lane.waiting)) = apart_take out count lane.waiting ordered.apart in
    let came : AreEarly arrivals (take count lane.waiting) = early_take arrivals count lane.waiting ordered.early in
    let these : take count lane.waiting ≡ (halved lane).waiting = fitting_is_front (costs lane.waiting / 2) lane.waiting in
    let P : List Parked → Type 0 = λ xs. IsRising (keys xs) × AreBefore out (keys xs) × AreEarly arrivals xs in
    let (r, a, e) = subst P these (rises, apart, came) in
    record {
      out_rises = ordered.out_rises;
      line_rises = r;
      apart = a;
      low = ordered.low;
      early = e;
      next = ordered.next;
    }

-- ---- every run

abbrev pub RunIsOrdered : Run → Type 0
RunIsOrdered run = IsOrdered run.lane run.lent run.out run.arrivals

run_lent_ordered : (lent : Option Lent) (run : Run) → lendable run.lane ≡ lent → RunIsOrdered run → RunIsOrdered (run_lent lent run)
run_lent_ordered None run is ordered = ordered
run_lent_ordered (Some lent) run is ordered = lent_ordered run.lane run.lent lent run.out run.arrivals is ordered

settled_ordered : (outcome : Outcome) (lent : Option Lent) (run : Run) → run.lent ≡ lent → RunIsOrdered run → RunIsOrdered (run_settled outcome lent run)
settled_ordered outcome None run is ordered = ordered
settled_ordered Refused (Some lent) run is ordered = refused_ordered run.lane lent run.out run.arrivals (rw is at ordered)
settled_ordered Waits (Some lent) run is ordered = kept_ordered run.lane lent run.out run.arrivals (rw is at ordered)
settled_ordered Taken (Some lent) run is ordered = taken_ordered run.lane lent run.out run.arrivals (rw is at ordered)

step_ordered : (it : Move) (run : Run) → MayMove it run → RunIsOrdered run → RunIsOrdered (step it run)
step_ordered (parks limit one) run (last, least) ordered = parked_ordered limit one run.lane run.lent run.out run.arrivals last least ordered
step_ordered lends run may ordered = run_lent_ordered (lendable run.lane) run refl ordered
step_ordered (settles outcome) run may ordered = settled_ordered outcome run.lent run refl ordered
step_ordered (forgets number) run may ordered = forgotten_ordered number run.lane run.lent run.out run.arrivals ordered
step_ordered gives_way run may ordered = halved_ordered run.lane run.lent run.out run.arrivals ordered

pub runs_ordered : (moves : List Move) → AreMoves moves → RunIsOrdered (run_of moves)
runs_ordered [] all = record { out_rises = tt; line_rises = tt; apart = tt; low = tt; early = tt; next = tt }
runs_ordered (it ∷ moves) (may, all) = step_ordered it (run_of moves) may (runs_ordered moves all)

pub line_ordered : (moves : List Move) → AreMoves moves → IsRising (line_of (run_of moves))
line_ordered moves all =
    let ordered : RunIsOrdered (run_of moves) = runs_ordered moves all in
    rising_append (run_of moves).out (keys (run_of moves).lane.waiting) ordered.out_rises ordered.line_rises ordered.apart
