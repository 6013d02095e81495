-- Meaning. The order in which datagrams come out of a lane, and what becomes of each, over any run.
use Rattle.std.specs.Prelude.{◌≡◌, ℕ, ◌+◌, ◌<◌, ◌≤◌, ◌==◌, ◌&&◌, ◌⊎◌, Bool, true, false, not, if◌then◌else◌, List, [], ◌∷◌, ◌++◌, length, map, drop, take, Option, Some, None}
use Rattle.std.specs.List.{filter, position_or_len}
use Rattle.program_parking.specs.declared.parked.Parked.{Parked}
use Rattle.program_parking.specs.declared.parked.Lent.{Lent}
use Rattle.program_parking.specs.declared.outcome.Outcome.{Outcome}
use Rattle.program_parking.specs.declared.outcome.Outcome.TheVariants.{Taken, Refused, Waits}
use Rattle.program_parking.specs.Lanes.{LaneValue, halved, inserted, is_behind, is_none_of, is_of_other, lendable, parked_in, settled, within, without_number}

-- a datagram by its transaction's number and by its place in the order of arrival, which counts those of all lanes
pub record Key : Type 0 where
  pub number : ℕ
  pub arrival : ℕ

abbrev pub key_of : Parked → Key
key_of one = record { number = one.number; arrival = one.arrival }

abbrev pub key_of_lent : Lent → Key
key_of_lent lent = record { number = lent.number; arrival = lent.arrival }

-- whether one datagram is another, and how many times it is in a list
abbrev pub is_key : Key → Key → Bool
is_key key one = (one.number == key.number) && (one.arrival == key.arrival)

abbrev pub times : Key → List Key → ℕ
times key [] = 0
times key (one ∷ later) = (if is_key key one then 1 else 0) + times key later

-- ---- runs

-- what happens to a lane
pub data Move : Type 0 where
  -- a datagram is parked, where so many octets have room
  parks : (limit : ℕ) (one : Parked) → Move
  -- the first one is lent to be handed in
  lends : Move
  -- it was taken, or refused for good, or stays
  settles : (outcome : Outcome) → Move
  -- nothing waits any more of a transaction
  forgets : (number : ℕ) → Move
  -- memory ran out: the last ones go, until the others take up half as much at most
  gives_way : Move

-- a lane, and what is to be known of its run: the datagram that is lent, all that were parked, newest first, those that
-- were taken, oldest first, those that are gone otherwise, and a place after those of all that were parked
pub record Run : Type 0 where
  pub lane : LaneValue
  pub lent : Option Lent
  pub parked : List Key
  pub out : List Key
  pub dropped : List Key
  pub arrivals : ℕ

abbrev pub at_first : Run
at_first = record {
  lane = record { waiting = []; is_lent = false; floor = 0 };
  lent = None;
  parked = [];
  out = [];
  dropped = [];
  arrivals = 0;
}

-- those of a list after its first so many
abbrev pub keys_from : ℕ → List Parked → List Key
keys_from count waiting = map key_of (drop count waiting)

-- those that have no room with one more
abbrev pub without_room : ℕ → Parked → LaneValue → List Key
without_room limit one lane = keys_from (length (within limit (inserted one lane.waiting))) (inserted one lane.waiting)

-- those that go where memory ran out
abbrev pub given_up : LaneValue → List Key
given_up lane = keys_from (length (halved lane).waiting) lane.waiting

-- those that wait, up to the one that was handed in
abbrev pub up_to : Lent → List Parked → List Key
up_to lent waiting = map key_of (take (position_or_len (is_behind lent.number lent.arrival) waiting) waiting)

-- the one that was handed in, if it waits
abbrev pub itself : Lent → List Parked → List Key
itself lent waiting = map key_of (filter (λ one. not (is_none_of lent.number lent.arrival one)) waiting)

-- those that wait of a transaction
abbrev pub of_number : ℕ → List Parked → List Key
of_number number waiting = map key_of (filter (λ one. not (is_of_other number one)) waiting)

-- a list without one datagram
abbrev pub without : Key → List Key → List Key
without key keys = filter (λ one. not (is_key key one)) keys

-- the run after the first one is lent, if one can be
abbrev pub run_lent : Option Lent → Run → Run
run_lent None run = run
run_lent (Some lent) run = record run { lane = record run.lane { is_lent = true }; lent = Some lent }

-- the run after the datagram that is lent is settled: if it was taken, it is out, whatever became of it meanwhile, and
-- those that wait before it are gone otherwise; if it was refused for good, it alone is gone otherwise
abbrev pub run_settled : Outcome → Option Lent → Run → Run
run_settled outcome None run = run
run_settled Waits (Some lent) run = record run { lane = settled Waits lent.number lent.arrival run.lane; lent = None }
run_settled Refused (Some lent) run = record run {
  lane = settled Refused lent.number lent.arrival run.lane;
  lent = None;
  dropped = itself lent run.lane.waiting ++ run.dropped;
}
run_settled Taken (Some lent) run = record run {
  lane = settled Taken lent.number lent.arrival run.lane;
  lent = None;
  out = run.out ++ key_of_lent lent ∷ [];
  dropped = without (key_of_lent lent) (up_to lent run.lane.waiting ++ run.dropped);
}

abbrev pub step : Move → Run → Run
step (parks limit one) run = record run {
  lane = parked_in limit one run.lane;
  parked = key_of one ∷ run.parked;
  dropped = without_room limit one run.lane ++ run.dropped;
  arrivals = one.arrival + 1;
}
step lends run = run_lent (lendable run.lane) run
step (settles outcome) run = run_settled outcome run.lent run
step (forgets number) run = record run {
  lane = without_number number run.lane;
  dropped = of_number number run.lane.waiting ++ run.dropped;
}
step gives_way run = record run {
  lane = halved run.lane;
  dropped = given_up run.lane ++ run.dropped;
}

-- a move may be made: only datagrams that don't come too late are parked, each with a place after all before it
abbrev pub MayMove : Move → Run → Type 0
MayMove (parks limit one) run = (run.arrivals ≤ one.arrival) × (run.lane.floor ≤ one.number)
MayMove lends run = Unit {0}
MayMove (settles outcome) run = Unit {0}
MayMove (forgets number) run = Unit {0}
MayMove gives_way run = Unit {0}

-- the run after some moves, newest first
abbrev pub run_of : List Move → Run
run_of [] = at_first
run_of (move ∷ earlier) = step move (run_of earlier)

abbrev pub AreMoves : List Move → Type 0
AreMoves [] = Unit {0}
AreMoves (move ∷ earlier) = MayMove move (run_of earlier) × AreMoves earlier

-- ---- order

-- a datagram has a lower number than another or, with the same number, came before it
abbrev pub ComesBefore : Key → Key → Type 0
ComesBefore one other = (one.number < other.number) ⊎ ((one.number ≡ other.number) × (one.arrival < other.arrival))

-- it comes before each of these
abbrev pub IsBefore : Key → List Key → Type 0
IsBefore one [] = Unit {0}
IsBefore one (other ∷ later) = ComesBefore one other × IsBefore one later

-- each comes before all that follow it
abbrev pub IsRising : List Key → Type 0
IsRising [] = Unit {0}
IsRising (one ∷ later) = IsBefore one later × IsRising later

-- what was taken and what waits, in this order
abbrev pub line_of : Run → List Key
line_of run = run.out ++ map key_of run.lane.waiting

-- by number and, within a number, by arrival; so none is taken twice, nor waits then
abbrev pub ComesOutInOrder : Type 0
ComesOutInOrder = (moves : List Move) → AreMoves moves → IsRising (line_of (run_of moves))

-- ---- nothing is lost

-- each datagram that was parked is once among those that were taken, that wait, or that are gone otherwise
abbrev pub AccountsForEach : Type 0
AccountsForEach = (moves : List Move) (key : Key) → AreMoves moves → 0 < times key (run_of moves).parked
    → times key (line_of (run_of moves) ++ (run_of moves).dropped) ≡ 1
