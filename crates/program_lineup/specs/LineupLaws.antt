-- Meaning. The order of the transactions toward one entity, over any run, and which lane a choice names.
use Rattle.std.specs.Prelude.{◌≡◌, ℕ, ◌<◌, ◌==◌, ◌&&◌, Bool, true, false, not, List, [], ◌∷◌, length}
use Rattle.std.specs.List.{filter, list_any}
use Rattle.program_lineup.specs.declared.choice.Choice.TheVariants.{Goes}
use Rattle.program_lineup.specs.declared.choice.Standing.TheVariants.{Free}
use Rattle.program_lineup.specs.declared.sending_lane.SendingLane.{SendingLane}
use Rattle.program_lineup.specs.Lineups.{Numbers, choice, has_remainder, is_idle, is_open, standing, used}

-- what happens toward an entity
pub data Move : Type 0 where
  -- the outbox begins a transaction with a number, at a look at all sending lanes
  begins : (lanes : List SendingLane) (number : ℕ) → Move
  -- another transaction begins, with any number: one that a person put, or that uses up a number
  puts : (number : ℕ) → Move
  -- the transaction with a number ends at the sender
  ends : (number : ℕ) → Move

-- the numbers that were used, those of all transactions that began, the last one first, and of those that are open
pub record Run : Type 0 where
  pub numbers : Numbers
  pub begun : List ℕ
  pub unended : List ℕ

-- a number is not another one
abbrev pub is_other : ℕ → ℕ → Bool
is_other number other = not (other == number)

-- the run after a transaction with a number begins
abbrev pub begun_with : ℕ → Run → Run
begun_with number run = record { numbers = used number run.numbers; begun = number ∷ run.begun; unended = number ∷ run.unended }

abbrev pub step : Move → Run → Run
step (begins lanes number) run = begun_with number run
step (puts number) run = begun_with number run
step (ends number) run = record run { unended = filter (is_other number) run.unended }

abbrev pub run_of : Numbers → List Move → Run
run_of numbers [] = record { numbers = numbers; begun = []; unended = [] }
run_of numbers (move ∷ earlier) = step move (run_of numbers earlier)

-- each of these numbers is one of a transaction that some lane is seen to run toward the entity
abbrev pub AreSeen : Numbers → List SendingLane → List ℕ → Type 0
AreSeen numbers lanes [] = Unit {0}
AreSeen numbers lanes (number ∷ later) = (is_open numbers number lanes ≡ true) × AreSeen numbers lanes later

-- the outbox begins a transaction with a number that is free, at a look that shows all that are open; nothing is asked
-- of the others
abbrev pub MayMove : Move → Run → Type 0
MayMove (begins lanes number) run = (standing run.numbers lanes number ≡ Free) × AreSeen run.numbers lanes run.unended
MayMove (puts number) run = Unit {0}
MayMove (ends number) run = Unit {0}

-- the moves of a run, newest first, that begins with any numbers used
abbrev pub AreMoves : Numbers → List Move → Type 0
AreMoves numbers [] = Unit {0}
AreMoves numbers (move ∷ earlier) = MayMove move (run_of numbers earlier) × AreMoves numbers earlier

-- a number is above each of these that has the same remainder
abbrev pub IsAboveAll : ℕ → ℕ → List ℕ → Type 0
IsAboveAll lanes number [] = Unit {0}
IsAboveAll lanes number (earlier ∷ rest) = (has_remainder earlier number lanes ≡ true → earlier < number) × IsAboveAll lanes number rest

-- none of these has the same remainder
abbrev pub IsAlone : ℕ → ℕ → List ℕ → Type 0
IsAlone lanes number [] = Unit {0}
IsAlone lanes number (other ∷ rest) = (has_remainder other number lanes ≡ false) × IsAlone lanes number rest

-- toward an entity with lanes, a transaction that the outbox begins has a number above all that began with the same
-- remainder, and none of those is open, whoever began them
abbrev pub BeginsInOrder : ℕ → Move → Run → Type 0
BeginsInOrder lanes (begins seen number) run = IsAboveAll lanes number run.begun × IsAlone lanes number run.unended
BeginsInOrder lanes (puts number) run = Unit {0}
BeginsInOrder lanes (ends number) run = Unit {0}

abbrev pub AllInOrder : Numbers → List Move → Type 0
AllInOrder numbers [] = Unit {0}
AllInOrder numbers (move ∷ earlier) = BeginsInOrder (length numbers.greatest) move (run_of numbers earlier) × AllInOrder numbers earlier

abbrev pub RisesAlone : Type 0
RisesAlone = (numbers : Numbers) (moves : List Move) → 0 < length numbers.greatest → AreMoves numbers moves → AllInOrder numbers moves

-- ---- the lane that a choice names

-- some idle lane of the user has the number as its next
abbrev pub has_next : ℕ → List SendingLane → ℕ → Bool
has_next user lanes number = list_any (λ lane. is_idle user lane && (lane.next == number)) lanes

-- the number that goes is the next one of an idle lane of the user, and is free
abbrev pub GoesFree : Type 0
GoesFree = (user : ℕ) (numbers : Numbers) (lanes : List SendingLane) (number : ℕ) → choice user numbers lanes ≡ Goes number
    → (has_next user lanes number ≡ true) × (standing numbers lanes number ≡ Free)
