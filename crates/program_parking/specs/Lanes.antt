-- Meaning. The datagrams that wait for one lane, and what becomes of them.
use Rattle.std.specs.Prelude.{ℕ, ◌+◌, ◌-◌, ◌/◌, ◌==◌, ◌||◌, ◌&&◌, min, max, Bool, true, false, not, nat_le, nat_lt, if◌then◌else◌, List, [], ◌∷◌, length, fold, take, drop, Option, Some, None}
use Rattle.std.specs.List.{filter, insert, position_or_len, sum_by}
use Rattle.program_parking.specs.declared.parked.Parked.{Parked}
use Rattle.program_parking.specs.declared.counted.Counted.{Counted}
use Rattle.program_parking.specs.declared.outcome.Outcome.{Outcome}
use Rattle.program_parking.specs.declared.outcome.Outcome.TheVariants.{Taken, Refused, Waits}
use Rattle.program_parking.specs.declared.parked.Lent.{Lent}

-- the datagrams that wait, in the order in which they are handed in; whether the first one is being handed in; the
-- greatest number of which the lane took a datagram
pub record LaneValue : Type 0 where
  pub waiting : List Parked
  pub is_lent : Bool
  pub floor : ℕ

-- how much of the room a datagram takes up: its octets and 64 more
abbrev pub cost : Parked → ℕ
cost one = min (length one.octets + 64) 18446744073709551615

abbrev pub costs : List Parked → ℕ
costs waiting = sum_by cost waiting

-- ---- order

-- a datagram's transaction has a number above this one
abbrev pub is_above : ℕ → Parked → Bool
is_above number one = nat_lt number one.number

-- one more datagram waits: after all whose numbers aren't above its own
abbrev pub inserted : Parked → List Parked → List Parked
inserted one waiting = insert waiting (position_or_len (is_above one.number) waiting) one

-- ---- room

-- the first datagrams, as many as fit into some octets
abbrev pub fitting : ℕ → List Parked → List Parked
fitting limit [] = []
fitting limit (one ∷ later) = if nat_le (cost one) limit then one ∷ fitting (limit - cost one) later else []

-- of the first 16,384
abbrev pub within : ℕ → List Parked → List Parked
within limit waiting = fitting limit (take 16384 waiting)

-- one more datagram waits; where there is no room, the last ones, of the highest numbers, go
abbrev pub parked_in : ℕ → Parked → LaneValue → LaneValue
parked_in limit one lane = record lane { waiting = within limit (inserted one lane.waiting) }

-- the last datagrams, those of the highest numbers, go until the others take up half as much at most
abbrev pub halved : LaneValue → LaneValue
halved lane = record lane { waiting = fitting (costs lane.waiting / 2) lane.waiting }

-- the last datagrams, those of the highest numbers, go until the others take up so much at most
abbrev pub shortened : ℕ → LaneValue → LaneValue
shortened limit lane = record lane { waiting = fitting limit lane.waiting }

-- ---- handing in

-- the datagram that is handed in next, unless one is being handed in
abbrev pub front_of : List Parked → Option Lent
front_of [] = None
front_of (one ∷ later) = Some (record { number = one.number; arrival = one.arrival; octets = one.octets })

abbrev pub lendable : LaneValue → Option Lent
lendable lane = if lane.is_lent then None else front_of lane.waiting

-- the lane while that one is being handed in, if there is one
abbrev pub lent_of : Option Lent → LaneValue → LaneValue
lent_of None lane = lane
lent_of (Some lent) lane = record lane { is_lent = true }

abbrev pub lending : LaneValue → LaneValue
lending lane = lent_of (lendable lane) lane

-- a datagram is the one with this number and arrival
abbrev pub is_one : ℕ → ℕ → Parked → Bool
is_one number arrival one = (one.number == number) && (one.arrival == arrival)

-- a datagram comes after the one with this number and arrival
abbrev pub is_behind : ℕ → ℕ → Parked → Bool
is_behind number arrival one = nat_lt number one.number || ((one.number == number) && nat_lt arrival one.arrival)

-- those from the first one on that comes after it
abbrev pub behind : ℕ → ℕ → List Parked → List Parked
behind number arrival waiting = drop (position_or_len (is_behind number arrival) waiting) waiting

-- the lane took the datagram: it is gone, and so is what came before it
abbrev pub handed_in : ℕ → ℕ → LaneValue → LaneValue
handed_in number arrival lane = record {
  waiting = behind number arrival lane.waiting;
  is_lent = false;
  floor = max lane.floor number;
}

-- a datagram is not the one with this number and arrival
abbrev pub is_none_of : ℕ → ℕ → Parked → Bool
is_none_of number arrival one = not (is_one number arrival one)

-- the datagram was refused for good: it alone is gone
abbrev pub turned_away : ℕ → ℕ → LaneValue → LaneValue
turned_away number arrival lane = record lane { waiting = filter (is_none_of number arrival) lane.waiting; is_lent = false }

-- the datagram that was being handed in was taken, or refused for good, or stays where it is
abbrev pub settled : Outcome → ℕ → ℕ → LaneValue → LaneValue
settled Taken number arrival lane = handed_in number arrival lane
settled Refused number arrival lane = turned_away number arrival lane
settled Waits number arrival lane = record lane { is_lent = false }

-- ---- one transaction

-- a datagram is not of the transaction with this number
abbrev pub is_of_other : ℕ → Parked → Bool
is_of_other number one = not (one.number == number)

-- nothing waits of the transaction with this number
abbrev pub without_number : ℕ → LaneValue → LaneValue
without_number number lane = record lane { waiting = filter (is_of_other number) lane.waiting }

-- the first datagram that waits has a number that isn't above this one
abbrev pub is_crowded : ℕ → List Parked → Bool
is_crowded number [] = false
is_crowded number (one ∷ later) = nat_le one.number number

-- how many transactions a line of datagrams has, with one more datagram: one more where the number changes
abbrev pub is_last : ℕ → Option ℕ → Bool
is_last number None = false
is_last number (Some last) = last == number

abbrev pub counted : Counted → ℕ → Counted
counted before number =
    if is_last number before.last then before
    else record { last = Some number; count = min (before.count + 1) 18446744073709551615 }

-- how many transactions wait
abbrev pub transactions : List Parked → ℕ
transactions waiting = (fold (λ before one. counted before one.number) (record { last = None; count = 0 }) waiting).count

-- since when the oldest one waits, or the greatest moment of 64 bits where none does
abbrev pub oldest : List Parked → ℕ
oldest waiting = fold (λ least one. min least one.since) 18446744073709551615 waiting
