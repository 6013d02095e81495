-- Meaning. Which sending lane begins the next transaction toward an entity whose receiving lanes take rising numbers.
use Rattle.std.specs.Prelude.{ℕ, ◌%◌, ◌==◌, ◌&&◌, ◌||◌, min, max, Bool, true, false, not, nat_lt, if◌then◌else◌, List, [], ◌∷◌, length, fold, find, map, set, replicate, slice_get, Option, Some, None}
use Rattle.std.specs.List.{list_any}
use Rattle.cfdp_types.specs.declared.key.EntityId.{EntityId}
use Rattle.program_lineup.specs.declared.choice.Choice.{Choice}
use Rattle.program_lineup.specs.declared.choice.Choice.TheVariants.{Goes, Skips, Waits}
use Rattle.program_lineup.specs.declared.choice.Standing.{Standing}
use Rattle.program_lineup.specs.declared.choice.Standing.TheVariants.{Free, Awaits, Lags}
use Rattle.program_lineup.specs.declared.sending_lane.Running.{Running}
use Rattle.program_lineup.specs.declared.sending_lane.SendingLane.{SendingLane}

-- an entity; and for each remainder by its number of lanes the greatest number used toward it. An entity that takes any
-- number has no remainders.
pub record Numbers : Type 0 where
  pub peer : EntityId
  pub greatest : List (Option ℕ)

-- ---- one number

-- a number is above another, if there is one
abbrev pub is_above : ℕ → Option ℕ → Bool
is_above number None = true
is_above number (Some other) = nat_lt other number

-- the greatest number that was used with the same remainder is below this one
abbrev pub is_above_used : ℕ → Option (Option ℕ) → Bool
is_above_used number None = true
is_above_used number (Some used) = is_above number used

abbrev pub rises : Numbers → ℕ → Bool
rises numbers number = is_above_used number (slice_get numbers.greatest (number % length numbers.greatest))

-- two numbers have the same remainder
abbrev pub has_remainder : ℕ → ℕ → ℕ → Bool
has_remainder one other lanes = one % lanes == other % lanes

-- a lane runs a transaction toward the entity whose number has the same remainder
abbrev pub is_open_with : Numbers → ℕ → Option Running → Bool
is_open_with numbers number None = false
is_open_with numbers number (Some running) =
    (running.peer.0 == numbers.peer.0) && has_remainder running.number number (length numbers.greatest)

abbrev pub is_open : Numbers → ℕ → List SendingLane → Bool
is_open numbers number lanes = list_any (λ lane. is_open_with numbers number lane.running) lanes

-- how the number stands
abbrev pub standing : Numbers → List SendingLane → ℕ → Standing
standing numbers lanes number =
    if length numbers.greatest == 0 then Free
    else (if not (rises numbers number) then Lags
    else (if is_open numbers number lanes then Awaits else Free))

-- ---- all lanes

-- a lane is one of the user's, and runs nothing
abbrev pub is_idle : ℕ → SendingLane → Bool
is_idle user lane = (lane.user == user) && is_none lane.running
  where
    is_none : Option Running → Bool
    is_none None = true
    is_none (Some running) = false

-- it is idle, and its next number stands so
abbrev pub is_so : Standing → Standing → Bool
is_so Free Free = true
is_so Awaits Awaits = true
is_so Lags Lags = true
is_so one other = false

abbrev pub stands : Standing → ℕ → Numbers → List SendingLane → SendingLane → Bool
stands wanted user numbers lanes lane = is_idle user lane && is_so wanted (standing numbers lanes lane.next)

-- the least of some numbers with one more, and the greatest
abbrev pub least : Option ℕ → ℕ → Option ℕ
least None number = Some number
least (Some other) number = Some (min other number)

abbrev pub most : Option ℕ → ℕ → Option ℕ
most None number = Some number
most (Some other) number = Some (max other number)

-- the lowest next number of a lane that may begin, and the highest of one that lags
abbrev pub lowest : ℕ → Numbers → List SendingLane → Option ℕ
lowest user numbers lanes = fold (λ best lane. if stands Free user numbers lanes lane then least best lane.next else best) None lanes

abbrev pub highest : ℕ → Numbers → List SendingLane → Option ℕ
highest user numbers lanes = fold (λ best lane. if stands Lags user numbers lanes lane then most best lane.next else best) None lanes

-- some idle lane waits for a transaction to end
abbrev pub is_awaiting : ℕ → Numbers → List SendingLane → Bool
is_awaiting user numbers lanes = list_any (stands Awaits user numbers lanes) lanes

-- the lowest number that may go; or, where all idle lanes lag, the highest one is used up
abbrev pub skipped_or : Option ℕ → Choice
skipped_or None = Waits
skipped_or (Some number) = Skips number

abbrev pub chosen : Option ℕ → Bool → Option ℕ → Choice
chosen (Some number) awaits lags = Goes number
chosen None true lags = Waits
chosen None false lags = skipped_or lags

abbrev pub choice : ℕ → Numbers → List SendingLane → Choice
choice user numbers lanes = chosen (lowest user numbers lanes) (is_awaiting user numbers lanes) (highest user numbers lanes)

-- ---- what was used

-- a number was used toward the entity
abbrev pub used_at : ℕ → ℕ → Option (Option ℕ) → List (Option ℕ) → List (Option ℕ)
used_at place number None greatest = greatest
used_at place number (Some before) greatest = set greatest place (most before number)

abbrev pub used : ℕ → Numbers → Numbers
used number numbers = record numbers {
  greatest = used_at (number % length numbers.greatest) number (slice_get numbers.greatest (number % length numbers.greatest)) numbers.greatest;
}

-- an entity with so many lanes, toward which no number was used
abbrev pub unused : ℕ → List (Option ℕ)
unused lanes = replicate lanes None
