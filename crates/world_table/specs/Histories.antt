-- Meaning. What happens in an entity of one thread: lanes accept events, and users take their indications.
use Rattle.std.specs.Prelude.{◌≡◌, ℕ, ◌==◌, Bool, ◌&&◌, if◌then◌else◌, List, [], ◌∷◌, ◌++◌, Option, Some, None}
use Rattle.indications.specs.declared.bundle.Bundle.{Bundle}
use Rattle.txn_events.specs.declared.event.Event.{Event}
use Rattle.lane_table.specs.Lane.{State, idle, IsNumbered, log_from}
use Rattle.lane_table.specs.Logs.{Log}
use Rattle.lane_table.specs.Steps.{IsKeyed, refusal_at, stepped}
use Rattle.lane_table.specs.Keeping.{bundle_of, events_of}

-- a lane of a user accepts an event, or a user takes the bundle at the front
pub data Happening : Type 0 where
  steps : ℕ → ℕ → Event → Happening
  takes : ℕ → Happening

-- ---- lanes, by user and lane; a history has the newest happening first

-- whether both are the same lane of the same user
abbrev pub is_at : ℕ → ℕ → ℕ → ℕ → Bool
is_at user lane of_user of_lane = user == of_user && lane == of_lane

-- the state of a lane after a history
abbrev pub lane_after : (ℕ → ℕ → State) → List Happening → ℕ → ℕ → State
lane_after lanes [] of_user of_lane = lanes of_user of_lane
lane_after lanes (steps user lane event ∷ earlier) of_user of_lane =
    if is_at user lane of_user of_lane then stepped (lane_after lanes earlier user lane) event else lane_after lanes earlier of_user of_lane
lane_after lanes (takes user ∷ earlier) of_user of_lane = lane_after lanes earlier of_user of_lane

-- the events that a lane accepted, oldest first
abbrev pub events_at : List Happening → ℕ → ℕ → List Event
events_at [] of_user of_lane = []
events_at (steps user lane event ∷ earlier) of_user of_lane =
    if is_at user lane of_user of_lane then events_at earlier of_user of_lane ++ event ∷ [] else events_at earlier of_user of_lane
events_at (takes user ∷ earlier) of_user of_lane = events_at earlier of_user of_lane

-- the events of a lane's transaction with a number
abbrev pub events_for : (ℕ → ℕ → State) → List Happening → ℕ → ℕ → ℕ → List Event
events_for lanes history user lane number = events_of number (lanes user lane) (events_at history user lane)

-- the log of these events, if there are any
abbrev pub log_for : (ℕ → ℕ → State) → List Happening → ℕ → ℕ → ℕ → Option Log
log_for lanes history user lane number =
    log_from (lanes user lane).side (lanes user lane).source (Some number) (events_for lanes history user lane number)

-- ---- users

-- the bundle that a step issues, if any
abbrev pub told_by : (ℕ → ℕ → State) → List Happening → ℕ → ℕ → Event → List Bundle
told_by lanes earlier user lane event = bundle_of (stepped (lane_after lanes earlier user lane) event)

-- the bundle at the front, if there is one
abbrev pub front_of : List Bundle → List Bundle
front_of [] = []
front_of (bundle ∷ rest) = bundle ∷ []

-- the bundles after the front one
abbrev pub rest_of : List Bundle → List Bundle
rest_of [] = []
rest_of (bundle ∷ rest) = rest

-- all that the lanes of a user issued, in order
abbrev pub mine : (ℕ → ℕ → State) → List Happening → ℕ → List Bundle
mine lanes [] of_user = []
mine lanes (steps user lane event ∷ earlier) of_user =
    if user == of_user then mine lanes earlier of_user ++ told_by lanes earlier user lane event else mine lanes earlier of_user
mine lanes (takes user ∷ earlier) of_user = mine lanes earlier of_user

-- what waits for a user
abbrev pub held_for : (ℕ → ℕ → State) → List Happening → ℕ → List Bundle
held_for lanes [] of_user = []
held_for lanes (steps user lane event ∷ earlier) of_user =
    if user == of_user then held_for lanes earlier of_user ++ told_by lanes earlier user lane event else held_for lanes earlier of_user
held_for lanes (takes user ∷ earlier) of_user =
    if user == of_user then rest_of (held_for lanes earlier of_user) else held_for lanes earlier of_user

-- what a user took, in order
abbrev pub taken_by : (ℕ → ℕ → State) → List Happening → ℕ → List Bundle
taken_by lanes [] of_user = []
taken_by lanes (steps user lane event ∷ earlier) of_user = taken_by lanes earlier of_user
taken_by lanes (takes user ∷ earlier) of_user =
    if user == of_user then taken_by lanes earlier of_user ++ front_of (held_for lanes earlier of_user) else taken_by lanes earlier of_user

-- ---- legal histories

-- no lane has opened a transaction yet, and each has its user and number
pub record AreIdle (lanes : ℕ → ℕ → State) : Type 0 where
  pub numbered : (user lane : ℕ) → IsNumbered (lanes user lane).side
  pub idle_is : (user lane : ℕ) → lanes user lane ≡ idle (lanes user lane).side user lane (lanes user lane).source

-- each event was accepted by its lane, and a user took a bundle only where one was waiting
abbrev pub IsHistory : (ℕ → ℕ → State) → List Happening → Type 0
IsHistory lanes [] = Unit {0}
IsHistory lanes (steps user lane event ∷ earlier) =
    IsKeyed event × (refusal_at (lane_after lanes earlier user lane) event ≡ None) × IsHistory lanes earlier
IsHistory lanes (takes user ∷ earlier) = ((held_for lanes earlier user ≡ []) → ⊥) × IsHistory lanes earlier
