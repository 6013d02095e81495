-- Meaning. Reading from a lane behind a lock, which must be the right one.
use Rattle.std.specs.Prelude.{◌≡◌, ◌⊎◌, ◌==◌, ◌&&◌, Bool, Result, Ok, Err, IsOk, if◌then◌else◌}
use Rattle.txn_events.specs.declared.refusal.Refusal.{Refusal}
use Rattle.txn_events.specs.declared.refusal.Refusal.TheVariants as refusal
use Rattle.lane_table.specs.Lane.{State}
use Rattle.lane_table.specs.Steps.{plainly}
use Rattle.entity_routing.specs.declared.place.Place.{Place}
use Rattle.shared_lanes.specs.Held.{HeldValue}
use Rattle.entity_parts.specs.declared.refusal.EntityRefusal.{EntityRefusal}
use Rattle.entity_parts.specs.declared.refusal.EntityRefusal.TheVariants as answer

-- whether a lane is that of a place
abbrev pub is_lane_of : Place → State → Bool
is_lane_of place state = state.user == place.user && state.lane == place.lane

-- the result or refusal of a lane, as an answer of the entity
abbrev pub said_by_lane : {A : Type 0} → Result A Refusal → Result A EntityRefusal
said_by_lane (Ok given) = Ok given
said_by_lane (Err why) = Err (answer.Lane (plainly why))

-- the result of reading behind a lock, where the lane of a place is wanted; WrongLane where it is another
abbrev pub read_at : {A : Type 0} → Place → (State → Result A Refusal) → HeldValue → Result A EntityRefusal
read_at place reads held = if is_lane_of place held.lane then said_by_lane (reads held.lane) else Err answer.WrongLane

-- the result is the correct answer, or NoMemory
abbrev pub IsUpToMemory : {A : Type 0} → Result A EntityRefusal → Result A EntityRefusal → Type 0
IsUpToMemory due result = (result ≡ due) ⊎ (IsOk due × (result ≡ Err (answer.Lane (plainly refusal.NoMemory))))
