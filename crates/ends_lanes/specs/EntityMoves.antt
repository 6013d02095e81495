-- Meaning. Steps in an entity of one thread, as moves of the ends that its lanes run.
use Rattle.std.specs.Prelude.{ℕ, List, ◌∷◌}
use Rattle.indications.specs.declared.side.Side.{Side}
use Rattle.txn_events.specs.declared.event.Event.{Event}
use Rattle.sender_table.specs.Sending.{Sending}
use Rattle.receiver_table.specs.Reception.{Reception}
use Rattle.lane_table.specs.Lane.{State}
use Rattle.ends_schedules.specs.Schedules.{Move}
use Rattle.world_table.specs.Histories.{Happening, steps, lane_after, AreIdle, IsHistory}
use Rattle.ends_lanes.specs.LaneMoves.{ComesTo, HasMoved}

-- where a lane of an entity accepts an event, its end makes a move
abbrev pub EntityStepsAreMoves : Type 0
EntityStepsAreMoves = (lanes : ℕ → ℕ → State) (history : List Happening) (user lane : ℕ) (event : Event)
    (side : Side) (sending : Sending) (reception : Reception) (moves : List Move)
    → AreIdle lanes → IsHistory lanes (steps user lane event ∷ history)
    → ComesTo side sending reception moves (lane_after lanes history user lane) event
    → HasMoved side sending reception moves (lane_after lanes (steps user lane event ∷ history) user lane)
