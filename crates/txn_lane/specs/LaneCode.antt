-- Of the code. How the code keeps a lane.
use Rattle.std.specs.Prelude.{◌≡◌, ℕ, Bool, not, ◌||◌, ◌&&◌, ◌==◌, if◌then◌else◌, List, [], Option, Some, None}
use Rattle.std.specs.Option.{option_map}
use Rattle.cfdp_types.specs.Steps.{is_stamp}
use Rattle.cfdp_types.specs.declared.key.EntityId.{EntityId}
use Rattle.cfdp_types.specs.declared.key.TxnKey.{TxnKey}
use Rattle.txn_events.specs.declared.event.What.{What}
use Rattle.txn_events.specs.declared.refusal.Refusal.{Refusal}
use Rattle.txn_events.specs.declared.refusal.Refusal.TheVariants as refusal
use Rattle.txn_events.specs.declared.event.Event.{Event}
use Rattle.txn_events.specs.declared.event.Event.TheVariants.{On}
use Rattle.lane_table.specs.declared.refused.Refused.{Refused}
use Rattle.lane_table.specs.declared.lane_side.LaneSide.{LaneSide}
use Rattle.lane_table.specs.Logs.{Log, issued}
use Rattle.lane_table.specs.Steps.{plainly, echo_to}
use Rattle.lane_table.specs.Lane.{State, is_above, log_of, IsSound}
use Rattle.txn_lane.specs.Transactions.{StandsAfter}
use Rattle.txn_lane.specs.declared.running.Running.{Running}

-- the state of a lane, from its parts
abbrev pub lane_state : LaneSide → ℕ → ℕ → EntityId → Option ℕ → Option ℕ → List Event → State
lane_state side user lane source last before journal =
    record { side = side; user = user; lane = lane; source = source; last = last; before = before; journal = journal }

-- the code's transaction stands after this log, or there is neither
abbrev pub Stands : Option Running → Option Log → Type 0
Stands None None = Unit {0}
Stands (Some running) (Some log) = StandsAfter running.core log × (running.trace.items ≡ issued log)
Stands running found = ⊥

-- the events of the code's transaction
abbrev pub journal_of : Option Running → List Event
journal_of None = []
journal_of (Some running) = running.journal.items

-- the code's transaction fits the lane's state
pub record IsHeld (state : State) (running : Option Running) : Type 0 where
  pub sound : IsSound state
  pub stands : Stands running (log_of state)

-- why a lane itself refuses an event with a key, from the lane's state and whether the event would open a transaction
abbrev pub refused_by_key : EntityId → Option ℕ → Bool → Bool → TxnKey → What → Option Refused
refused_by_key source last running opens key what =
    if not (key.source.0 == source.0) || (is_above key.seq last && not opens) then Some (plainly refusal.NoTransaction)
    else if not (is_above key.seq last) && not (is_stamp last key.seq && running) then
    Some (record { why = refusal.OldTransaction; echo = echo_to (On key what) })
    else if opens && running then Some (plainly refusal.LaneBusy)
    else None

-- why a lane itself refuses a Put: another transaction runs, or the Put gets no number
abbrev pub refused_put : Bool → Option Refusal → Option Refused
refused_put running why = if running then Some (plainly refusal.LaneBusy) else option_map plainly why
