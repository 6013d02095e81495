-- An event of the transaction that a lane runs: where the lane is before it and after it.
use Rattle.std.proofs.Common.{◌≡◌, ℕ, List, [], ◌∷◌, ◌++◌, Option, Some, None, sym, ap, ◌∙◌, subst}
use Rattle.cfdp_types.specs.declared.key.EntityId.{EntityId}
use Rattle.cfdp_types.specs.declared.key.TxnKey.{TxnKey}
use Rattle.txn_events.specs.declared.event.What.{What}
use Rattle.txn_events.specs.declared.event.Event.{Event}
use Rattle.txn_events.specs.declared.event.Event.TheVariants.{On}
use Rattle.lane_table.specs.declared.lane_side.LaneSide.{LaneSide}
use Rattle.txn_lane.specs.declared.running.Running.{Running}
use Rattle.lane_table.specs.Lane.{State, log_of}
use Rattle.txn_lane.specs.Transactions.{StandsAfter}
use Rattle.lane_table.specs.Logs.{Log}
use Rattle.txn_lane.specs.LaneCode.{lane_state, journal_of, IsHeld}
use Rattle.lane_table.specs.Steps.{new_transaction, stepped, stepped_by}
use Rattle.txn_lane.specs.Stepping.{IsLater}
use Rattle.txn_lane.proofs.TakenFacts.{Meets, IsFound, found_by, of_last, meets_last, stands_same}

-- the lane's transaction is the code's, and takes the event
pub record GoesOn (state : State) (key : TxnKey) (what : What) (running : Running) : Type 0 where
  pub found : IsFound running (log_of state)
  pub meets : Meets state (On key what) key found.log

pub goes_on_by : (side : LaneSide) (user lane : ℕ) (source : EntityId) (last before : Option ℕ) (held : Option Running) (running : Running)
    (state : State) (key : TxnKey) (what : What)
    → state ≡ lane_state side user lane source last before (journal_of held)
    → IsHeld (lane_state side user lane source last before (journal_of held)) held → held ≡ Some running
    → IsLater state (On key what) → GoesOn state key what running
goes_on_by side user lane source last before held running state key what view holds is later =
    let now : IsHeld state (Some running) =
    subst (λ s. IsHeld s (Some running)) (sym view) (subst (IsHeld (lane_state side user lane source last before (journal_of held))) is holds) in
    let found : IsFound running (log_of state) = found_by running (log_of state) now.stands (of_last state key what later.opens_none later.passes.passed).runs in
    record { found = found; meets = meets_last state key what running later.opens_none now.sound later.passes.keyed later.passes.passed found }

-- where the event isn't taken
pub held_same : (side : LaneSide) (user lane : ℕ) (source : EntityId) (last before : Option ℕ) (held : Option Running) (running next : Running)
    → IsHeld (lane_state side user lane source last before (journal_of held)) held → held ≡ Some running
    → ((log : Log) → StandsAfter running.core log → StandsAfter next.core log)
    → next.journal.items ≡ running.journal.items → next.trace.items ≡ running.trace.items
    → IsHeld (lane_state side user lane source last before next.journal.items) (Some next)
held_same side user lane source last before held running next holds is core journal trace =
    let at : List Event → State = lane_state side user lane source last before in
    let one : IsHeld (at running.journal.items) (Some running) = subst (λ o. IsHeld (at (journal_of o)) o) is holds in
    let two : IsHeld (at next.journal.items) (Some running) = subst (λ j. IsHeld (at j) (Some running)) (sym journal) one in
    record { sound = two.sound; stands = stands_same running next (log_of (at next.journal.items)) core trace two.stands }

-- where it is taken
pub next_on : (side : LaneSide) (user lane : ℕ) (source : EntityId) (last before : Option ℕ) (held : Option Running) (running next : Running)
    (state : State) (key : TxnKey) (what : What)
    → state ≡ lane_state side user lane source last before (journal_of held) → held ≡ Some running
    → new_transaction state (On key what) ≡ None → next.journal.items ≡ running.journal.items ++ On key what ∷ []
    → lane_state side user lane source last before next.journal.items ≡ stepped state (On key what)
next_on side user lane source last before held running next state key what view is none journal =
    let at : List Event → State = lane_state side user lane source last before in
    ap at journal
    ∙ ap (λ s. stepped_by s (On key what) None) (sym (view ∙ ap (λ o. at (journal_of o)) is))
    ∙ ap (stepped_by state (On key what)) (sym none)
