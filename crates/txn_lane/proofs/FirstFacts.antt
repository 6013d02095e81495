-- An event that opens a transaction: what the lane is before it and after it.
use Rattle.std.proofs.Common.{◌≡◌, ℕ, List, [], ◌∷◌, Option, Some, None, IsSome, refl, sym, ap, ◌∙◌, subst}
use Rattle.std.proofs.lemmas.Bool.{false≢true}
use Rattle.cfdp_types.specs.declared.key.EntityId.{EntityId}
use Rattle.cfdp_types.specs.declared.key.TxnKey.{TxnKey}
use Rattle.txn_events.specs.declared.answer.Answer.{Answer}
use Rattle.txn_events.specs.declared.event.Event.{Event}
use Rattle.lane_table.specs.declared.lane_side.LaneSide.{LaneSide}
use Rattle.lane_table.specs.Lane.{State, key_at, key_of, IsSound}
use Rattle.lane_table.specs.Logs.{Transaction, IsOfKey, opened_by, log_by, extended}
use Rattle.lane_table.specs.Steps.{is_new, is_unknown, number_in, new_transaction, log_before, stepped, stepped_by}
use Rattle.txn_lane.specs.Transactions.{StandsAfter, StandsBehind}
use Rattle.txn_lane.specs.declared.transaction.TransactionCore.{TransactionCore}
use Rattle.txn_lane.specs.LaneCode.{lane_state}
use Rattle.txn_lane.specs.RunningCode.{log_of_first}
use Rattle.txn_lane.specs.Stepping.{IsFirst}
use Rattle.lane_table.proofs.StepFacts.{if_none, if_some, not_foreign, of_pdu}
use Rattle.txn_lane.proofs.TakenFacts.{Meets}

-- an event opens this transaction, and comes to its empty log
pub record Begins (side : LaneSide) (state : State) (event : Event) (key : TxnKey) : Type 0 where
  pub transaction : Transaction
  pub opens : new_transaction state event ≡ Some transaction
  pub is : opened_by side key event ≡ Some transaction
  pub of_key : IsOfKey event key
  pub meets : Meets state event key (log_by transaction [])

some_of : {A : Type 0} (o : Option A) → IsSome o → (x : A) × (o ≡ Some x)
some_of None some = absurd (false≢true some)
some_of (Some x) some = (x, refl)

pub is_some_of : {A : Type 0} (o : Option A) (x : A) → o ≡ Some x → IsSome o
is_some_of None x is = absurd cc
is_some_of (Some y) x is = refl

begins_at : (state : State) (event : Event) (seq : ℕ) → IsSound state → IsFirst state event seq
    → Begins state.side state event (key_at state.source seq)
begins_at state event seq sound first =
    let found = some_of (new_transaction state event) first.opens in
    let opened = (if_some (is_new state event) (opened_by state.side (key_at state.source (number_in state event)) event) found.0 found.1).1 in
    let known = (if_none (is_unknown state event) _ _ first.passes.passed).0 in
    record {
      transaction = found.0;
      opens = found.1;
      is = ap (λ n. opened_by state.side (key_at state.source n) event) first.number_is ∙ opened;
      of_key =
          subst (λ n. IsOfKey event (key_at state.source n)) (sym first.number_is) (of_pdu state event first.passes.keyed (not_foreign state event known));
      meets = record {
        sound = sound;
        keyed = first.passes.keyed;
        passed = first.passes.passed;
        before = ap (log_before state) found.1;
        key_is = ap (λ o. key_of (stepped_by state event o)) found.1 ∙ ap (λ n. Some (key_at state.source n)) (sym first.number_is);
      };
    }

pub begins_by : (side : LaneSide) (user lane : ℕ) (source : EntityId) (last before : Option ℕ) (journal : List Event) (state : State) (event : Event) (seq : ℕ)
    → state ≡ lane_state side user lane source last before journal → IsSound (lane_state side user lane source last before journal)
    → IsFirst state event seq → Begins side state event (key_at source seq)
begins_by side user lane source last before journal state event seq view sound first =
    let at : State = lane_state side user lane source last before journal in
    subst (λ s. Begins side s event (key_at source seq)) (sym view)
    (begins_at at event seq sound (subst (λ s. IsFirst s event seq) view first))

-- what the code's transaction stands at then
pub stands_first : (c : TransactionCore) (opened : Option Transaction) (transaction : Transaction) (event : Event) (answer : Answer)
    → opened ≡ Some transaction → StandsBehind c (log_of_first opened event answer)
    → StandsAfter c (extended (log_by transaction []) event answer)
stands_first c opened transaction event answer is stands = subst (λ o. StandsBehind c (log_of_first o event answer)) is stands

-- where the lane is then
pub next_first : (side : LaneSide) (user lane : ℕ) (source : EntityId) (last before : Option ℕ) (journal later : List Event) (state : State) (event : Event) (seq : ℕ) (transaction : Transaction)
    → state ≡ lane_state side user lane source last before journal → new_transaction state event ≡ Some transaction
    → seq ≡ number_in state event → later ≡ event ∷ []
    → lane_state side user lane source (Some seq) last later ≡ stepped state event
next_first side user lane source last before journal later state event seq transaction view is number told =
    let at : State = lane_state side user lane source last before journal in
    ap (λ n. lane_state side user lane source (Some n) last later) (number ∙ ap (λ s. number_in s event) view)
    ∙ ap (lane_state side user lane source (Some (number_in at event)) last) told
    ∙ ap (λ s. stepped_by s event (Some transaction)) (sym view)
    ∙ ap (stepped_by state event) (sym is)
