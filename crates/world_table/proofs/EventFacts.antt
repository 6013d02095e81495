-- The events of a transaction are of its key.
use Rattle.std.proofs.Common.{◌≡◌, ℕ, Bool, true, false, if◌then◌else◌, All, List, [], ◌∷◌, Some, None, refl, sym, ap, ◌∙◌, subst}
use Rattle.std.proofs.lemmas.List.Elements.{All-nil, All-cons}
use Rattle.std.specs.Option.{option_map}
use Rattle.cfdp_types.specs.Steps.{is_stamp}
use Rattle.cfdp_types.specs.declared.key.EntityId.{EntityId}
use Rattle.cfdp_types.specs.declared.key.TxnKey.{TxnKey}
use Rattle.txn_events.specs.declared.event.Event.{Event}
use Rattle.txn_events.specs.declared.event.Event.TheVariants.{Put, On}
use Rattle.lane_table.specs.Logs.{IsOfKey}
use Rattle.lane_table.specs.Lane.{State, key_at, key_of}
use Rattle.lane_table.specs.Steps.{IsKeyed, refusal_at, new_transaction, stepped}
use Rattle.lane_table.specs.Keeping.{events_of, AreTaken}
use Rattle.lane_table.proofs.RunFacts.{same_by}
use Rattle.world_table.specs.Histories.{events_at}
use Rattle.world_table.specs.HistoryLaws.{IsEventOf, KeepsEventsApart}
use Rattle.world_table.proofs.HistoryFacts.{runs}
use Rattle.world_table.proofs.StepKeys.{stamp_is, step_keyed}

-- the only key that there is
same_key : (key other : TxnKey) → Some key ≡ Some other → key ≡ other
same_key key other e = cc

is_own : (state : State) (event : Event) (number : ℕ) → IsKeyed event → refusal_at state event ≡ None
    → is_stamp (stepped state event).last number ≡ true → IsEventOf (key_at state.source number) event
is_own state (Put request params) number keyed free here = tt
is_own state (On key happens) number keyed free here =
    let next : State = stepped state (On key happens) in
    let last : next.last ≡ Some number = stamp_is next.last number here in
    let found : key_of next ≡ Some (key_at next.source number) = ap (option_map (key_at next.source)) last in
    let source : next.source ≡ state.source = (same_by state (On key happens) (new_transaction state (On key happens))).source in
    let named : key ≡ key_at state.source number =
    same_key key (key_at next.source number) (sym (step_keyed state key happens free) ∙ found) ∙ ap (λ (s : EntityId). key_at s number) source in
    (named, subst (IsOfKey (On key happens)) named keyed)

all_if : (P : Event → Type 0) (event : Event) (rest : List Event) (here : Bool) → (here ≡ true → P event) → All P rest
    → All P (if here then event ∷ rest else rest)
all_if P event rest true is all = All-cons P event rest (is refl) all
all_if P event rest false is all = all

own_events : (number : ℕ) (state : State) (events : List Event) → AreTaken state events
    → All (IsEventOf (key_at state.source number)) (events_of number state events)
own_events number state [] taken = All-nil (IsEventOf (key_at state.source number))
own_events number state (event ∷ later) taken =
    let next : State = stepped state event in
    let source : next.source ≡ state.source = (same_by state event (new_transaction state event)).source in
    all_if (IsEventOf (key_at state.source number)) event (events_of number next later) (is_stamp next.last number)
    (λ here. is_own state event number taken.0 taken.1 here)
    (subst (λ (s : EntityId). All (IsEventOf (key_at s number)) (events_of number next later)) source (own_events number next later taken.2))

pub keeps_events_apart : KeepsEventsApart
keeps_events_apart lanes history user lane number idle legal =
    own_events number (lanes user lane) (events_at history user lane) (runs lanes history user lane idle legal).taken
