-- Meaning. What a step does with the outlet, and why an event is refused.
use Rattle.std.specs.Prelude.{◌≡◌, ℕ, List, [], ◌∷◌, ◌++◌, Option, None, Some, ◌⊎◌, Result, Ok, IsSome}
use Rattle.txn_events.specs.declared.answer.Answer.{Answer}
use Rattle.cfdp_types.specs.declared.key.TxnKey.{TxnKey}
use Rattle.indications.specs.declared.bundle.Bundle.{Bundle}
use Rattle.txn_events.specs.declared.refusal.Refusal.{Refusal}
use Rattle.txn_events.specs.declared.refusal.Refusal.TheVariants as refusal
use Rattle.txn_lane.specs.Transactions.{IsWhy}
use Rattle.lane_table.specs.declared.done.Done.{Done}
use Rattle.txn_events.specs.declared.event.Event.{Event}
use Rattle.lane_table.specs.declared.refused.Refused.{Refused}
use Rattle.lane_table.specs.Logs.{Transaction}
use Rattle.txn_lane.specs.declared.running.Running.{Running}
use Rattle.txn_lane.specs.Handing.{bundle_for, IsHandedOver}
use Rattle.txn_lane.specs.RunningCode.{IsStarted, IsAdvanced, IsDoneBy}
use Rattle.lane_table.specs.Keeping.{Keeps, bundle_of}
use Rattle.lane_table.specs.Lane.{State}
use Rattle.lane_table.specs.Steps.{IsKeyed, plainly, refused_by_lane, refusal_at, number_in, new_transaction, stepped, IsDone}

-- the bundle, if there is one, was offered once and accepted; otherwise nothing happened
abbrev pub IsOffered : {A : Type 0} → (A → Bundle → A → Type 0) → A → A → List Bundle → Type 0
IsOffered takes old new [] = new ≡ old
IsOffered takes old new (bundle ∷ none) = takes old bundle new

-- the event is not refused, but memory ran out
abbrev pub RanOut : State → Event → Refused → Type 0
RanOut state event refused = (refusal_at state event ≡ None) × (refused ≡ plainly refusal.NoMemory)

-- the event is not refused, but the user's queue had no room for its indications
abbrev pub WasFull : State → Event → Refused → Type 0
WasFull state event refused =
    (refusal_at state event ≡ None) × (refused ≡ plainly refusal.QueueFull)
    × ((bundle : Bundle) × (bundle_of (stepped state event) ≡ bundle ∷ []))

-- why a lane refuses an event, with the outlet before and after: the outlet gave the bundle back where the queue was
-- full, and was left alone otherwise
abbrev pub IsWhyNot : {A : Type 0} → (A → A → Type 0) → State → Event → A → A → Refused → Type 0
IsWhyNot returns state event old new refused =
    ((new ≡ old) × ((refusal_at state event ≡ Some refused) ⊎ RanOut state event refused))
    ⊎ (returns old new × WasFull state event refused)

-- the outlet is the lane's, and some list of bundles after which it may stand fits the lane
pub record IsOutletOf {O : Type 0} (user lane : O → ℕ) (stands : O → List Bundle → Type 0) (state : State) (outlet : O) : Type 0 where
  pub of_user : user outlet ≡ state.user
  pub of_lane : lane outlet ≡ state.lane
  pub kept : (bundles : List Bundle) × stands outlet bundles × Keeps state bundles

-- the event is accepted
pub record IsTaken (state : State) (event : Event) (next : State) (done : Done) : Type 0 where
  pub free : refusal_at state event ≡ None
  pub next_is : next ≡ stepped state event
  pub done_is : IsDone next done

-- the outlet still belongs to the same user and lane
pub record IsSameEnd {O : Type 0} (user lane : O → ℕ) (old new : O) : Type 0 where
  pub of_user : user new ≡ user old
  pub of_lane : lane new ≡ lane old

-- the step's bundle was offered once and accepted, and every list that fitted the lane still fits with the bundle added
pub record IsHanded {O : Type 0} (user lane : O → ℕ) (takes : O → Bundle → O → Type 0) (stands : O → List Bundle → Type 0) (state next : State) (old new : O) : Type 0 where
  pub offered : IsOffered takes old new (bundle_of next)
  pub same_end : IsSameEnd user lane old new
  pub keeps : (bundles : List Bundle) → stands old bundles → Keeps state bundles
      → stands new (bundles ++ bundle_of next) × Keeps next (bundles ++ bundle_of next)

-- the event was refused: the lane is as it was, and every list that fitted it still fits
pub record IsLeft {O : Type 0} (user lane : O → ℕ) (returns : O → O → Type 0) (stands : O → List Bundle → Type 0) (state : State) (event : Event) (next : State) (old new : O) (refused : Refused) : Type 0 where
  pub same : next ≡ state
  pub why : IsWhyNot returns state event old new refused
  pub same_end : IsSameEnd user lane old new
  pub still : (bundles : List Bundle) → stands old bundles → Keeps state bundles → stands new bundles × Keeps next bundles

-- ---- inside the code

-- the event has its PDU's key, and the lane itself does not refuse it
pub record Passes (state : State) (event : Event) : Type 0 where
  pub keyed : IsKeyed event
  pub passed : refused_by_lane state event ≡ None

-- such an event opens a transaction with this number
pub record IsFirst (state : State) (event : Event) (number : ℕ) : Type 0 where
  pub passes : Passes state event
  pub opens : IsSome (new_transaction state event)
  pub number_is : number ≡ number_in state event

-- such an event opens no transaction
pub record IsLater (state : State) (event : Event) : Type 0 where
  pub passes : Passes state event
  pub opens_none : new_transaction state event ≡ None

-- the event was the first of the transaction with a key: it was answered, and its indications were handed over
pub record HasBegun {O : Type 0} (takes : O → Bundle → O → Type 0) (old new : O) (user lane : ℕ) (key : TxnKey) (opened : Option Transaction) (event : Event) (running : Running) (done : Done) : Type 0 where
  pub answer : Answer
  pub started : IsStarted opened event running answer
  pub done_by : IsDoneBy key answer done
  pub offered : IsHandedOver takes old new (bundle_for user lane key answer.inds)

-- the event continued the transaction with a key: it was answered, and its indications were handed over
pub record HasGoneOn {O : Type 0} (takes : O → Bundle → O → Type 0) (old new : O) (user lane : ℕ) (key : TxnKey) (before after : Running) (event : Event) (done : Done) : Type 0 where
  pub answer : Answer
  pub advanced : IsAdvanced before after event answer
  pub done_by : IsDoneBy key answer done
  pub offered : IsHandedOver takes old new (bundle_for user lane key answer.inds)

-- the event was refused, and the lane is as it was
pub record IsNotTaken {O : Type 0} (returns : O → O → Type 0) (state : State) (event : Event) (next : State) (old new : O) (why : Refusal) : Type 0 where
  pub same : next ≡ state
  pub why_not : IsWhyNot returns state event old new (plainly why)

-- the queue was full: the bundle was given back, and the transaction is as it was
pub record IsGivenBack {O T : Type 0} (returns : O → O → Type 0) (bundle : Option Bundle) (before after : T) (old new : O) (why : Refusal) : Type 0 where
  pub same : after ≡ before
  pub full : why ≡ refusal.QueueFull
  pub some : IsSome bundle
  pub returned : returns old new

-- why an answer is not carried out: there is none, memory ran out, or the queue was full
abbrev pub IsNotCarried : {A : Type 0} → (A → A → Type 0) → A → A → ℕ → ℕ → TxnKey → Result Answer Refusal → Refusal → Type 0
IsNotCarried returns old new user lane key answered why =
    ((new ≡ old) × IsWhy answered why)
    ⊎ (returns old new × (why ≡ refusal.QueueFull)
    × ((answer : Answer) × (answered ≡ Ok answer) × IsSome (bundle_for user lane key answer.inds)))
