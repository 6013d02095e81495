-- Of the code. What a lane knows of the bundles that it sent.
use Rattle.std.specs.Prelude.{◌≡◌, ℕ, ◌≤◌, true, if◌then◌else◌, All, List, [], ◌∷◌, ◌++◌, Option, Some, None}
use Rattle.cfdp_types.specs.Steps.{is_stamp}
use Rattle.cfdp_types.specs.declared.key.EntityId.{EntityId}
use Rattle.cfdp_types.specs.declared.key.TxnKey.{TxnKey}
use Rattle.indications.specs.declared.bundle.Bundle.{Bundle}
use Rattle.indications.specs.declared.indication.Indication.{Indication}
use Rattle.indications.specs.LaneLists.{number_of, told_of, has_number, side_by, IsWordGroup, IsLaneList}
use Rattle.indications.specs.declared.side.Side.{Side}
use Rattle.txn_events.specs.declared.event.Event.{Event}
use Rattle.lane_table.specs.Lane.{State, key_of, issued_by}
use Rattle.lane_table.specs.Logs.{end_of}
use Rattle.lane_table.specs.Steps.{IsKeyed, refusal_at, stepped, answer_of}

-- there is a last number, and this number is at most that one
abbrev pub IsUpTo : Option ℕ → ℕ → Type 0
IsUpTo None number = ⊥
IsUpTo (Some last) number = number ≤ last

-- the first indication, if there is one, is one with which transactions of this end begin
abbrev pub IsOfSide : Side → List Indication → Type 0
IsOfSide side [] = Unit {0}
IsOfSide side (first ∷ rest) = side ≡ side_by first

-- the bundles of one lane, whose last transaction issued these indications
pub record AreSent (side : Side) (user lane : ℕ) (source : EntityId) (last before : Option ℕ) (told : List Indication) (bundles : List Bundle) : Type 0 where
  pub list : IsLaneList user lane source bundles
  -- the indications of each transaction are those of the lane's end
  pub sided : (number : ℕ) → IsOfSide side (told_of number bundles)
  -- the indications of the last transaction
  pub current : (number : ℕ) → last ≡ Some number → told_of number bundles ≡ told
  -- no number is above the last
  pub reached : All (λ bundle. IsUpTo last (number_of bundle)) bundles
  -- every other number is at most the one before the last, and its indications are a whole word
  pub others : (number : ℕ) → has_number number bundles ≡ true → (last ≡ Some number → ⊥)
      → IsUpTo before number × IsWordGroup (told_of number bundles)

-- the bundles are what the lane sent
abbrev pub Keeps : State → List Bundle → Type 0
Keeps state bundles = AreSent (end_of state.side) state.user state.lane state.source state.last state.before (issued_by state) bundles

-- ---- a lane's run

-- the bundle of a step with these indications, none where there are no indications
abbrev pub bundle_by : State → Option TxnKey → List Indication → List Bundle
bundle_by state (Some key) (first ∷ rest) = record { user = state.user; lane = state.lane; key = key; inds = first ∷ rest } ∷ []
bundle_by state key inds = []

-- the bundle of the last step
abbrev pub bundle_of : State → List Bundle
bundle_of state = bundle_by state (key_of state) (answer_of state).inds

-- what a lane sends while it accepts these events
abbrev pub sent_after : State → List Event → List Bundle
sent_after state [] = []
sent_after state (event ∷ later) = bundle_of (stepped state event) ++ sent_after (stepped state event) later

-- the lane accepts each of the events
abbrev pub AreTaken : State → List Event → Type 0
AreTaken state [] = Unit {0}
AreTaken state (event ∷ later) = IsKeyed event × (refusal_at state event ≡ None) × AreTaken (stepped state event) later

-- of these events, which the lane accepts, those of the transaction with a number
abbrev pub events_of : ℕ → State → List Event → List Event
events_of number state [] = []
events_of number state (event ∷ later) =
    if is_stamp (stepped state event).last number then event ∷ events_of number (stepped state event) later
    else events_of number (stepped state event) later
