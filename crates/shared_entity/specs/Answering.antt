-- Meaning. The possible answers of an entity that threads share.
use Rattle.std.specs.Prelude.{◌≡◌, ◌⊎◌, ℕ, List, Option, Some, Result, Ok, Err, IfOk, IfErr}
use Rattle.atomic_table.specs.Seated.{TableId}
use Rattle.cfdp_types.specs.declared.image.Image.{Image}
use Rattle.cfdp_types.specs.declared.key.TxnKey.{TxnKey}
use Rattle.txn_lane.specs.Transactions.{IsWhy}
use Rattle.txn_events.specs.declared.event.Event.{Event}
use Rattle.txn_events.specs.declared.refusal.Refusal.{Refusal}
use Rattle.txn_events.specs.declared.refusal.Refusal.TheVariants as refusal
use Rattle.lane_table.specs.Steps.{image_of, plainly}
use Rattle.lane_table.specs.Glances.{glance_of}
use Rattle.lane_table.specs.Lane.{key_of}
use Rattle.lane_table.specs.Images.{IsOwnFile}
use Rattle.lane_table.specs.declared.glance.Glance.{Glance}
use Rattle.lane_traces.specs.Traces.{events_of, how_far, IsHowFar}
use Rattle.lane_traces.specs.declared.traced.Traced.{Traced}
use Rattle.entity_routing.specs.Routes.{Routed}
use Rattle.entity_routing.specs.declared.place.Place.{Place}
use Rattle.entity_routing.specs.declared.refusal.RouteRefusal.{RouteRefusal}
use Rattle.shared_lanes.specs.Held.{HeldValue, IsBehindLock}
use Rattle.entity_parts.specs.declared.refusal.EntityRefusal.{EntityRefusal}
use Rattle.entity_parts.specs.declared.refusal.EntityRefusal.TheVariants as answer

-- the lane behind a lock is that of a place
pub record IsAt (queue : ℕ → TableId) (place : Place) (held : HeldValue) : Type 0 where
  pub behind : IsBehindLock queue held
  pub of_user : held.lane.user ≡ place.user
  pub of_lane : held.lane.lane ≡ place.lane

-- the gate may give this answer to a lane's event, for some value that was behind the lane's lock
pub record MayGive {A : Type 0} (queue : ℕ → TableId) (gives : HeldValue → Event → A → HeldValue → Type 0) (routed : Routed) (answer : A) : Type 0 where
  pub before : HeldValue
  pub after : HeldValue
  pub there : IsAt queue routed.place before
  pub gave : gives before routed.event answer after

-- the gate answers a lane's event, unless another lane is behind the lock
pub record MayAnswerAt {A : Type 0} (queue : ℕ → TableId) (gives : HeldValue → Event → A → HeldValue → Type 0) (routed : Routed) (result : Result A EntityRefusal) : Type 0 where
  pub given : IfOk result (MayGive queue gives routed)
  pub wrong : IfErr result (λ why. why ≡ answer.WrongLane)

-- the answer to an event, by its route
abbrev pub MayAnswer : {A : Type 0} → (ℕ → TableId) → (HeldValue → Event → A → HeldValue → Type 0) → Result Routed RouteRefusal → Result A EntityRefusal → Type 0
MayAnswer queue gives (Err why) result = result ≡ Err (answer.Route why)
MayAnswer queue gives (Ok routed) result = MayAnswerAt queue gives routed result

-- the file of the waiting deposit at the lane of a place, for some value that was behind its lock; it is the good file
-- of that lane's own reception with the key
pub record MayBeImage (queue : ℕ → TableId) (place : Place) (key : TxnKey) (stamp : ℕ) (image : Image) : Type 0 where
  pub held : HeldValue
  pub there : IsAt queue place held
  pub is_given : image_of held.lane key stamp ≡ Ok image
  pub is_own : IsOwnFile held.lane key stamp image

-- why the lane of a place gave no image, for some value that was behind its lock
pub record MayLackImage (queue : ℕ → TableId) (place : Place) (key : TxnKey) (stamp : ℕ) (why : EntityRefusal) : Type 0 where
  pub held : HeldValue
  pub there : IsAt queue place held
  pub refused : Refusal
  pub is_refused : why ≡ answer.Lane (plainly refused)
  pub is_why : IsWhy (image_of held.lane key stamp) refused

-- the result of asking for an image, by the place of its transaction
abbrev pub MayGiveImage : (ℕ → TableId) → TxnKey → ℕ → Result Place RouteRefusal → Result Image EntityRefusal → Type 0
MayGiveImage queue key stamp (Err why) result = result ≡ Err (answer.Route why)
MayGiveImage queue key stamp (Ok place) result =
    IfOk result (MayBeImage queue place key stamp)
    × IfErr result (λ why. (why ≡ answer.WrongLane) ⊎ MayLackImage queue place key stamp why)

-- the progress of a transaction at the lane of a place, for some value that was behind its lock; it is true of that
-- lane's legal log with the key
pub record MayBeTraced (queue : ℕ → TableId) (place : Place) (key : TxnKey) (traced : Traced) : Type 0 where
  pub held : HeldValue
  pub there : IsAt queue place held
  pub is_given : how_far held.lane key ≡ Ok traced
  pub is_own : IsHowFar held.lane key traced

-- why the lane of a place reported no progress, for some value that was behind its lock
pub record MayLackTrace (queue : ℕ → TableId) (place : Place) (key : TxnKey) (why : EntityRefusal) : Type 0 where
  pub held : HeldValue
  pub there : IsAt queue place held
  pub refused : Refusal
  pub is_refused : why ≡ answer.Lane (plainly refused)
  pub is_why : how_far held.lane key ≡ Err refused

-- the result of asking for a transaction's progress, by the transaction's place
abbrev pub MayTrace : (ℕ → TableId) → TxnKey → Result Place RouteRefusal → Result Traced EntityRefusal → Type 0
MayTrace queue key (Err why) result = result ≡ Err (answer.Route why)
MayTrace queue key (Ok place) result =
    IfOk result (MayBeTraced queue place key)
    × IfErr result (λ why. (why ≡ answer.WrongLane) ⊎ MayLackTrace queue place key why)

-- the events of a transaction at the lane of a place, for some value that was behind its lock, which is sound
pub record MayBeJournal (queue : ℕ → TableId) (place : Place) (key : TxnKey) (events : List Event) : Type 0 where
  pub held : HeldValue
  pub there : IsAt queue place held
  pub key_is : key_of held.lane ≡ Some key
  pub is_given : events ≡ held.lane.journal

-- why the lane of a place gave no events, for some value that was behind its lock
pub record MayLackJournal (queue : ℕ → TableId) (place : Place) (key : TxnKey) (why : EntityRefusal) : Type 0 where
  pub held : HeldValue
  pub there : IsAt queue place held
  pub refused : Refusal
  pub is_refused : why ≡ answer.Lane (plainly refused)
  pub is_why : IsWhy (events_of held.lane key) refused

-- the events that are given, by the transaction's place
abbrev pub MayGiveJournal : (ℕ → TableId) → TxnKey → Result Place RouteRefusal → List Event → Type 0
MayGiveJournal queue key (Err why) events = ⊥
MayGiveJournal queue key (Ok place) events = MayBeJournal queue place key events

-- why none are given, likewise
abbrev pub MayRefuseJournal : (ℕ → TableId) → TxnKey → Result Place RouteRefusal → EntityRefusal → Type 0
MayRefuseJournal queue key (Err unrouted) why = why ≡ answer.Route unrouted
MayRefuseJournal queue key (Ok place) why = (why ≡ answer.WrongLane) ⊎ MayLackJournal queue place key why

-- a glance at the lane of a place, for some value that was behind its lock
pub record MayBeGlanced (queue : ℕ → TableId) (place : Place) (glance : Option Glance) : Type 0 where
  pub held : HeldValue
  pub there : IsAt queue place held
  pub is_shown : glance ≡ glance_of held.lane

-- the result of asking for a glance at the lane of a place
abbrev pub MayGlance : (ℕ → TableId) → Place → Result (Option Glance) EntityRefusal → Type 0
MayGlance queue place result =
    IfOk result (MayBeGlanced queue place)
    × IfErr result (λ why. (why ≡ answer.WrongLane) ⊎ (why ≡ answer.Lane (plainly refusal.NoMemory)))
