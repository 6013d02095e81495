-- Of the code. A user of an entity of one thread: the user's queue of indications, and the user's lanes.
use Rattle.std.specs.Prelude.{◌≡◌, ℕ, ◌<◌, List, [], ◌∷◌, ◌++◌, length, Option, None, Some, option_and_then, slice_get, slice_set, ◌⊎◌}
use Rattle.indications.specs.declared.bundle.Bundle.{Bundle}
use Rattle.txn_events.specs.declared.event.Event.{Event}
use Rattle.lane_table.specs.declared.done.Done.{Done}
use Rattle.lane_table.specs.declared.refused.Refused.{Refused}
use Rattle.lane_table.specs.Glances.{glance_of}
use Rattle.lane_table.specs.Lane.{State}
use Rattle.lane_table.specs.declared.glance.Glance.{Glance}
use Rattle.lane_table.specs.Keeping.{Keeps, bundle_of}
use Rattle.lane_table.specs.Steps.{refusal_at, stepped, IsDone}
use Rattle.txn_lane.specs.Stepping.{RanOut, WasFull}
use Rattle.user_queues.specs.Queue.{Queue, EndsInHeld}

-- the user's queue, and the state of each of the user's lanes
pub record Post : Type 0 where
  pub queue : Queue
  pub lanes : List State

-- ---- a lane and the queue of its user

-- the queue is of the lane's user, and what the lane knows of its bundles ends with what the queue holds of them
pub record Fits (lane : State) (number : ℕ) (queue : Queue) : Type 0 where
  pub of_user : queue.user ≡ lane.user
  pub of_lane : lane.lane ≡ number
  pub in_queue : number < queue.lanes
  pub kept : (bundles : List Bundle) × EndsInHeld queue number bundles × Keeps lane bundles

-- the queue with a step's bundle, if any, at the back
abbrev pub with_told : Queue → List Bundle → Queue
with_told queue bundles = record queue { held = queue.held ++ bundles }

-- there is room for a step's bundle, if there is one
abbrev pub HasRoomFor : Queue → List Bundle → Type 0
HasRoomFor queue [] = Unit {0}
HasRoomFor queue (bundle ∷ none) = length queue.held < queue.capacity

-- a step's bundle, if any, was put into the queue
pub record IsToldTo (old : Queue) (bundles : List Bundle) (new : Queue) : Type 0 where
  pub room : HasRoomFor old bundles
  pub told : new ≡ with_told old bundles

-- why an event is refused: by the lane, for NoMemory, or because the queue has no room for its indications
abbrev pub IsWhyRefused : State → Queue → Event → Refused → Type 0
IsWhyRefused state queue event refused =
    (refusal_at state event ≡ Some refused) ⊎ RanOut state event refused
    ⊎ (WasFull state event refused × (length queue.held ≡ queue.capacity))

-- ---- a step of a user's lane

-- a lane of the user fits the queue
pub record MayStep (post : Post) (lane : ℕ) : Type 0 where
  pub state : State
  pub is : slice_get post.lanes lane ≡ Some state
  pub fits : Fits state lane post.queue

-- the user after a step of a lane
abbrev pub post_stepped : Post → ℕ → State → Post
post_stepped post lane next = record { queue = with_told post.queue (bundle_of next); lanes = slice_set post.lanes lane next }

-- a lane accepted an event, and the user's queue its indications
pub record IsStepOf (old : Post) (lane : ℕ) (event : Event) (new : Post) (done : Done) : Type 0 where
  pub state : State
  pub is : slice_get old.lanes lane ≡ Some state
  pub free : refusal_at state event ≡ None
  pub room : HasRoomFor old.queue (bundle_of (stepped state event))
  pub done_is : IsDone (stepped state event) done
  pub new_is : new ≡ post_stepped old lane (stepped state event)

-- a lane refused an event
pub record IsNoStepOf (old : Post) (lane : ℕ) (event : Event) (new : Post) (refused : Refused) : Type 0 where
  pub state : State
  pub is : slice_get old.lanes lane ≡ Some state
  pub why : IsWhyRefused state old.queue event refused
  pub same : new ≡ old

-- ---- what lanes show

-- the glance at a lane of the user, None where it has run nothing, or where there is none such
abbrev pub glance_in : Post → ℕ → Option Glance
glance_in post lane = option_and_then glance_of (slice_get post.lanes lane)

-- the glance at a lane, by the numbers of its user and of the lane
abbrev pub glance_at : List Post → ℕ → ℕ → Option Glance
glance_at posts user lane = option_and_then (λ post. glance_in post lane) (slice_get posts user)
