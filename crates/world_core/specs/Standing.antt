-- Of the code. The users of an entity of one thread after a history.
use Rattle.std.specs.Prelude.{◌≡◌, ℕ, ◌<◌, List, ◌∷◌, length, None, Some, slice_get}
use Rattle.indications.specs.declared.bundle.Bundle.{Bundle}
use Rattle.txn_events.specs.declared.event.Event.{Event}
use Rattle.lane_table.specs.declared.done.Done.{Done}
use Rattle.lane_table.specs.declared.refused.Refused.{Refused}
use Rattle.lane_table.specs.Lane.{State}
use Rattle.lane_table.specs.Keeping.{bundle_of}
use Rattle.lane_table.specs.Steps.{refusal_at, stepped, IsDone}
use Rattle.user_queues.specs.Queue.{Queue}
use Rattle.world_table.specs.Histories.{Happening, steps, takes, lane_after, held_for, AreIdle, IsHistory}
use Rattle.world_core.specs.Posts.{Post, HasRoomFor, IsWhyRefused}

-- the number of users, the number of lanes of each, the room in each queue, and the first state of each lane
pub record Layout : Type 0 where
  pub users : ℕ
  pub lanes_of : ℕ → ℕ
  pub capacity : ℕ
  pub lanes : ℕ → ℕ → State

-- it is a lane of one of the users
pub record IsLaneIn (layout : Layout) (user lane : ℕ) : Type 0 where
  pub user_is : user < layout.users
  pub lane_is : lane < layout.lanes_of user

-- the state of a lane after a history
abbrev pub lane_in : Layout → List Happening → ℕ → ℕ → State
lane_in layout history user lane = lane_after layout.lanes history user lane

-- a user's queue after a history
abbrev pub queue_in : Layout → List Happening → ℕ → Queue
queue_in layout history user =
    record { user = user; lanes = layout.lanes_of user; capacity = layout.capacity; held = held_for layout.lanes history user }

-- the user has the queue and the lanes that the history gives
pub record IsPostAfter (layout : Layout) (history : List Happening) (user : ℕ) (post : Post) : Type 0 where
  pub queue : post.queue ≡ queue_in layout history user
  pub count : length post.lanes ≡ layout.lanes_of user
  pub lanes : (lane : ℕ) → lane < layout.lanes_of user → slice_get post.lanes lane ≡ Some (lane_in layout history user lane)

-- all users have them, and the history is legal
pub record UsersStandAfter (layout : Layout) (history : List Happening) (posts : List Post) : Type 0 where
  pub idle : AreIdle layout.lanes
  pub legal : IsHistory layout.lanes history
  pub count : length posts ≡ layout.users
  pub each : (user : ℕ) (post : Post) → slice_get posts user ≡ Some post → IsPostAfter layout history user post

-- ---- what happens next

-- it is a lane of a user, so it may be given an event
pub record MayHappen (posts : List Post) (user lane : ℕ) : Type 0 where
  pub layout : Layout
  pub history : List Happening
  pub stand : UsersStandAfter layout history posts
  pub lane_is : IsLaneIn layout user lane

-- the lane accepts the event, there is room for its indications, and this is the step's result
pub record Takes (layout : Layout) (history : List Happening) (user lane : ℕ) (event : Event) (done : Done) : Type 0 where
  pub free : refusal_at (lane_in layout history user lane) event ≡ None
  pub room : HasRoomFor (queue_in layout history user) (bundle_of (stepped (lane_in layout history user lane) event))
  pub done_is : IsDone (stepped (lane_in layout history user lane) event) done

-- the lane accepts the event, and the users then stand after the longer history
pub record IsTakenAt (layout : Layout) (history : List Happening) (user lane : ℕ) (event : Event) (posts : List Post) (done : Done) : Type 0 where
  pub takes_it : Takes layout history user lane event done
  pub stand : UsersStandAfter layout (steps user lane event ∷ history) posts

-- why the lane refuses the event
abbrev pub IsRefusedAt : Layout → List Happening → ℕ → ℕ → Event → Refused → Type 0
IsRefusedAt layout history user lane event refused = IsWhyRefused (lane_in layout history user lane) (queue_in layout history user) event refused

-- the user takes the bundle at the front, and the users then stand after the longer history
pub record IsTakenFrom (layout : Layout) (history : List Happening) (user : ℕ) (posts : List Post) (bundle : Bundle) : Type 0 where
  pub front : held_for layout.lanes history user ≡ bundle ∷ held_for layout.lanes (takes user ∷ history) user
  pub stand : UsersStandAfter layout (takes user ∷ history) posts
