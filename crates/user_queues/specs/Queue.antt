-- Meaning. A user's queue, and what is put into it and taken from it.
use Rattle.std.specs.Prelude.{◌≡◌, ℕ, ◌<◌, List, [], ◌∷◌, ◌++◌, length}
use Rattle.indications.specs.declared.bundle.Bundle.{Bundle}
use Rattle.indications.specs.LaneLists.{of_lane}
use Rattle.circular_buffer.specs.Buffer.{Buffer}

-- whose queue it is, how many lanes the user has, its room for bundles, and the bundles held, from the front on
pub record Queue : Type 0 where
  pub user : ℕ
  pub lanes : ℕ
  pub capacity : ℕ
  pub held : List Bundle

-- the queue that a ring holds
abbrev pub queue_in : ℕ → ℕ → Buffer Bundle → Queue
queue_in user lanes ring = record { user = user; lanes = lanes; capacity = ring.capacity; held = ring.items }

-- an empty queue
abbrev pub empty : ℕ → ℕ → ℕ → Queue
empty user lanes capacity = record { user = user; lanes = lanes; capacity = capacity; held = [] }

-- the queue with one more bundle at the back
abbrev pub with_last : Queue → Bundle → Queue
with_last queue bundle = record queue { held = queue.held ++ bundle ∷ [] }

-- the queue with one more bundle at the front
abbrev pub with_front : Queue → Bundle → Queue
with_front queue bundle = record queue { held = bundle ∷ queue.held }

-- what a lane has sent ends with the lane's bundles in the queue: the user took those before them
abbrev pub EndsInHeld : Queue → ℕ → List Bundle → Type 0
EndsInHeld queue lane bundles = (earlier : List Bundle) × (bundles ≡ earlier ++ of_lane lane queue.held)

-- there was room, and a bundle of the lane was appended
pub record IsPutIn (lane : ℕ) (old : Queue) (bundle : Bundle) (new : Queue) : Type 0 where
  pub room : length old.held < old.capacity
  pub of_lane : bundle.lane ≡ lane
  pub held : new ≡ with_last old bundle

-- there was no room, and the queue is as it was
pub record IsFull (old new : Queue) : Type 0 where
  pub full : length old.held ≡ old.capacity
  pub same : new ≡ old

-- all bundles that were ever put in, where the user took these
abbrev pub all_put : List Bundle → Queue → List Bundle
all_put taken queue = taken ++ queue.held
