-- Meaning. The queues and outlets that an entity is opened with.
use Rattle.std.specs.Prelude.{◌≡◌, ℕ, List, [], length, Some, slice_get, vec_len}
use Rattle.std.specs.List.{sum_by}
use Rattle.std.specs.Option.{option_map, unwrap_or}
use Rattle.atomic_table.specs.Seated.{TableId}
use Rattle.config_reading.specs.Values.{ConfigValue}
use Rattle.entity_routing.specs.Places.{lanes_of}
use Rattle.user_queues.specs.Names.{no_queue}
use Rattle.user_queues.specs.Opened.{IsOpenedFor}
use Rattle.user_queues.specs.Shared.{OutletEnd}
use Rattle.user_queues.specs.declared.queues.Queues.{Queues}
use Rattle.user_queues.specs.declared.queues.UserQueue.{UserQueue}

-- an outlet of its user's queue, through which nothing was sent yet
pub record IsFresh (queue : ℕ → TableId) (outlet : OutletEnd) : Type 0 where
  pub of_queue : outlet.queue ≡ queue outlet.knows.user
  pub none_sent : outlet.knows.sent ≡ []

-- the queues were opened for a configuration: one for each user, with an outlet for each of the user's lanes
pub record AreOpenedFor {R : Type 0} (config : ConfigValue) (queues : Queues R) : Type 0 where
  pub users : vec_len queues.users ≡ length config.users
  pub opened : (user : ℕ) (ends : UserQueue R) → slice_get queues.users.items user ≡ Some ends
      → IsOpenedFor user (lanes_of config user) config.entity.capacity ends.port ends.outlets.items

-- the number of lanes that have an outlet
abbrev pub lanes_in : {R : Type 0} → Queues R → ℕ
lanes_in {R} queues = sum_by (λ (ends : UserQueue R). vec_len ends.outlets) queues.users.items

-- an entity may be opened with these queues: they fit its configuration, and they and their lanes are those that a
-- run names
pub record AreQueuesFor {R : Type 0} (queue : ℕ → TableId) (lanes : ℕ) (config : ConfigValue) (queues : Queues R) : Type 0 where
  pub opened : AreOpenedFor config queues
  pub named : (user : ℕ) (ends : UserQueue R) → slice_get queues.users.items user ≡ Some ends → ends.port.queue ≡ queue user
  pub lanes_named : lanes ≡ lanes_in queues

-- the queue at a user's place, given what each user has; a run uses it to name the queues that it opened
abbrev pub queue_at : {A : Type 0} → (A → TableId) → List A → ℕ → TableId
queue_at queue_of users user = unwrap_or (option_map queue_of (slice_get users user)) (no_queue user)

-- the queue of a user among the queues that were opened
abbrev pub queue_in : {R : Type 0} → Queues R → ℕ → TableId
queue_in {R} queues = queue_at (λ (ends : UserQueue R). ends.port.queue) queues.users.items
