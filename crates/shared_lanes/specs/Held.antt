-- Meaning. A lane with its own outlet, and the effect of a step on both.
use Rattle.std.specs.Prelude.{◌≡◌, ◌⊎◌, ℕ, List, ◌++◌, Some, Result, Ok, Err}
use Rattle.atomic_table.specs.Seated.{TableId}
use Rattle.indications.specs.declared.bundle.Bundle.{Bundle}
use Rattle.txn_events.specs.declared.event.Event.{Event}
use Rattle.lane_table.specs.declared.done.Done.{Done}
use Rattle.lane_table.specs.declared.refused.Refused.{Refused}
use Rattle.lane_table.specs.Keeping.{Keeps, bundle_of}
use Rattle.lane_table.specs.Lane.{State, IsSound}
use Rattle.lane_table.specs.Steps.{refusal_at}
use Rattle.txn_lane.specs.Stepping.{IsTaken, RanOut, WasFull}
use Rattle.user_queues.specs.Shared.{OutletEnd}

-- the lane's state, and what its outlet knows
pub record HeldValue : Type 0 where
  pub lane : State
  pub outlet : OutletEnd

-- what may be behind a lock: a sound lane with its own outlet, of the queue of its user, where all that was sent
-- through the outlet fits the lane
pub record IsBehindLock (queue : ℕ → TableId) (held : HeldValue) : Type 0 where
  pub sound : IsSound held.lane
  pub of_queue : held.outlet.queue ≡ queue held.lane.user
  pub of_user : held.outlet.knows.user ≡ held.lane.user
  pub of_lane : held.outlet.knows.lane ≡ held.lane.lane
  pub kept : Keeps held.lane held.outlet.knows.sent

-- the outlet after these bundles were sent too
abbrev pub with_bundles : OutletEnd → List Bundle → OutletEnd
with_bundles outlet bundles = record outlet { knows = record outlet.knows { sent = outlet.knows.sent ++ bundles } }

-- the lane accepted an event, and all indications of the step went through the outlet
pub record HasTaken (old : HeldValue) (event : Event) (done : Done) (new : HeldValue) : Type 0 where
  pub taken : IsTaken old.lane event new.lane done
  pub told : new.outlet ≡ with_bundles old.outlet (bundle_of new.lane)

-- the lane refused an event: for a reason of its own, for NoMemory, or because its user's queue was full
pub record HasRefused (old : HeldValue) (event : Event) (refused : Refused) (new : HeldValue) : Type 0 where
  pub why : (refusal_at old.lane event ≡ Some refused) ⊎ RanOut old.lane event refused ⊎ WasFull old.lane event refused
  pub same : new ≡ old

-- the result of a step, and its effect
abbrev pub HasStepped : HeldValue → Event → Result Done Refused → HeldValue → Type 0
HasStepped old event (Ok done) new = HasTaken old event done new
HasStepped old event (Err refused) new = HasRefused old event refused new
