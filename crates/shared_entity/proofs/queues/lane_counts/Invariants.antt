use Rattle.std.proofs.Common.{◌≡◌, ℕ, Some, length}
use Rattle.std.specs.Prelude.{slice_get}
use Rattle.entity_routing.specs.Places.{lanes_of}
use Rattle.shared_entity.proofs.queues.lane_counts.Given as goal

abbrev pub invariant-loop-user : goal.invariant-loop-user
invariant-loop-user l = record {
  count : length l.counts.items ≡ l.user;
  each : (user count : ℕ) → slice_get l.counts.items user ≡ Some count → count ≡ lanes_of l.config user;
}
