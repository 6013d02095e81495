use Rattle.std.proofs.Common.{◌≡◌, ℕ, Some, length, slice_index}
use Rattle.std.specs.Prelude.{slice_get}
use Rattle.user_queues.specs.Opened.{IsOpenedFor}
use Rattle.user_queues.proofs.queues.open.Given as goal

abbrev pub invariant-loop-user : goal.invariant-loop-user
invariant-loop-user g l = record {
  count : length l.users.items ≡ l.user;
  opened : (user : ℕ) (ends : _) → slice_get l.users.items user ≡ Some ends
      → IsOpenedFor user (slice_index l.lanes user) l.capacity ends.port ends.outlets.items;
}
