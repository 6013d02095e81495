use Rattle.std.proofs.Common.{◌≡◌, ◌++◌, length, map, vec_len}
use Rattle.std.specs.List.{sum_by}
use Rattle.std.specs.Vec.Iter.{into_iter_items, into_iter_len}
use Rattle.shared_entity.proofs.entity.Entity.open.Given as goal

abbrev pub invariant-loop-ends : goal.invariant-loop-ends
invariant-loop-ends g l = record {
  all : l.yielded ++ into_iter_items l.ends-iterator ≡ l.fn.queues.users.items;
  long : into_iter_len l.ends-iterator ≡ length (into_iter_items l.ends-iterator);
  ports : l.ports.items ≡ map (λ ends. ends.port) l.yielded;
  counted : vec_len l.lanes ≡ sum_by (λ ends. vec_len ends.outlets) l.yielded;
}
