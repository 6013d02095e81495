use Rattle.std.proofs.Common.{◌≡◌}
use Rattle.shared_tests.proofs.closing.take_all.Given as goal

abbrev pub invariant-loop : goal.invariant-loop
invariant-loop g l = record {
  queue : l.port.queue ≡ l.fn.port.queue;
  user : l.port.knows.user ≡ l.fn.port.knows.user;
}
