use Rattle.std.proofs.Common.{◌≡◌}
use Rattle.shared_tests.proofs.closing.admit_own.Given as goal

abbrev pub invariant-loop-outlet : goal.invariant-loop-outlet
invariant-loop-outlet g l = l.port.queue ≡ g.N.Names.queue l.port.knows.user
