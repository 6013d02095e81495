use Rattle.std.proofs.Common.{◌≡◌, All}
use Rattle.std.specs.Vec.Iter.{into_iter_items}
use Rattle.user_queues.specs.Shared.{PortEnd}
use Rattle.shared_tests.proofs.runs.play_first.Given as goal

abbrev pub invariant-loop-port : goal.invariant-loop-port
invariant-loop-port g l = All (λ (port : PortEnd). port.queue ≡ g.N.Names.queue port.knows.user) (into_iter_items l.port-iterator)
