use Rattle.queue_tests.specs.Senders.{HoldsOver}
use Rattle.benches.proofs.queues.listed.come.Given as goal

abbrev pub invariant-loop-number : goal.invariant-loop-number
invariant-loop-number l = HoldsOver l.queue l.number
