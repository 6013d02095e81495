use Rattle.queue_tests.specs.Senders.{BothSend}
use Rattle.queue_tests.proofs.both_queues.shared.Given as goal

abbrev pub invariant-loop-number : goal.invariant-loop-number
invariant-loop-number g l = BothSend l.ends.first l.ends.second l.number
