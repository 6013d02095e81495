use Rattle.crossbeam_queue.specs.Passes.{view}
use Rattle.queue_rule.proofs.Answered.{may_open}
use Rattle.queue_rule.proofs.steps.named_port.Goals as goal

pub another-requires-clause-rule : goal.another-requires-clause-rule
another-requires-clause-rule g c =
    may_open c.args.first.now.id (view c.args.first.now) g.U.QueueOfUser.user g.U.QueueOfUser.room c.requires.first.1
