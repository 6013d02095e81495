use Rattle.crossbeam_queue.specs.Passes.{view}
use Rattle.queue_rule.specs.Views.{port_in}
use Rattle.queue_rule.proofs.Answered.{may_split}
use Rattle.queue_rule.proofs.steps.next_lane.Goals as goal

pub another-requires-clause-rule : goal.another-requires-clause-rule
another-requires-clause-rule c =
    may_split c.args.pass.now.id (view c.args.pass.now) (port_in (view c.args.pass.now)) c.requires.port.port
