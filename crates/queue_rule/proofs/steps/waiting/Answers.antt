use Rattle.crossbeam_queue.specs.Passes.{view}
use Rattle.queue_rule.specs.Views.{port_in}
use Rattle.queue_rule.proofs.Answered.{may_take}
use Rattle.queue_rule.proofs.steps.waiting.Goals as goal

pub len_as-requires-clause-rule : goal.len_as-requires-clause-rule
len_as-requires-clause-rule g c =
    (may_take c.args.pass.now.id (view c.args.pass.now) (port_in (view c.args.pass.now)) c.requires.pass.port).1
