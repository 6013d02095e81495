use Rattle.crossbeam_queue.specs.Passes.{view}
use Rattle.queue_rule.specs.Views.{port_in}
use Rattle.queue_rule.proofs.Answered.{may_take, is_whole, is_orderly}
use Rattle.queue_rule.proofs.steps.take.Goals as goal

pub pop_as-requires-clause-rule : goal.pop_as-requires-clause-rule
pop_as-requires-clause-rule g c =
    may_take c.args.pass.now.id (view c.args.pass.now) (port_in (view c.args.pass.now)) c.requires.pass.port

pub returns-clause-whole : goal.returns-clause-whole
returns-clause-whole g c =
    is_whole (view c.args.pass.now) (view c.pop_as.new.pass) (port_in (view c.args.pass.now)) c.pop_as.result
    c.requires.pass.port c.pop_as.ensures.rule

pub returns-clause-orderly : goal.returns-clause-orderly
returns-clause-orderly g c =
    is_orderly (view c.args.pass.now) (view c.pop_as.new.pass) (port_in (view c.args.pass.now)) c.pop_as.result
    c.requires.pass.port c.pop_as.ensures.rule
