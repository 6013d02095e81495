use Rattle.crossbeam_queue.specs.Passes.{view}
use Rattle.queue_rule.specs.Views.{outlet_in, port_in}
use Rattle.queue_rule.proofs.Answered.{may_admit}
use Rattle.queue_rule.proofs.steps.admit.Goals as goal

pub absorb-requires-clause-rule : goal.absorb-requires-clause-rule
absorb-requires-clause-rule c =
    may_admit c.args.pass.now.id c.args.outlet.id (view c.args.pass.now) (view c.args.outlet)
    (port_in (view c.args.pass.now)) (outlet_in (view c.args.outlet)) c.requires.port.port c.requires.outlet.1
