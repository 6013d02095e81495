use Rattle.std.proofs.Common.{rules, ap, sym, ◌∙◌}
use Rattle.std.specs.Arc.{arc_value}
use Rattle.crossbeam_queue.specs.Passes.{view}
use Rattle.queue_rule.specs.Passes.{IsPortOf}
use Rattle.queue_rule.specs.Views.{outlet_in, port_in}
use Rattle.user_queues.proofs.MarkFacts.{marked}
use Rattle.user_queues.proofs.user_port.UserPort.admit.Goals as goal

pub invariant_of-self : goal.invariant_of-self
invariant_of-self g c =
    let known = c.admit.ensures.known in
    let port : IsPortOf (arc_value c.self.inside.queue) c.admit.new.pass = search rules in (
      port,
      c.self.invariant.1 ∙ sym (ap (λ p. p.user) known),
      marked c.self.inside.admitted.items c.mark.new.lanes.items (port_in (view c.self.inside.pass)) (port_in (view c.admit.new.pass))
          c.args.outlet.knows (outlet_in (view c.into_pass.result)) c.lane-lane.result c.self.invariant.2 known
          (ap (λ e. e.knows) c.into_pass.ensures.end) c.lane-lane.ensures c.mark.ensures,
    )
