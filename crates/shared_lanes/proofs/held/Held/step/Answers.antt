use Rattle.std.proofs.Common.{subst}
use Rattle.shared_lanes.specs.Held.{HeldValue, HasStepped}
use Rattle.shared_lanes.proofs.HeldFacts.{behind_stepped, has_stepped}
use Rattle.shared_lanes.proofs.held.Held.step.Goals as goal

pub invariant_of-self : goal.invariant_of-self
invariant_of-self g c =
    behind_stepped g.N.Names.queue (record { lane = c.self.inside.lane; outlet = c.self.inside.outlet })
    (record { lane = c.step.new.self; outlet = c.step.new.outlet }) c.args.event.now c.step.result c.self.invariant c.requires
    c.step.ensures.taken c.step.ensures.handed c.step.ensures.left

pub returns : goal.returns
returns g c =
    subst (λ (old : HeldValue). HasStepped old c.args.event.now c.step.result (record { lane = c.step.new.self; outlet = c.step.new.outlet })) c.self.view_is
    (has_stepped (record { lane = c.self.inside.lane; outlet = c.self.inside.outlet })
    (record { lane = c.step.new.self; outlet = c.step.new.outlet }) c.args.event.now c.step.result
    c.step.ensures.taken c.step.ensures.handed c.step.ensures.left)
