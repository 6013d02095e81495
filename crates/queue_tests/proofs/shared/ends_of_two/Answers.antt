use Rattle.std.proofs.Common.{IfSome, All, subst}
use Rattle.user_queues.specs.Opened.{IsOpenedFor}
use Rattle.user_queues.specs.Shared.{OutletEnd}
use Rattle.queue_tests.specs.Senders.{IsFreshLane}
use Rattle.queue_tests.proofs.FreshLanes.{two_outlets}
use Rattle.queue_tests.proofs.shared.ends_of_two.Goals as goal

pub returns : goal.returns
returns g c =
    let opened : IsOpenedFor 0 2 c.args.capacity c.in-Some.field-0.port c.in-Some.field-0.outlets.items =
    (subst (λ o. IfSome o (λ e. IsOpenedFor 0 2 c.args.capacity e.port e.outlets.items
    × All (λ (d : OutletEnd). IsFreshLane d d.knows.lane) e.outlets.items)) c.in-Some.is c.in_ok-port.ensures).0 in
    two_outlets c.in-Some.field-0.port.queue c.args.capacity c.in-Some.field-0.outlets.items c.pop.new.self.items c.pop-2.new.self.items
    c.in-Some-pop-2.first c.in-Some-pop.second opened.of_lanes c.in-Some-pop.ensures.items c.in-Some-pop-2.ensures.items
