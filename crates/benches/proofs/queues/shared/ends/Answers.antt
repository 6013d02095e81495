use Rattle.std.proofs.Common.{rules, ◌≡◌, length, Some, All, sym, subst}
use Rattle.std.specs.Prelude.{slice_get}
use Rattle.user_queues.specs.Opened.{IsOpenedFor}
use Rattle.user_queues.specs.Shared.{OutletEnd}
use Rattle.user_queues.proofs.OpeningFacts.{only_one}
use Rattle.queue_tests.specs.Senders.{IsFreshLane}
use Rattle.queue_tests.proofs.FreshLanes.{fresh_lanes}
use Rattle.benches.proofs.queues.shared.ends.Goals as goal

pub returns : goal.returns
returns g c =
    let count : length c.in_ok-queues.queues.users.items ≡ 1 = search rules in
    let one : slice_get c.in_ok-queues.queues.users.items 0 ≡ Some c.in-Some.only =
    only_one c.in_ok-queues.queues.users.items c.pop.new.self.items c.in-Some.only count c.in-Some.ensures.items in
    let opened : IsOpenedFor 0 c.args.lanes c.args.room c.in-Some.only.port c.in-Some.only.outlets.items =
    c.in_ok-queues.ensures.opened 0 c.in-Some.only one in
    subst (All (λ (o : OutletEnd). IsFreshLane o o.knows.lane)) (sym opened.of_lanes)
    (fresh_lanes c.in-Some.only.port.queue c.args.room c.args.lanes)
