use Rattle.std.proofs.Common.{◌≡◌, All, sym, subst}
use Rattle.std.specs.Vec.Iter.{into_iter_items}
use Rattle.std.proofs.lemmas.List.Elements.{All-head}
use Rattle.user_queues.specs.Shared.{PortEnd}
use Rattle.shared_tests.proofs.runs.play_first.Goals as goal

pub loop-port-init : goal.loop-port-init
loop-port-init g c =
    let named = λ (port : PortEnd). port.queue ≡ g.N.Names.queue port.knows.user in
    subst (All named) (sym c.into_iter-port-iterator.ensures.into_iter_gives.0) c.requires

pub deliver_two-requires-after_bounds : goal.deliver_two-requires-after_bounds
deliver_two-requires-after_bounds g c = λ lifetimes outlive.
    let named = λ (port : PortEnd). port.queue ≡ g.N.Names.queue port.knows.user in
    All-head named c.in-Some.port (into_iter_items c.next.new.self) (subst (All named) c.in-Some.ensures.steps.0 c.loop-port.invariant)
