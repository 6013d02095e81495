use Rattle.std.proofs.Common.{◌≡◌, ◌∷◌, All, List, length, map, vec_len, sym, subst, ◌∙◌, arith}
use Rattle.std.specs.List.{sum_by}
use Rattle.std.specs.Vec.Iter.{into_iter_items}
use Rattle.std.proofs.lemmas.List.Elements.{All-map}
use Rattle.entity_routing.specs.Places.{lanes_of}
use Rattle.user_queues.specs.Shared.{PortEnd}
use Rattle.user_queues.specs.declared.queues.UserQueue.{UserQueue}
use Rattle.shared_entity.proofs.QueueFacts.{opened_fresh, opened_named, all_by_place, get_middle, all_yielded}
use Rattle.shared_entity.proofs.entity.Entity.open.Goals as goal

pub add_lanes-requires : goal.add_lanes-requires
add_lanes-requires g c =
    let at = c.loop-ends in
    let ends = c.in-Some.ends in
    let steps : into_iter_items at.ends-iterator ≡ ends ∷ into_iter_items c.next.new.self = c.in-Some.ensures.steps.0 in
    let is = get_middle c.args.queues.users.items at.yielded ends (into_iter_items c.next.new.self) (rw (← steps) at.invariant.all) in
    opened_fresh g.N.Names.queue (length at.yielded) (lanes_of c.args.config (length at.yielded)) c.args.config.entity.capacity ends.port ends.outlets.items
    (c.requires.opened.opened (length at.yielded) ends is) (c.requires.named (length at.yielded) ends is)

pub new-requires : goal.new-requires
new-requires g c =
    let at = c.loop-ends in
    let all = all_yielded at.yielded (into_iter_items at.ends-iterator) c.args.queues.users.items at.invariant.all
    (sym at.invariant.long ∙ c.in-None.ensures.steps.0) in
    let counted = subst (λ (l : List (UserQueue g.row.R.Denot)). vec_len at.lanes ≡ sum_by (λ ends. vec_len ends.outlets) l) all at.invariant.counted in
    omega (arith, counted, c.requires.lanes_named, c.len-3.ensures)

pub returns-clause-ports : goal.returns-clause-ports
returns-clause-ports g c =
    let at = c.loop-ends in
    let all = all_yielded at.yielded (into_iter_items at.ends-iterator) c.args.queues.users.items at.invariant.all
    (sym at.invariant.long ∙ c.in-None.ensures.steps.0) in
    subst (λ (l : List (UserQueue g.row.R.Denot)). at.ports.items ≡ map (λ ends. ends.port) l) all at.invariant.ports

pub returns-clause-named : goal.returns-clause-named
returns-clause-named g c =
    let queue = g.N.Names.queue in
    let config = c.args.config in
    let users = c.args.queues.users.items in
    let named = λ (port : PortEnd). port.queue ≡ queue port.knows.user in
    let ports : c.loop-ends.ports.items ≡ map (λ ends. ends.port) users =
    subst (λ (l : List (UserQueue g.row.R.Denot)). c.loop-ends.ports.items ≡ map (λ ends. ends.port) l)
    (all_yielded c.loop-ends.yielded (into_iter_items c.loop-ends.ends-iterator) users c.loop-ends.invariant.all
    (sym c.loop-ends.invariant.long ∙ c.in-None.ensures.steps.0)) c.loop-ends.invariant.ports in
    subst (All named) (sym ports)
    (All-map named (λ (ends : UserQueue g.row.R.Denot). ends.port) users
    (all_by_place (λ (ends : UserQueue g.row.R.Denot). named ends.port) users
    (λ user ends is. opened_named queue user (lanes_of config user) config.entity.capacity ends.port ends.outlets.items (c.requires.opened.opened user ends is)
    (c.requires.named user ends is))))
