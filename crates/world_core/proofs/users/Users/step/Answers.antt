use Rattle.std.proofs.Common.{sym, subst}
use Rattle.world_core.specs.Standing.{UsersStandAfter}
use Rattle.world_core.proofs.StandFacts.{post_at, may_step, taken_at, refused_at, ok_then, err_then}
use Rattle.world_core.proofs.users.Users.step.Goals as goal

pub step-requires-clause-lane : goal.step-requires-clause-lane
step-requires-clause-lane c =
    let may = c.requires.stands in
    let stand = subst (UsersStandAfter may.layout may.history) (sym c.self.view_is) may.stand in
    may_step may.layout may.history c.self.inside.parts.items c.args.user c.args.lane c.index_mut.result.now stand may.lane_is
    (post_at may.layout may.history c.self.inside.parts.items c.args.user c.index_mut.result.now stand may.lane_is.user_is c.index_mut.ensures.value)

pub returns-clause-taken : goal.returns-clause-taken
returns-clause-taken c = λ layout history stands at.
    let stand = subst (UsersStandAfter layout history) (sym c.self.view_is) stands in
    ok_then c.step.result c.step.ensures.taken
    (λ done step. taken_at layout history c.self.inside.parts.items c.args.user c.args.lane c.args.event.now c.index_mut.result.now c.step.new.self done
    stand at c.requires.keyed
    (post_at layout history c.self.inside.parts.items c.args.user c.index_mut.result.now stand at.user_is c.index_mut.ensures.value) step)

pub returns-clause-refused : goal.returns-clause-refused
returns-clause-refused c = λ layout history stands at.
    let stand = subst (UsersStandAfter layout history) (sym c.self.view_is) stands in
    err_then c.step.result c.step.ensures.refused
    (λ refused step. refused_at layout history c.self.inside.parts.items c.args.user c.args.lane c.args.event.now c.index_mut.result.now c.step.new.self refused
    stand at
    (post_at layout history c.self.inside.parts.items c.args.user c.index_mut.result.now stand at.user_is c.index_mut.ensures.value) step)
