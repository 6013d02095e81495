use Rattle.std.proofs.Common.{sym, subst}
use Rattle.world_core.specs.Standing.{UsersStandAfter, lane_in}
use Rattle.world_core.proofs.StandFacts.{post_at}
use Rattle.world_core.proofs.users.Users.image.Goals as goal

pub returns-clause-image : goal.returns-clause-image
returns-clause-image c = λ layout history stands at.
    let stand = subst (UsersStandAfter layout history) (sym c.self.view_is) stands in
    let is = post_at layout history c.self.inside.parts.items c.args.user c.index.result.now stand at.user_is c.index.ensures in
    c.image.ensures.image (lane_in layout history c.args.user c.args.lane) ((stand.each c.args.user c.index.result.now is).lanes c.args.lane at.lane_is)

pub returns-clause-refused : goal.returns-clause-refused
returns-clause-refused c = λ layout history stands at.
    let stand = subst (UsersStandAfter layout history) (sym c.self.view_is) stands in
    let is = post_at layout history c.self.inside.parts.items c.args.user c.index.result.now stand at.user_is c.index.ensures in
    c.image.ensures.refused (lane_in layout history c.args.user c.args.lane) ((stand.each c.args.user c.index.result.now is).lanes c.args.lane at.lane_is)
