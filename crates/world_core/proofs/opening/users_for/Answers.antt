use Rattle.std.proofs.Common.{[], sym, subst}
use Rattle.entity_config.proofs.Limits.{has_users, has_lanes}
use Rattle.world_core.specs.Standing.{IsPostAfter, UsersStandAfter}
use Rattle.world_core.specs.Opening.{layout_of}
use Rattle.world_core.proofs.OpeningFacts.{one_made, users_made, all_made, made_at}
use Rattle.world_core.proofs.opening.users_for.Goals as goal

pub loop-user-preserved : goal.loop-user-preserved
loop-user-preserved c =
    one_made (λ place part. IsPostAfter (layout_of c.args.config.now) [] place part) c.loop-user.parts.items c.push.new.self.items c.loop-user.user
    c.in_ok-part_for.field-0 c.loop-user.invariant c.in_ok-push.ensures.items c.in_ok-part_for.ensures

pub returns-clause-stand : goal.returns-clause-stand
returns-clause-stand c =
    let config = c.args.config.now in
    subst (UsersStandAfter (layout_of config) []) (sym c.new.ensures)
    (users_made config c.loop-user.parts.items c.users-count.result c.users-count.ensures (has_lanes config c.entity-capacity.ensures.kept).put
    (has_users config c.entity-capacity.ensures.kept)
    (made_at (λ place part. IsPostAfter (layout_of config) [] place part) c.loop-user.parts.items c.loop-user.user c.users-count.result
    c.loop-user.invariant (all_made c.loop-user.user c.users-count.result c.loop-user-test.false c.loop-user.auto.user-end)))
