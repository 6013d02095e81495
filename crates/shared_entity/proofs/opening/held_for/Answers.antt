use Rattle.shared_entity.proofs.OpeningFacts.{fresh_behind}
use Rattle.shared_entity.proofs.opening.held_for.Goals as goal

pub new-requires : goal.new-requires
new-requires g c =
    fresh_behind g.N.Names.queue c.args.config.now c.args.outlet c.user.result c.lane.result c.lane_for.result c.requires
    c.user.ensures c.lane.ensures c.lane_for.ensures.lane c.lane_for.ensures.sound
