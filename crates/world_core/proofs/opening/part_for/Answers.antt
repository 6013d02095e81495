use Rattle.std.proofs.Common.{◌≡◌, ap, ◌∙◌}
use Rattle.user_queues.specs.Queue.{empty}
use Rattle.entity_parts.specs.FirstLanes.{first_lane}
use Rattle.world_core.proofs.OpeningFacts.{one_made, post_made, all_made, made_at, ready_made}
use Rattle.world_core.proofs.opening.part_for.Goals as goal

pub loop-lane-preserved : goal.loop-lane-preserved
loop-lane-preserved c =
    one_made (λ place lane. lane ≡ first_lane c.args.config.now c.args.user place) c.loop-lane.lanes.items c.push.new.self.items c.loop-lane.lane
    c.lane_for.result c.loop-lane.invariant c.in_ok-push.ensures.items c.lane_for.ensures.lane

pub returns : goal.returns
returns c =
    ready_made c.args.config.now c.args.user c.new-2.result
    (post_made c.args.config.now c.args.user c.lanes_of-count.result c.in_ok-queue.queue c.loop-lane.lanes.items c.lanes_of-count.ensures
    (c.in_ok-queue.ensures ∙ ap (empty c.args.user c.lanes_of-count.result) c.requires)
    (made_at (λ place lane. lane ≡ first_lane c.args.config.now c.args.user place) c.loop-lane.lanes.items c.loop-lane.lane c.lanes_of-count.result
    c.loop-lane.invariant (all_made c.loop-lane.lane c.lanes_of-count.result c.loop-lane-test.false c.loop-lane.auto.lane-end))) c.new-2.ensures
