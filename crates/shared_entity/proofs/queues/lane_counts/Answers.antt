use Rattle.std.proofs.Common.{◌≡◌}
use Rattle.entity_routing.specs.Places.{lanes_of}
use Rattle.user_queues.proofs.OpeningFacts.{count_with_one_more, each_with_one_more}
use Rattle.shared_entity.proofs.queues.lane_counts.Goals as goal

pub loop-user-preserved : goal.loop-user-preserved
loop-user-preserved c = record {
  count = count_with_one_more c.loop-user.counts.items c.push.new.self.items c.lanes_of.result c.loop-user.user c.loop-user.invariant.count
      c.in_ok-push.ensures.items;
  each = each_with_one_more (λ user count. count ≡ lanes_of c.args.config.now user) c.loop-user.counts.items c.push.new.self.items c.lanes_of.result
      c.loop-user.user c.loop-user.invariant.count c.in_ok-push.ensures.items c.loop-user.invariant.each c.lanes_of.ensures;
}
