use Rattle.std.proofs.Common.{arith}
use Rattle.shared_entity.proofs.QueueFacts.{one_named}
use Rattle.shared_entity.proofs.entity.Entity.into_lanes.Goals as goal

pub loop-held-preserved : goal.loop-held-preserved
loop-held-preserved g c =
    let at = c.loop-held in record {
      counted =
          let was = at.invariant.counted in
          let more = c.push_reserved.ensures.len in
          let gone = c.in-Some.ensures.steps.1 in
          omega arith;
      room = omega (arith, at.invariant.room, c.push_reserved.ensures.capacity);
      named = one_named g.N.Names.queue at.outlets.items c.push_reserved.new.self.items c.into_outlet.result c.push_reserved.ensures.items
          at.invariant.named c.into_outlet.ensures.queue;
    }
