use Rattle.user_queues.proofs.OpeningFacts.{is_next, one_lane_more, one_outlet_more}
use Rattle.user_queues.proofs.queues.open_user.Goals as goal

pub next_lane-requires : goal.next_lane-requires
next_lane-requires g c =
    is_next c.args.user c.loop-lane.lane c.args.capacity c.loop-lane.port.knows c.loop-lane.invariant.port

pub loop-lane-preserved : goal.loop-lane-preserved
loop-lane-preserved g c =
    let next = c.in_ok-next_lane.ensures in record {
      port = one_lane_more c.args.user c.loop-lane.lane c.args.capacity c.loop-lane.port c.next_lane.new.self
          c.in_ok-next_lane.field-0 c.loop-lane.invariant.port next;
      outlets = one_outlet_more c.args.user c.loop-lane.lane c.args.capacity c.loop-lane.port c.next_lane.new.self
          c.in_ok-next_lane.field-0 c.loop-lane.outlets.items c.push.new.self.items
          c.loop-lane.invariant.port next c.loop-lane.invariant.outlets c.in_ok-push.ensures.items;
    }
