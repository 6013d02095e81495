use Rattle.std.proofs.Common.{[], sym, ap, ◌∙◌}
use Rattle.indications.specs.LaneLists.{of_lane}
use Rattle.lane_table.specs.Lane.{State}
use Rattle.user_queues.specs.Queue.{Queue}
use Rattle.caller_tests.proofs.FreshLanes.{fresh_keeps}
use Rattle.caller_tests.proofs.lanes.refusal_of_idle.Goals as goal

-- the outlet is that of a queue that was just made, and nothing was sent from the lane
pub pump-requires : goal.pump-requires
pump-requires c =
    let lane = c.sending-lane.ensures in
    let queue = c.outlet-outlet.ensures.queue ∙ c.in_ok-queue.ensures in record {
      of_user = ap (λ (q : Queue). q.user) queue ∙ sym (ap (λ (s : State). s.user) lane);
      of_lane = c.outlet-outlet.ensures.lane ∙ sym (ap (λ (s : State). s.lane) lane);
      kept = (
        [],
        ([], sym (ap (λ (q : Queue). of_lane c.outlet-outlet.result.lane q.held) queue)),
        fresh_keeps c.sending-lane.result _ _ _ _ lane,
      );
    }
