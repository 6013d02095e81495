use Rattle.std.proofs.Common.{slice_index}
use Rattle.user_queues.specs.Opened.{IsOpenedFor}
use Rattle.user_queues.proofs.OpeningFacts.{count_with_one_more, each_with_one_more}
use Rattle.user_queues.proofs.queues.open.Goals as goal

pub loop-user-preserved : goal.loop-user-preserved
loop-user-preserved g c =
    let pushed = c.in_ok-push.ensures.items in record {
      count = count_with_one_more c.loop-user.users.items c.push.new.self.items c.in_ok-open_user.field-0 c.loop-user.user
          c.loop-user.invariant.count pushed;
      opened = each_with_one_more
          (λ user ends. IsOpenedFor user (slice_index c.args.lanes.now user) c.args.capacity ends.port ends.outlets.items)
          c.loop-user.users.items c.push.new.self.items c.in_ok-open_user.field-0 c.loop-user.user c.loop-user.invariant.count pushed
          c.loop-user.invariant.opened c.in_ok-open_user.ensures;
    }
