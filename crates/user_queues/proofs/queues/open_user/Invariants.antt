use Rattle.std.proofs.Common.{◌≡◌}
use Rattle.user_queues.specs.Opened.{fresh_port, fresh_outlets}
use Rattle.user_queues.proofs.queues.open_user.Given as goal

abbrev pub invariant-loop-lane : goal.invariant-loop-lane
invariant-loop-lane g l = record {
  port : l.port.knows ≡ fresh_port l.user l.lane l.capacity;
  outlets : l.outlets.items ≡ fresh_outlets l.port.queue l.user l.capacity l.lane;
}
