use Rattle.std.proofs.Common.{◌≡◌}
use Rattle.queue_tests.specs.Ended.{AreEnded}
use Rattle.benches.proofs.queues.shared.produce.Given as goal

abbrev pub invariant-loop-seq : goal.invariant-loop-seq
invariant-loop-seq g l = record {
  of_user : l.outlet.knows.user ≡ 0;
  of_lane : l.outlet.knows.lane ≡ l.lane;
  ended : AreEnded 0 l.lane (record { 0 = 1 }) l.seq l.outlet.knows.sent;
}
