use Rattle.std.proofs.Common.{rules, ◌≡◌, ◌+◌, true, ap, sym, ◌∙◌, subst}
use Rattle.queue_tests.specs.Ended.{AreEnded}
use Rattle.queue_tests.proofs.EndedLists.{may_go_on, next_ended}
use Rattle.benches.proofs.queues.shared.produce.Goals as goal

pub offer-requires-clause-goes_on : goal.offer-requires-clause-goes_on
offer-requires-clause-goes_on g c =
    let made = c.in_ok-bundle.ensures in
    may_go_on 0 c.args.lane (record { 0 = 1 }) c.loop-seq.seq c.loop-seq.outlet.knows.sent c.in_ok-bundle.bundle c.loop-seq.invariant.ended
    made.0 made.1 made.2 made.3

pub loop-seq-preserved : goal.loop-seq-preserved
loop-seq-preserved g c =
    let made = c.in_ok-bundle.ensures in
    let taken : c.offer.result ≡ true = search rules in
    let more = c.offer.ensures taken in record {
      of_user = ap (λ o. o.user) more ∙ c.loop-seq.invariant.of_user;
      of_lane = ap (λ o. o.lane) more ∙ c.loop-seq.invariant.of_lane;
      ended = subst (AreEnded 0 c.args.lane (record { 0 = 1 }) (c.loop-seq.seq + 1)) (sym (ap (λ o. o.sent) more))
          (next_ended 0 c.args.lane (record { 0 = 1 }) c.loop-seq.seq c.loop-seq.outlet.knows.sent c.in_ok-bundle.bundle c.loop-seq.invariant.ended
          made.0 made.1 made.2 made.3);
    }
