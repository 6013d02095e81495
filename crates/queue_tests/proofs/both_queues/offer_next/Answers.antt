use Rattle.queue_tests.proofs.Turns.{may_send, sends_next}
use Rattle.queue_tests.proofs.both_queues.offer_next.Goals as goal

pub offer-is_taken-requires-clause-goes_on : goal.offer-is_taken-requires-clause-goes_on
offer-is_taken-requires-clause-goes_on g c =
    may_send c.args.outlet.now c.args.lane c.args.number c.in_ok-bundle.bundle c.requires.sends c.in_ok-bundle.ensures

pub returns : goal.returns
returns g c =
    sends_next c.args.outlet.now c.offer-is_taken.new.outlet c.args.lane c.args.number c.in_ok-bundle.bundle
    c.offer-is_taken.result c.requires.sends c.in_ok-bundle.ensures c.offer-is_taken.ensures.taken c.offer-is_taken.ensures.back
