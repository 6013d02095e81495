use Rattle.queue_tests.proofs.Turns.{may_put, holds_next}
use Rattle.queue_tests.proofs.both_queues.put_next.Goals as goal

pub put-is_taken-requires-clause-goes_on : goal.put-is_taken-requires-clause-goes_on
put-is_taken-requires-clause-goes_on c =
    may_put c.args.queue.now c.args.lane c.args.number c.in_ok-bundle.bundle c.requires.holds c.in_ok-bundle.ensures

pub returns : goal.returns
returns c =
    holds_next c.args.queue.now c.put-is_taken.new.queue c.args.lane c.args.number c.in_ok-bundle.bundle c.put-is_taken.result
    c.requires.holds c.in_ok-bundle.ensures c.put-is_taken.ensures.taken c.put-is_taken.ensures.back
