use Rattle.queue_tests.proofs.Turns.{may_put, holds_next}
use Rattle.benches.proofs.queues.listed.put_next.Goals as goal

pub put-requires-clause-goes_on : goal.put-requires-clause-goes_on
put-requires-clause-goes_on c =
    may_put c.args.queue.now 0 c.args.number c.in_ok-bundle.bundle c.requires.holds c.in_ok-bundle.ensures

pub returns : goal.returns
returns c =
    holds_next c.args.queue.now c.put.new.queue 0 c.args.number c.in_ok-bundle.bundle c.put.result
    c.requires.holds c.in_ok-bundle.ensures c.put.ensures.taken c.put.ensures.back
