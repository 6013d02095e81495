use Rattle.queue_tests.proofs.Turns.{holds_taken}
use Rattle.benches.proofs.queues.listed.take_one.Goals as goal

pub returns : goal.returns
returns c =
    holds_taken c.args.queue.now c.take.new.self c.args.number c.take.result c.requires.holds c.take.ensures.none c.take.ensures.front
