use Rattle.queue_tests.proofs.Turns.{holds_taken}
use Rattle.queue_tests.proofs.both_queues.listed_turn.Goals as goal

pub returns-in-Take : goal.returns-in-Take
returns-in-Take c =
    holds_taken c.args.queue.now c.take.new.self c.args.number c.take.result c.requires.holds c.take.ensures.none c.take.ensures.front
