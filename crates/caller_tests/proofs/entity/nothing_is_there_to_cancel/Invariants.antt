use Rattle.shared_entity.specs.Opening.{queue_in, lanes_in}
use Rattle.caller_tests.proofs.entity.nothing_is_there_to_cancel.Given as goal

-- the queues that were just opened
abbrev pub ghosts-refuses : goal.ghosts-refuses
ghosts-refuses g a = record {
  queue = queue_in a.queues;
  lanes = lanes_in a.queues;
}
