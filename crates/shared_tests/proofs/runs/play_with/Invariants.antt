use Rattle.shared_entity.specs.Opening.{queue_in, lanes_in}
use Rattle.shared_tests.proofs.runs.play_with.Given as goal

-- the queues that were just opened
abbrev pub ghosts-play_named : goal.ghosts-play_named
ghosts-play_named g a = record {
  queue = queue_in a.queues;
  lanes = lanes_in a.queues;
}
