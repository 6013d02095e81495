use Rattle.shared_entity.specs.Opening.{queue_in, lanes_in}
use Rattle.benches.proofs.entities.deliveries.come.Given as goal

-- the queues that were just opened
abbrev pub ghosts-come_named : goal.ghosts-come_named
ghosts-come_named g a = record {
  queue = queue_in a.queues;
  lanes = lanes_in a.queues;
}
