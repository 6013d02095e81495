use Rattle.shared_entity.specs.Opening.{queue_in, lanes_in}
use Rattle.cfdp_send.proofs.named.put_named.Given as goal

-- the queues that were just opened
abbrev pub ghosts-put_opened : goal.ghosts-put_opened
ghosts-put_opened g a = record {
  queue = queue_in a.queues;
  lanes = lanes_in a.queues;
}
