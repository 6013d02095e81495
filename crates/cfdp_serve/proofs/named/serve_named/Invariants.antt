use Rattle.shared_entity.specs.Opening.{queue_in, lanes_in}
use Rattle.cfdp_serve.proofs.named.serve_named.Given as goal

-- the queues that were just opened
abbrev pub ghosts-serve_opened : goal.ghosts-serve_opened
ghosts-serve_opened g a = record {
  queue = queue_in a.queues;
  lanes = lanes_in a.queues;
}
