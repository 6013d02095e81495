use Rattle.crossbeam_queue.specs.Passes.{ruled_capacity}
use Rattle.queue_rule.proofs.steps.open_port.Given as goal

abbrev pub ghosts-named_port : goal.ghosts-named_port
ghosts-named_port a = record { user = a.user; room = ruled_capacity a.queue.now }
