use Rattle.queue_rule.proofs.Keeping.{begins}
use Rattle.queue_rule.proofs.steps.open.Goals as goal

pub ruled-requires-clause-rule : goal.ruled-requires-clause-rule
ruled-requires-clause-rule c = begins
