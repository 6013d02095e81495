use Rattle.program_parking.proofs.RunFacts.{line_ordered}
use Rattle.program_parking.proofs.laws.order.Goals as goal

pub returns : goal.returns
returns c = line_ordered
