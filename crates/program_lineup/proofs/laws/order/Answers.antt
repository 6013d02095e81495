use Rattle.program_lineup.proofs.OrderFacts.{all_in_order}
use Rattle.program_lineup.proofs.laws.order.Goals as goal

pub returns : goal.returns
returns c = all_in_order
