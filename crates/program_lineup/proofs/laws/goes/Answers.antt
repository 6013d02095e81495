use Rattle.program_lineup.proofs.ChoiceFacts.{goes_free}
use Rattle.program_lineup.proofs.laws.goes.Goals as goal

pub returns : goal.returns
returns c = goes_free
