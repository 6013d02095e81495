use Rattle.program_agenda.proofs.PaceFacts.{keeps_to_rate}
use Rattle.program_agenda.proofs.laws.paces.Goals as goal

pub returns : goal.returns
returns c = keeps_to_rate
