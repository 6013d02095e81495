use Rattle.journal_scripts.proofs.LineFacts.{reads_back}
use Rattle.journal_scripts.proofs.laws.reads_back.Goals as goal

pub returns : goal.returns
returns c = reads_back
