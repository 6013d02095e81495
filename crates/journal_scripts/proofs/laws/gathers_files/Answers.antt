use Rattle.journal_scripts.proofs.LineFacts.{gathers_files}
use Rattle.journal_scripts.proofs.laws.gathers_files.Goals as goal

pub returns : goal.returns
returns c = gathers_files
