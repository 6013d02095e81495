use Rattle.journal_recording.proofs.TakeFacts.{all_taken}
use Rattle.journal_recording.proofs.laws.takes_all.Goals as goal

pub returns : goal.returns
returns c = all_taken
