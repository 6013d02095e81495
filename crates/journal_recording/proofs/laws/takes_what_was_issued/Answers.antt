use Rattle.journal_recording.proofs.TakeFacts.{issued_taken}
use Rattle.journal_recording.proofs.laws.takes_what_was_issued.Goals as goal

pub returns : goal.returns
returns c = issued_taken
