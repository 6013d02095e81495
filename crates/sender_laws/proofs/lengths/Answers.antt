use Rattle.sender_laws.proofs.SendingLength.{fits_journal}
use Rattle.sender_laws.proofs.lengths.Goals as goal

pub returns : goal.returns
returns c = fits_journal
