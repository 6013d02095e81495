use Rattle.receiver_laws.proofs.ReceptionLength.{fits_journal}
use Rattle.receiver_laws.proofs.lengths.Goals as goal

pub returns : goal.returns
returns c = fits_journal
