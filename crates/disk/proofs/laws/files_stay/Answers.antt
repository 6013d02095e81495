use Rattle.disk.proofs.Spared.{stays_kept}
use Rattle.disk.proofs.laws.files_stay.Goals as goal

pub returns : goal.returns
returns c = stays_kept
