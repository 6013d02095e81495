use Rattle.lane_table.proofs.LengthFacts.{fits_journal}
use Rattle.lane_table.proofs.laws.lengths.Goals as goal

pub returns : goal.returns
returns c = fits_journal
