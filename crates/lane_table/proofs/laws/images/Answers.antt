use Rattle.lane_table.proofs.ImageFacts.{gives_own_files}
use Rattle.lane_table.proofs.laws.images.Goals as goal

pub returns : goal.returns
returns c = gives_own_files
