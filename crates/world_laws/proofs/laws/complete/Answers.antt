use Rattle.world_laws.proofs.WordFacts.{delivers_files}
use Rattle.world_laws.proofs.laws.complete.Goals as goal

pub returns : goal.returns
returns c = delivers_files
