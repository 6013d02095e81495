use Rattle.world_laws.proofs.EndFacts.{tells_nothing_more}
use Rattle.world_laws.proofs.laws.ended.Goals as goal

pub returns : goal.returns
returns c = tells_nothing_more
