use Rattle.world_laws.proofs.KeyFacts.{tells_at_home}
use Rattle.world_laws.proofs.laws.keys.Goals as goal

pub returns : goal.returns
returns c = tells_at_home
