use Rattle.world_laws.proofs.WordFacts.{tells_words}
use Rattle.world_laws.proofs.laws.words.Goals as goal

pub returns : goal.returns
returns c = tells_words
