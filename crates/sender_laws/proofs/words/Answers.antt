use Rattle.sender_laws.proofs.SendingLegal.{tells_words}
use Rattle.sender_laws.proofs.words.Goals as goal

pub returns : goal.returns
returns c = tells_words
