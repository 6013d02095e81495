use Rattle.receiver_laws.proofs.ReceptionLegal.{tells_words}
use Rattle.receiver_laws.proofs.words.Goals as goal

pub returns : goal.returns
returns c = tells_words
