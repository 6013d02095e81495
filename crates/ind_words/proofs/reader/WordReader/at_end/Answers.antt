use Rattle.ind_words.proofs.ReadingLemmas.{ends_word}
use Rattle.ind_words.proofs.reader.WordReader.at_end.Goals as goal

pub returns : goal.returns
returns c = λ side room word stands. ends_word c.args.self.now side room word stands
