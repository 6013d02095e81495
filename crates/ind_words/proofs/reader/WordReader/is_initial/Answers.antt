use Rattle.ind_words.proofs.reader.WordReader.is_initial.Goals as goal

pub returns-in-Some : goal.returns-in-Some
returns-in-Some c = rw c.in-Some.is c.is_initial.ensures
