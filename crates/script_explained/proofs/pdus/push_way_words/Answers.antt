use Rattle.script_explained.proofs.pdus.push_way_words.Goals as goal

pub returns : goal.returns
returns c = rw (c.class_words-class.ensures, c.direction_words-direction.ensures) at c.write.ensures.bytes
