use Rattle.line_words.proofs.Texts.{name_is_text}
use Rattle.line_words.proofs.places.user_of.Goals as goal

pub returns-in-Err : goal.returns-in-Err
returns-in-Err c =
    absurd (c.in-Err.ensures.cases.0 (name_is_text c.args.word.now c.in_ok-name.name.now c.in_ok-name.ensures))
