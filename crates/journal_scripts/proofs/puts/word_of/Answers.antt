use Rattle.std.proofs.Common.{◌≡◌, true, sym, ◌∙◌}
use Rattle.journal_scripts.specs.Rows.{is_word}
use Rattle.journal_scripts.proofs.WordFacts.{word_is_text}
use Rattle.journal_scripts.proofs.puts.word_of.Goals as goal

pub returns-in-Err : goal.returns-in-Err
returns-in-Err c =
    let word : is_word c.args.name.now ≡ true = sym c.is_word.ensures ∙ c.if-not-is_word.false in
    absurd (c.in-Err.ensures.cases.0 (word_is_text c.args.name.now word))
