use Rattle.std.proofs.Common.{sym, ◌∙◌}
use Rattle.line_words.proofs.WordFacts.{only_word-first}
use Rattle.line_words.proofs.words.last_word.Goals as goal

pub returns-then-is_some : goal.returns-then-is_some
returns-then-is_some c = only_word-first _ _ _ c.in_ok-word.ensures (sym c.is_some.ensures ∙ c.if-is_some.true)
