use Rattle.std.proofs.Common.{◌≡◌, true, sym, ◌∙◌}
use Rattle.script_explained.specs.Words.{is_shown}
use Rattle.script_explained.proofs.NameFacts.{shown_is_text}
use Rattle.script_explained.proofs.names.shown_of.Goals as goal

pub returns-in-Err : goal.returns-in-Err
returns-in-Err c =
    let shown : is_shown c.args.name.now ≡ true = sym c.is_shown.ensures ∙ c.if-not-is_shown.false in
    absurd (c.in-Err.ensures.cases.0 (shown_is_text c.args.name.now shown))
