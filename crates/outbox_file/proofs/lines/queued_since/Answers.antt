use Rattle.std.proofs.Common.{◌≡◌, List, ℕ, Option, Bor, sym, ap, ◌∙◌, subst}
use Rattle.std.specs.Option.{option_copied}
use Rattle.std.specs.Prelude.{IfOk}
use Rattle.line_words.specs.Words.{words_left}
use Rattle.outbox_file.specs.declared.lines.Line.{Line}
use Rattle.outbox_file.specs.Texts.{entry_line, queued_since}
use Rattle.outbox_file.proofs.TextFacts.{queued_left}
use Rattle.outbox_file.proofs.lines.queued_since.Goals as goal

pub returns-in-Some : goal.returns-in-Some
returns-in-Some c =
    let same : queued_since c.args.number.now c.args.since.now (words_left (option_copied c.args.rest)) ≡ entry_line c.args.number.now c.args.since.now c.in-Some.words.now =
    ap (λ (rest : Option (Bor (List ℕ))). queued_since c.args.number.now c.args.since.now (words_left (option_copied rest))) c.in-Some.is
    ∙ queued_left c.args.number.now c.args.since.now c.in-Some.words.now in
    subst (λ (line : Option Line). IfOk c.entry_line.result (λ said. said ≡ line)) (sym same) c.entry_line.ensures
