use Rattle.std.proofs.Common.{Err, ◌∙◌, sym, ap, arith}
use Rattle.ctl_windows.proofs.Counts.{too_few, too_many}
use Rattle.ctl_windows.proofs.window.read_window.Goals as goal

pub returns-in_default : goal.returns-in_default
returns-in_default c =
    ap Err c.wrong.ensures ∙ sym (too_few (λ word. word.now) c.args.line c.args.words.now (omega (arith, c.in_default.len_below)))

pub returns-in-len5-up : goal.returns-in-len5-up
returns-in-len5-up c =
    ap Err c.wrong-in-len5-up.ensures ∙ sym (too_many (λ word. word.now) c.args.line c.args.words.now (omega (arith, c.in-len5-up.len_at_least)))
