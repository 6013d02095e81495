use Rattle.std.proofs.Common.{◌<◌, ◌∙◌, sym, ap, suc, length, drop, get_or, drop-cons, arith}
use Rattle.line_words.proofs.Numbers.{decimal_rest, decimal_of-nonempty, decimal_rest-refused}
use Rattle.line_words.proofs.words.decimal.Goals as goal

pub returns-in_err-value : goal.returns-in_err-value
returns-in_err-value c =
    let word = c.args.word.now in
    let at = c.loop-digit.digit-index in
    let some : 0 < length word = omega arith in
    let cut = ap (decimal_rest c.args.limit c.loop-digit.value) (drop-cons word at 0 (omega arith)) in
    let refused = decimal_rest-refused c.args.limit c.loop-digit.value (get_or word at 0) (drop (suc at) word) c.in_err-value.ensures in
    c.from_residual.ensures ∙ sym (decimal_of-nonempty c.args.limit word some ∙ c.loop-digit.invariant.rest ∙ cut ∙ refused)
