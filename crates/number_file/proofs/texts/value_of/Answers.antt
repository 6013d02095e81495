use Rattle.std.proofs.Common.{sym, ◌∙◌, arith}
use Rattle.std.proofs.lemmas.Bool.{eqb-false}
use Rattle.number_file.proofs.TextFacts.{are_text, at_err, at_ok, not_parsed}
use Rattle.number_file.proofs.texts.value_of.Goals as goal

pub returns-in_err-ok : goal.returns-in_err-ok
returns-in_err-ok c =
    let wrong = at_err c.from_utf8.result _ _ c.from_utf8.ensures.cases c.in_err-ok.ensures.value in
    absurd (wrong.1.0 (are_text c.args.digits.now (sym c.are_digits.ensures ∙ c.if-not-are_digits.false)))

pub returns-in_err-number : goal.returns-in_err-number
returns-in_err-number c =
    let text = at_ok c.from_utf8.result _ _ c.in_ok-ok.field-0 c.from_utf8.ensures.cases c.in_ok-ok.ensures.value in
    c.from_residual-in_err-number.ensures ∙ not_parsed c.args.digits.now _ c.parse.result (omega (arith, eqb-false _ _ (sym c.is_empty.ensures ∙ c.if-is_empty.false))) (sym c.are_digits.ensures ∙ c.if-not-are_digits.false) text.0 c.parse.ensures.value.0 c.in_err-number.ensures.value
