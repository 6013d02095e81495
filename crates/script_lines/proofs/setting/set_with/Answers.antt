use Rattle.std.proofs.Common.{not, ap, ◌∙◌}
use Rattle.script_lines.proofs.SettingFacts.{set_none}
use Rattle.script_lines.proofs.setting.set_with.Goals as goal

pub returns-in_err-last_word : goal.returns-in_err-last_word
returns-in_err-last_word c =
    c.from_residual.ensures
    ∙ set_none c.args.name.now c.args.value.now c.args.operands (c.is_none.ensures ∙ ap not c.if-is_none.false) c.in_err-last_word.ensures
