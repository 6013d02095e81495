use Rattle.std.proofs.Common.{◌∙◌}
use Rattle.number_file.proofs.TextFacts.{apart}
use Rattle.number_file.proofs.file.write_number.Goals as goal

pub replace_beside-requires-clause-apart : goal.replace_beside-requires-clause-apart
replace_beside-requires-clause-apart g c = apart _ _ (c.as_str.ensures.value ∙ c.in-Ok.ensures.ok)
