use Rattle.std.proofs.Common.{◌∙◌}
use Rattle.outbox_file.proofs.FileFacts.{apart}
use Rattle.outbox_file.proofs.file.write_whole.Goals as goal

pub replace_beside-requires-clause-apart : goal.replace_beside-requires-clause-apart
replace_beside-requires-clause-apart g c = apart _ _ (c.as_str.ensures.value ∙ c.in-Ok.ensures.ok)
