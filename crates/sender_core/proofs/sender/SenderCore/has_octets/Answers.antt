use Rattle.std.proofs.Common.{ap, ◌∙◌}
use Rattle.std.specs.Option.{is_some}
use Rattle.sender_core.proofs.CoreLemmas.{some_of}
use Rattle.sender_core.proofs.sender.SenderCore.has_octets.Goals as goal

pub returns : goal.returns
returns c = c.is_some.ensures ∙ ap is_some c.first_run.ensures ∙ some_of _
