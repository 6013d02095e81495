use Rattle.std.proofs.Common.{sym, ◌∙◌}
use Rattle.receiver_core.proofs.receiver.ReceiverCore.finished.Goals as goal

pub returns : goal.returns
returns c = c.finished.ensures ∙ sym (c.reply_header.ensures.value _)
