use Rattle.std.proofs.Common.{sym, ◌∙◌}
use Rattle.receiver_core.proofs.receiver.ReceiverCore.keep_alive.Goals as goal

pub returns : goal.returns
returns c = (rw c.from-progress.ensures at c.keep_alive.ensures) ∙ sym (c.reply_header.ensures.value _)
