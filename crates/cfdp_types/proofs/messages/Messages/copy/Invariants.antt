use Rattle.std.proofs.Common.{◌≡◌, take}
use Rattle.cfdp_types.proofs.messages.Messages.copy.Given as goal

abbrev pub invariant-loop-message : goal.invariant-loop-message
invariant-loop-message l = l.items.items ≡ take l.message-index l.message-items
