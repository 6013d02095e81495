use Rattle.program_agenda.specs.Turns.{woken_one}
use Rattle.program_agenda.proofs.Lists.{AreChanged}
use Rattle.program_agenda.proofs.rotation.wake_each.Given as goal

abbrev pub invariant-loop-sending : goal.invariant-loop-sending
invariant-loop-sending l = AreChanged woken_one l.sending-index l.sending-items l.fn.sendings.items
