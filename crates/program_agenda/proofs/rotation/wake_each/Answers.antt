use Rattle.std.proofs.Common.{add-one, arith}
use Rattle.program_agenda.specs.Turns.{woken_one}
use Rattle.program_agenda.proofs.Lists.{changed_step}
use Rattle.program_agenda.proofs.rotation.wake_each.Goals as goal

pub loop-sending-preserved : goal.loop-sending-preserved
loop-sending-preserved c =
    rw add-one (changed_step woken_one c.loop-sending.sending-index c.loop-sending.sending-items c.args.sendings.now.items _ _
    (omega arith) c.loop-sending.invariant c.woken_one.ensures)
