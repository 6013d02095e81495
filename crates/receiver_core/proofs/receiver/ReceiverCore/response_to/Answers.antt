use Rattle.receiver_parts.specs.FileChange.{metadata_after, received_after}
use Rattle.receiver_core.proofs.receiver.ReceiverCore.response_to.Goals as goal

pub returns-in-Timer : goal.returns-in-Timer
returns-in-Timer c =
    let core = c.args.self.now in
    rw c.in-Timer.is (c.on_timer.ensures (metadata_after core.metadata c.args.change.now) (received_after core.file c.args.change.now))
