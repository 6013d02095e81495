use Rattle.receiver_parts.specs.FileChange.{metadata_after, received_after}
use Rattle.receiver_core.proofs.receiver.ReceiverCore.on_body.Goals as goal

pub returns-in-Prompt : goal.returns-in-Prompt
returns-in-Prompt c =
    let core = c.args.self.now in
    rw c.in-Prompt.is (c.on_prompt.ensures (metadata_after core.metadata c.args.change.now) (received_after core.file c.args.change.now))
