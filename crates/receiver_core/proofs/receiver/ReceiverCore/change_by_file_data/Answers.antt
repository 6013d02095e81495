use Rattle.receiver_core.proofs.ChangeLemmas.{piece_change}
use Rattle.receiver_core.proofs.receiver.ReceiverCore.change_by_file_data.Goals as goal

pub returns : goal.returns
returns c = piece_change c.args.self.now c.args.file_data.now c.in_ok-segment.field-0 c.in_ok-segment.ensures.runs c.in_ok-segment.ensures.received
    c.in_ok-segment.ensures.segment
