use Rattle.receiver_core.proofs.ChangeLemmas.{segment_still}
use Rattle.receiver_core.proofs.receiver.ReceiverCore.prepare.Goals as goal

pub returns-in-NewSegment-clause-fits : goal.returns-in-NewSegment-clause-fits
returns-in-NewSegment-clause-fits c =
    rw c.in-NewSegment.is
    (segment_still c.args.self.now.file c.make_room.new.self c.in-NewSegment.segment c.make_room.ensures.gaps c.make_room.ensures.received (rw c.in-NewSegment.is at c.requires))
