use Rattle.receiver_table.specs.Reception.{state_of}
use Rattle.receiver_table.specs.Images.{image_at}
use Rattle.txn_events.proofs.AnswerLemmas.{accepted_over, refused_over}
use Rattle.receiver_core.specs.Core.{shown}
use Rattle.receiver_core.proofs.receiver.ReceiverCore.image.Goals as goal

pub returns-clause-image : goal.returns-clause-image
returns-clause-image c log stood =
    let core = c.args.self.now in
    accepted_over state_of (shown core) (λ state. image_at state c.args.stamp) (λ image. image) _ (λ image is. is) c.image_now.result log stood c.image_now.ensures.image

pub returns-clause-refused : goal.returns-clause-refused
returns-clause-refused c log stood =
    let core = c.args.self.now in
    refused_over state_of (shown core) (λ state. image_at state c.args.stamp) c.image_now.result log stood c.image_now.ensures.refused
