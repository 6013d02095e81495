use Rattle.std.proofs.Common.{◌∙◌, arith}
use Rattle.receiver_parts.specs.ReceivedFile.{received_of}
use Rattle.receiver_parts.proofs.ImageLemmas.{image_is}
use Rattle.receiver_parts.proofs.received_file.ReceivedFile.below.Goals as goal

pub returns : goal.returns
returns c =
    image_is (received_of c.args.self.now) c.resize.new.kept.items c.args.size (omega (arith, c.in_ok-resize.ensures.len, c.resize.new.kept.ok.0))
    (λ i below. c.in_ok-resize.ensures.same i below ∙ (rw c.as_slice.ensures.value at (c.in_ok-put_pieces.ensures i)))
