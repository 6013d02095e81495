use Rattle.std.proofs.Common.{sym, ap, ◌∙◌}
use Rattle.std.specs.Prelude.{is_some}
use Rattle.modular_sum.proofs.PieceLemmas.{IsSumOf-same}
use Rattle.receiver_parts.specs.Offsets.{octet_in}
use Rattle.receiver_parts.specs.ReceivedFile.{received_with}
use Rattle.receiver_parts.proofs.LayLemmas.{octet_in-append}
use Rattle.receiver_parts.proofs.received_file.ReceivedFile.take.Goals as goal

pub invariant_of-self : goal.invariant_of-self
invariant_of-self c =
    let file = c.args.self.now in
    let segment = c.args.segment in
    record {
      came = λ i.
          rw c.append.ensures (ap is_some (octet_in-append file.pieces.items segment.pieces.items i))
          ∙ c.requires.segment.came i
          ∙ sym (c.add.ensures.added i);
      summed = IsSumOf-same (received_with file segment) (octet_in c.append.new.pieces.items) segment.sum
          (λ i. sym (rw c.append.ensures (octet_in-append file.pieces.items segment.pieces.items i)))
          c.requires.segment.sum;
    }

pub returns : goal.returns
returns c =
    let file = c.args.self.now in
    let segment = c.args.segment in
    record {
      received = λ i. rw c.append.ensures (octet_in-append file.pieces.items segment.pieces.items i);
    }
