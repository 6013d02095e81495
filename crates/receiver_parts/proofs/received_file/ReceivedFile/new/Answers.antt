use Rattle.std.proofs.Common.{refl}
use Rattle.modular_sum.proofs.PieceLemmas.{IsSumOf-none}
use Rattle.receiver_parts.specs.Offsets.{octet_in}
use Rattle.receiver_parts.proofs.received_file.ReceivedFile.new.Goals as goal

pub invariant_of-result-clause-summed : goal.invariant_of-result-clause-summed
invariant_of-result-clause-summed c =
    rw c.new-3.ensures (IsSumOf-none (octet_in c.new.result.items) (λ i. rw c.new.ensures.items refl))
