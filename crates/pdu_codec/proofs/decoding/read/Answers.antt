use Rattle.std.proofs.Common.{arith}
use Rattle.pdu_values.proofs.Numbers.{IsOctets, IsOctets-at_each}
use Rattle.pdu_laws.proofs.ReadingLaws.{read_is_spelled}
use Rattle.pdu_codec.proofs.decoding.read.Goals as goal

pub new-requires : goal.new-requires
new-requires c =
    let h : IsOctets c.args.octets.now = IsOctets-at_each c.args.octets.now (λ i. omega (arith, c.type_inv.octets i)) in
    rw c.in_ok-body.ensures (read_is_spelled c.args.octets.now _ h c.in_ok-header.ensures).fits
