use Rattle.std.proofs.Common.{arith}
use Rattle.pdu_values.proofs.FitLaws.{ack_fits}
use Rattle.pdu_values.proofs.pdu.Pdu.ack.Goals as goal

pub new-requires : goal.new-requires
new-requires c = ack_fits c.args.header c.args.ack c.requires (record { condition = omega (arith, c.code-code.ensures.value, c.code-code.ensures.below) })
