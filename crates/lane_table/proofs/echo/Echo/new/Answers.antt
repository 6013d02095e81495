use Rattle.std.proofs.Common.{arith}
use Rattle.pdu_values.proofs.FitLaws.{ack_fits}
use Rattle.lane_table.proofs.echo.Echo.new.Goals as goal

pub invariant_of-result : goal.invariant_of-result
invariant_of-result c = ack_fits c.args.header c.args.ack c.requires (record { condition = omega (arith, c.code-code.ensures.value, c.code-code.ensures.below) })
