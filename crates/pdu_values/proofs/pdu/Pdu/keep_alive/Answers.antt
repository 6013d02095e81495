use Rattle.std.proofs.Common.{arith}
use Rattle.pdu_values.proofs.FitLaws.{keep_alive_fits, either}
use Rattle.pdu_values.proofs.pdu.Pdu.keep_alive.Goals as goal

pub new-requires : goal.new-requires
new-requires c = keep_alive_fits c.args.header c.args.keep_alive c.requires.header (record { progress = either c.args.header.large c.args.keep_alive.progress (omega (arith, c.requires.progress)) })
