use Rattle.std.proofs.Common.{arith}
use Rattle.pdu_values.proofs.FitLaws.{file_data_fits, either}
use Rattle.pdu_values.proofs.pdu.Pdu.file_data.Goals as goal

pub new-requires : goal.new-requires
new-requires c = file_data_fits c.args.header c.args.file_data c.requires.header (record { offset = either c.args.header.large c.args.file_data.offset (omega (arith, c.requires.offset)) }) c.requires.few
