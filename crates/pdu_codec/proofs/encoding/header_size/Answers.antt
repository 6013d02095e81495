use Rattle.std.proofs.Common.{arith}
use Rattle.pdu_codec.proofs.WriteLaws.{ids_length}
use Rattle.pdu_codec.proofs.encoding.header_size.Goals as goal

pub returns-clause-value : goal.returns-clause-value
returns-clause-value c = omega (arith, ids_length c.args.header.now, c.from.ensures, c.from-2.ensures)
