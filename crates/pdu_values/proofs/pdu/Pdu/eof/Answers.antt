use Rattle.std.proofs.Common.{arith}
use Rattle.pdu_values.proofs.FitLaws.{eof_fits, either}
use Rattle.pdu_values.proofs.pdu.Pdu.eof.Goals as goal

pub new-requires : goal.new-requires
new-requires c = eof_fits c.args.header c.args.eof c.requires.header (record {
  condition = omega (arith, c.code-code.ensures.value, c.code-code.ensures.below);
  checksum = omega (arith, c.word-checksum.ensures.range);
  size = either c.args.header.large c.args.eof.size (omega (arith, c.requires.size));
  location = c.has_location-location.ensures;
})
