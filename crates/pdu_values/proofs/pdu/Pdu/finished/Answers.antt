use Rattle.std.proofs.Common.{arith}
use Rattle.pdu_values.proofs.FitLaws.{finished_fits}
use Rattle.pdu_values.proofs.pdu.Pdu.finished.Goals as goal

pub new-requires : goal.new-requires
new-requires c = finished_fits c.args.header c.args.finished c.requires (record {
  condition = omega (arith, c.code-code.ensures.value, c.code-code.ensures.below);
  location = c.has_location-location.ensures;
})
