use Rattle.std.proofs.Common.{◌∙◌, sym, arith}
use Rattle.pdu_values.proofs.WidthLaws.{pow_fits, width_goes_on}
use Rattle.pdu_values.proofs.widths.octets_for.Goals as goal

pub pow-requires : goal.pow-requires
pow-requires c = pow_fits c.from.result (omega (arith, c.from.ensures, c.loop-octets-test.true))

pub loop-octets-preserved : goal.loop-octets-preserved
loop-octets-preserved c = record {
  least = omega (arith, c.loop-octets.invariant.least);
  most = omega (arith, c.loop-octets-test.true);
  goes_on = width_goes_on c.loop-octets.octets c.args.number (omega (arith, c.loop-octets-test.true)) (rw (sym c.from.ensures, sym c.pow.ensures) c.if-number-pow.true) ∙ c.loop-octets.invariant.goes_on;
}
