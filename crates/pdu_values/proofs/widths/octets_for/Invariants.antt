use Rattle.std.proofs.Common.{◌≡◌, ◌≤◌, ◌-◌}
use Rattle.pdu_values.specs.Tlvs.{width_from}
use Rattle.pdu_values.specs.Tlvs.{octets_for}
use Rattle.pdu_values.proofs.widths.octets_for.Given as goal

abbrev pub invariant-loop-octets : goal.invariant-loop-octets
invariant-loop-octets l = record {
  least : 1 ≤ l.octets;
  most : l.octets ≤ 8;
  goes_on : width_from (8 - l.octets) l.octets l.number ≡ octets_for l.least l.number;
}

abbrev pub decreases-loop-octets : goal.decreases-loop-octets
decreases-loop-octets l = 8 - l.octets
