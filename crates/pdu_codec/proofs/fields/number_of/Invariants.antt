use Rattle.std.proofs.Common.{◌≡◌, ◌+◌, ◌*◌, ◌^◌, length, drop}
use Rattle.pdu_values.specs.Numbers.{number_of}
use Rattle.pdu_codec.proofs.fields.number_of.Given as goal

abbrev pub invariant-loop-octet : goal.invariant-loop-octet
invariant-loop-octet l =
    l.number * 256 ^ length (drop l.octet-index l.octets) + number_of (drop l.octet-index l.octets) ≡ number_of l.octets
