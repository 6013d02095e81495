use Rattle.std.proofs.Common.{◌≡◌, ◌+◌, ◌*◌, ◌^◌, ◌≤◌, take}
use Rattle.config_reading.specs.Texts.{number_of}
use Rattle.station_config.proofs.addresses.number_of.Given as goal

abbrev pub invariant-loop-digit : goal.invariant-loop-digit
invariant-loop-digit l = record {
  value : l.number ≡ number_of (take l.digit-index l.digits);
  bound : 9 * l.number + 207 ≤ 207 * 10 ^ l.digit-index;
}
