use Rattle.std.proofs.Common.{◌≡◌, drop, map}
use Rattle.toml.specs.View.{table_view}
use Rattle.station_config.specs.Station.{key_from, meant}
use Rattle.station_config.proofs.walk.fault_among.Given as goal

abbrev pub invariant-loop-place : goal.invariant-loop-place
invariant-loop-place l =
    key_from 0 (map meant l.rows) (table_view l.top) ≡ key_from l.place (map meant (drop l.place l.rows)) (table_view l.top)
