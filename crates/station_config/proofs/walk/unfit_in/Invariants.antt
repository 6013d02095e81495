use Rattle.std.proofs.Common.{◌≡◌, drop, map}
use Rattle.toml.specs.View.{table_view}
use Rattle.station_config.specs.Station.{first_from, is_unfit, meant}
use Rattle.station_config.proofs.walk.unfit_in.Given as goal

abbrev pub invariant-loop-place : goal.invariant-loop-place
invariant-loop-place l =
    first_from (λ row. is_unfit row (table_view l.table)) 0 (map meant l.rows)
    ≡ first_from (λ row. is_unfit row (table_view l.table)) l.place (map meant (drop l.place l.rows))
