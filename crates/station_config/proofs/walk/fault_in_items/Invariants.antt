use Rattle.std.proofs.Common.{◌≡◌, drop}
use Rattle.toml.specs.View.{items_view}
use Rattle.station_config.specs.Station.{remote_from}
use Rattle.station_config.proofs.walk.fault_in_items.Given as goal

abbrev pub invariant-loop-table : goal.invariant-loop-table
invariant-loop-table l =
    remote_from 0 (items_view l.items) ≡ remote_from l.table (items_view (drop l.table l.items))
