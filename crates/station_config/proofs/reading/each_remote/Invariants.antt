use Rattle.std.proofs.Common.{◌≡◌, ◌++◌, drop}
use Rattle.toml.specs.View.{items_view}
use Rattle.station_config.specs.Settings.{remotes_of}
use Rattle.station_config.proofs.reading.each_remote.Given as goal

abbrev pub invariant-loop-item : goal.invariant-loop-item
invariant-loop-item l =
    remotes_of (items_view l.items) ≡ l.remotes.items ++ remotes_of (items_view (drop l.item-index l.items))
