use Rattle.std.proofs.Common.{◌≡◌, drop, map}
use Rattle.toml.specs.View.{items_view, table_view}
use Rattle.config_reading.specs.Walk.{tables_from}
use Rattle.config_reading.proofs.Tables.{tables_after}
use Rattle.config_reading.proofs.reading.tables.tables_of.Given as goal

abbrev pub invariant-loop-item : goal.invariant-loop-item
invariant-loop-item l =
    tables_from l.key (items_view l.item-items) ≡ tables_after l.key (map (λ table. table_view table.now) l.tables.items) (items_view (drop l.item-index l.item-items))
