use Rattle.std.proofs.Common.{◌≡◌, [], map, string_bytes}
use Rattle.toml.specs.View.{table_view}
use Rattle.config_reading.proofs.Tables.{left}
use Rattle.fault_texts.specs.Spots.{names_until}
use Rattle.fault_texts.proofs.spot.names_until.Given as goal

abbrev pub invariant-loop-table : goal.invariant-loop-table
invariant-loop-table l =
    names_until [] (map (λ table. table_view table.now) l.tables) ≡ names_until (map string_bytes l.users.items) (left (λ table. table_view table.now) l.tables l.table-index)
