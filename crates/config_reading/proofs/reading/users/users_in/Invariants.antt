use Rattle.std.proofs.Common.{◌≡◌, [], map, string_bytes}
use Rattle.toml.specs.View.{table_view}
use Rattle.config_reading.specs.Walk.{users_in}
use Rattle.config_reading.proofs.Tables.{left}
use Rattle.config_reading.proofs.reading.users.users_in.Given as goal

abbrev pub invariant-loop-table : goal.invariant-loop-table
invariant-loop-table l =
    users_in [] (map (λ table. table_view table.now) l.tables) ≡ users_in (map string_bytes l.users.items) (left (λ table. table_view table.now) l.tables l.table-index)
