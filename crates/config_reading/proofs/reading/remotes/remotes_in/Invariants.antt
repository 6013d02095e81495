use Rattle.std.proofs.Common.{◌≡◌, [], map, string_bytes}
use Rattle.toml.specs.View.{table_view}
use Rattle.config_reading.specs.Shown.{peer_shown}
use Rattle.config_reading.specs.Walk.{remotes_in}
use Rattle.config_reading.proofs.Tables.{left}
use Rattle.config_reading.proofs.reading.remotes.remotes_in.Given as goal

abbrev pub invariant-loop-table : goal.invariant-loop-table
invariant-loop-table l =
    remotes_in l.entity (map string_bytes l.users) [] (map (λ table. table_view table.now) l.tables)
    ≡ remotes_in l.entity (map string_bytes l.users) (map peer_shown l.peers.items) (left (λ table. table_view table.now) l.tables l.table-index)
