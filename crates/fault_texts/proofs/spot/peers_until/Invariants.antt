use Rattle.std.proofs.Common.{◌≡◌, [], map, string_bytes}
use Rattle.toml.specs.View.{table_view}
use Rattle.config_reading.specs.Shown.{peer_shown}
use Rattle.config_reading.proofs.Tables.{left}
use Rattle.fault_texts.specs.Spots.{peers_until}
use Rattle.fault_texts.proofs.spot.peers_until.Given as goal

abbrev pub invariant-loop-table : goal.invariant-loop-table
invariant-loop-table l =
    peers_until l.entity (map string_bytes l.users) [] (map (λ table. table_view table.now) l.tables)
    ≡ peers_until l.entity (map string_bytes l.users) (map peer_shown l.peers.items) (left (λ table. table_view table.now) l.tables l.table-index)
