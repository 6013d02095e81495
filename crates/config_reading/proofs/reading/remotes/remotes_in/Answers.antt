use Rattle.std.proofs.Common.{arith, map, string_bytes, ◌∙◌}
use Rattle.std.proofs.lemmas.Result.{err_from_is_err_and}
use Rattle.toml.specs.View.{table_view}
use Rattle.config_reading.specs.Shown.{peer_shown}
use Rattle.config_reading.proofs.Tables.{or_later, remotes_in-failed}
use Rattle.config_reading.proofs.reading.remotes.remotes_in.Goals as goal

pub returns-in_err-remote_in : goal.returns-in_err-remote_in
returns-in_err-remote_in c =
    let p = err_from_is_err_and c.from_residual.result c.from_residual.ensures.1 in
    let l = c.loop-table in
    let refused = rw c.deref.ensures.value at c.in_err-remote_in.ensures in
    rw (p.1, p.2) (or_later refused (λ fault.
    l.invariant ∙ remotes_in-failed c.args.entity (map string_bytes c.args.users.now) (λ table. table_view table.now) (map peer_shown l.peers.items) c.args.tables.now l.table-index
    c.table-item.result c.in_err-remote_in.field-0.0 (omega arith) c.table-item.is fault))
