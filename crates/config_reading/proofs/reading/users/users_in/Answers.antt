use Rattle.std.proofs.Common.{arith, inr, map, string_bytes, ◌∙◌}
use Rattle.std.proofs.lemmas.Result.{err_from_is_err_and}
use Rattle.toml.specs.View.{table_view}
use Rattle.config_reading.proofs.Tables.{users_in-failed}
use Rattle.config_reading.proofs.reading.users.users_in.Goals as goal

pub returns-in_err-name : goal.returns-in_err-name
returns-in_err-name c =
    let p = err_from_is_err_and c.from_residual.result c.from_residual.ensures.1 in
    let l = c.loop-table in
    let refused = rw c.deref.ensures.value at c.in_err-name.ensures in
    let failed = users_in-failed (λ table. table_view table.now) (map string_bytes l.users.items) c.args.tables.now l.table-index c.table-item.result c.in_err-name.field-0.0 (omega arith) c.table-item.is refused in
    rw (p.1, p.2) (inr (l.invariant ∙ failed))
