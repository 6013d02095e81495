use Rattle.std.proofs.Common.{arith, inr, map, ◌∙◌}
use Rattle.std.proofs.lemmas.Result.{err_from_is_err_and}
use Rattle.toml.specs.View.{table_view}
use Rattle.config_reading.proofs.Tables.{tables_after-failed}
use Rattle.config_reading.proofs.reading.tables.tables_of.Goals as goal

pub returns-in_err-table_of : goal.returns-in_err-table_of
returns-in_err-table_of c =
    let p = err_from_is_err_and c.from_residual.result c.from_residual.ensures.1 in
    let l = c.loop-item in
    let failed = tables_after-failed c.args.key (map (λ table. table_view table.now) l.tables.items) c.deref-item-items.result.now l.item-index c.item-item.result c.in_err-table_of.field-0.0 (omega arith) c.item-item.is c.in_err-table_of.ensures in
    rw (p.1, p.2, ← c.in-Some.ensures, ← c.deref-item-items.ensures.value) (inr (l.invariant ∙ failed))
