use Rattle.std.proofs.Common.{refl}
use Rattle.web_lines.proofs.Reports.{next_row}
use Rattle.web_lines.proofs.series.push_families.Goals as goal

pub loop-told-init : goal.loop-told-init
loop-told-init c = refl

pub loop-told-preserved : goal.loop-told-preserved
loop-told-preserved c = next_row c.args.rows.now c.loop-told.told-index _ _ _ _ _ c.loop-told-test.true c.loop-told.invariant c.in_ok-push_family.ensures
