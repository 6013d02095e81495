use Rattle.web_lines.specs.Families.{row_of}
use Rattle.web_lines.proofs.Reports.{next_line}
use Rattle.web_lines.proofs.series.push_family.Goals as goal

pub loop-line-preserved : goal.loop-line-preserved
loop-line-preserved c = next_line (row_of c.args.told) c.args.lines.now c.loop-line.line-index _ _ _ _ c.loop-line-test.true c.loop-line.invariant c.in_ok-push_number.ensures
