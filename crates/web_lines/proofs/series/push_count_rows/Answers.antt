use Rattle.std.proofs.Common.{ap, map}
use Rattle.std.proofs.lemmas.Result.{on_ok_weaker}
use Rattle.web_lines.specs.Families.{row_of, count_rows}
use Rattle.web_lines.proofs.Reports.{count_report}
use Rattle.web_lines.proofs.series.push_count_rows.Goals as goal

-- the table of the code is the list of the definition
pub returns : goal.returns
unfolding count_rows
returns c = on_ok_weaker c.push_families.result (count_report _ _ _ _ (ap (map row_of) c.as_slice.ensures)) c.push_families.ensures
