use Rattle.lane_table.proofs.GlanceFacts.{says_as_report}
use Rattle.lane_table.proofs.laws.reports.Goals as goal

pub returns : goal.returns
returns c = says_as_report
