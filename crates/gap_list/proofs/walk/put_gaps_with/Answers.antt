use Rattle.std.proofs.Common.{arith}
use Rattle.gap_list.specs.Blocks.{all_runs}
use Rattle.gap_list.specs.Runs.{in_runs}
use Rattle.gap_list.proofs.WalkLemmas.{missing_both, missing_without}
use Rattle.gap_list.proofs.walk.put_gaps_with.Goals as goal

pub returns-in_ok-put_gaps : goal.returns-in_ok-put_gaps
returns-in_ok-put_gaps c =
    missing_without (in_runs (all_runs c.args.runs.now)) c.args.range.start c.args.range.end c.args.limit c.args.most c.args.gaps.now.items
    c.put_gaps.new.gaps.items (omega arith) c.requires.empty c.in_ok-put_gaps.ensures

pub returns-in_ok-put_gaps-3 : goal.returns-in_ok-put_gaps-3
returns-in_ok-put_gaps-3 c =
    missing_both (in_runs (all_runs c.args.runs.now)) c.args.range.start c.args.range.end c.args.limit c.min.result c.args.most c.args.gaps.now.items
    c.put_gaps-else-range.new.gaps.items c.put_gaps-else-range-2.new.gaps.items (omega arith) c.min.ensures c.requires.empty
    c.in_ok-put_gaps-2.ensures c.in_ok-put_gaps-3.ensures
