use Rattle.gap_list.specs.Covered.{covered}
use Rattle.gap_list.specs.Blocks.{all_runs}
use Rattle.gap_list.specs.Runs.{in_runs}
use Rattle.gap_list.proofs.WalkLemmas.{first_of_missing}
use Rattle.gap_list.proofs.gaps.Gaps.missing_first.Goals as goal

pub returns : goal.returns
unfolding covered
returns c =
    rw (← c.self.view_is)
    (first_of_missing (in_runs (all_runs c.self.inside.runs)) c.args.limit c.args.count c.new-missing.result.items c.put_gaps.new.gaps.items
    c.new-missing.ensures.items c.in_ok-put_gaps.ensures)
