use Rattle.gap_list.specs.Covered.{covered}
use Rattle.gap_list.specs.Blocks.{all_runs}
use Rattle.gap_list.specs.Runs.{in_runs}
use Rattle.gap_list.proofs.WalkLemmas.{all_of_new}
use Rattle.gap_list.proofs.gaps.Gaps.new_within.Goals as goal

pub returns : goal.returns
unfolding covered
returns c =
    rw (← c.self.view_is)
    (all_of_new (in_runs (all_runs c.self.inside.runs)) c.args.start c.args.end c.new-new.result.items c.put_gaps.new.gaps.items
    c.new-new.ensures.items c.in_ok-put_gaps.ensures)
