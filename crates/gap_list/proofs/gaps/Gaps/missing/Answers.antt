use Rattle.gap_list.specs.Covered.{covered}
use Rattle.gap_list.proofs.WalkLemmas.{all_missing}
use Rattle.gap_list.proofs.gaps.Gaps.missing.Goals as goal

pub returns : goal.returns
returns c = rw (all_missing (covered c.args.self.now) c.args.limit) at c.missing_first.ensures
