use Rattle.gap_list.specs.Blocks.{all_runs, index_of}
use Rattle.gap_list.proofs.SearchLemmas.{free_exact}
use Rattle.gap_list.proofs.search.is_free.Goals as goal

pub returns : goal.returns
returns c =
    free_exact (all_runs c.args.runs.now) (index_of c.args.runs.now c.ended_below.result) c.args.start c.args.end c.begins_at.result c.requires.rising c.requires.filled
    c.ended_below.ensures.below c.ended_below.ensures.above c.begins_at.ensures
