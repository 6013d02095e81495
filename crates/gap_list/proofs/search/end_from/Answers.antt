use Rattle.std.proofs.Common.{drop}
use Rattle.gap_list.specs.Blocks.{all_runs, index_of}
use Rattle.gap_list.proofs.SearchLemmas.{end_or-after, end_from-covered, end_from-stops}
use Rattle.gap_list.proofs.search.end_from.Goals as goal

pub returns-clause-at_or_after : goal.returns-clause-at_or_after
returns-clause-at_or_after c =
    rw c.end_at.ensures
    (end_or-after c.args.offset (drop (index_of c.args.runs.now c.ended_below.result) (all_runs c.args.runs.now)) c.ended_below.ensures.above)

pub returns-clause-covered : goal.returns-clause-covered
returns-clause-covered c i from to =
    end_from-covered (all_runs c.args.runs.now) (index_of c.args.runs.now c.ended_below.result) c.args.offset i c.ended_below.ensures.below from
    (rw c.end_at.ensures at to)

pub returns-clause-stops : goal.returns-clause-stops
returns-clause-stops c =
    rw c.end_at.ensures
    (end_from-stops (all_runs c.args.runs.now) (index_of c.args.runs.now c.ended_below.result) c.args.offset c.requires.rising c.ended_below.ensures.below c.ended_below.ensures.above)
