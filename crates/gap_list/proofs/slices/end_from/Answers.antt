use Rattle.std.proofs.Common.{drop}
use Rattle.gap_list.proofs.SearchLemmas.{end_or-after, end_from-covered, end_from-stops}
use Rattle.gap_list.proofs.slices.end_from.Goals as goal

pub returns-clause-at_or_after : goal.returns-clause-at_or_after
returns-clause-at_or_after c =
    rw c.end_at.ensures (end_or-after c.args.offset (drop c.ended_below.result c.args.runs.now) c.ended_below.ensures.above)

pub returns-clause-covered : goal.returns-clause-covered
returns-clause-covered c i from to =
    end_from-covered c.args.runs.now c.ended_below.result c.args.offset i c.ended_below.ensures.below from
    (rw c.end_at.ensures at to)

pub returns-clause-stops : goal.returns-clause-stops
returns-clause-stops c =
    rw c.end_at.ensures
    (end_from-stops c.args.runs.now c.ended_below.result c.args.offset c.requires c.ended_below.ensures.below c.ended_below.ensures.above)
