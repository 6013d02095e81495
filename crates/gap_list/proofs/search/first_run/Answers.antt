use Rattle.std.proofs.Common.{sym}
use Rattle.gap_list.specs.Blocks.{all_runs}
use Rattle.gap_list.specs.Runs.{in_runs}
use Rattle.gap_list.proofs.SearchLemmas.{first_from-some, first_from-none}
use Rattle.gap_list.proofs.search.first_run.Goals as goal

pub returns-then-start-limit : goal.returns-then-start-limit
returns-then-start-limit c =
    rw c.min.ensures
    (sym (first_from-some (in_runs (all_runs c.args.runs.now)) c.args.offset c.begin_from-start.result c.end_from.result c.args.limit
    c.begin_from-start.ensures.at_or_after c.if-start-limit.true c.end_from.ensures.at_or_after c.begin_from-start.ensures.missing
    (c.begin_from-start.ensures.stops c.if-start-limit.true) c.end_from.ensures.covered c.end_from.ensures.stops))

pub returns-else-start-limit : goal.returns-else-start-limit
returns-else-start-limit c =
    sym (first_from-none (in_runs (all_runs c.args.runs.now)) c.args.offset c.begin_from-start.result c.args.limit c.if-start-limit.false c.begin_from-start.ensures.missing)
