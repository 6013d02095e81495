use Rattle.std.proofs.Common.{ℕ, take, drop, List}
use Rattle.gap_list.specs.declared.run.Run.{Run}
use Rattle.gap_list.specs.Blocks.{all_runs, index_of}
use Rattle.gap_list.proofs.SearchLemmas.{start_or-after, gap_end-missing, gap_end-stops, begun_where_ended, begins_where_missing, missing_rest, rising_take}
use Rattle.gap_list.proofs.search.gap_end.Goals as goal

pub returns-clause-after : goal.returns-clause-after
returns-clause-after c =
    let runs : List Run = all_runs c.args.runs.now in
    let place : ℕ = index_of c.args.runs.now c.ended_below.result in
    rw c.start_at.ensures
    (start_or-after c.args.offset c.args.limit (drop place runs) c.requires.gap.0
    (begins_where_missing c.args.offset (drop place runs) c.ended_below.ensures.above (missing_rest runs place c.args.offset c.requires.gap.1)))

pub returns-clause-missing : goal.returns-clause-missing
returns-clause-missing c i from to =
    let runs : List Run = all_runs c.args.runs.now in
    let place : ℕ = index_of c.args.runs.now c.ended_below.result in
    gap_end-missing runs place c.args.offset c.args.limit i c.requires.rising
    (begun_where_ended 0 c.args.offset (take place runs) (rising_take runs place c.requires.rising) c.ended_below.ensures.below)
    c.requires.gap.1 from (rw c.start_at.ensures at to)

pub returns-clause-stops : goal.returns-clause-stops
returns-clause-stops c to =
    rw c.start_at.ensures
    (gap_end-stops (all_runs c.args.runs.now) (index_of c.args.runs.now c.ended_below.result) c.args.limit c.requires.rising (rw c.start_at.ensures at to))
