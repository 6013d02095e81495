use Rattle.std.proofs.Common.{◌-◌, length, arith}
use Rattle.gap_list.specs.Runs.{in_runs, without_range}
use Rattle.gap_list.proofs.MergeLemmas.{rising_part, merge_begins, merge_goes}
use Rattle.gap_list.proofs.merge.merged.Goals as goal

pub loop-range-init : goal.loop-range-init
loop-range-init c = record {
  within = c.begun_by-place.ensures.within;
  rising = c.in_ok-put.ensures.rising;
  added = merge_begins c.args.runs.now c.begun_by-place.result c.args.from c.end_from-reached.result c.requires
      c.begun_by-place.ensures.below c.begun_by-place.ensures.above
      c.end_from-reached.ensures.at_or_after c.end_from-reached.ensures.covered c.end_from-reached.ensures.stops
      c.in_ok-merged.merged.items c.put.new.merged.items c.in_ok-merged.ensures.items c.in_ok-put.ensures.added;
}

pub append-requires-clause-runs : goal.append-requires-clause-runs
append-requires-clause-runs c = rising_part c.args.runs.now c.loop-range.place (c.max-next.result - c.loop-range.place) c.requires

pub append-requires-2-clause-runs : goal.append-requires-2-clause-runs
append-requires-2-clause-runs c = rising_part c.args.runs.now c.loop-range.place (length c.args.runs.now - c.loop-range.place) c.requires

pub loop-range-preserved : goal.loop-range-preserved
loop-range-preserved c = record {
  within = omega (arith, c.max-next.ensures, c.ended_below.ensures.within, c.loop-range.invariant.within);
  rising = c.in_ok-put-2.ensures.rising;
  added = merge_goes (without_range (in_runs c.args.runs.now) 0 c.args.from) c.args.runs.now c.args.ranges.now
      c.loop-range.merged.items c.append.new.merged.items c.put-in-loop-range.new.merged.items
      c.loop-range.place c.max-next.result c.loop-range.range-index (record { start = 0; end = 0 })
      (omega (arith, c.max-next.ensures)) c.loop-range-test.true
      c.loop-range.invariant.added c.in_ok-append.ensures.added c.in_ok-put-2.ensures.added;
}
