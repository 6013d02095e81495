use Rattle.gap_list.proofs.EditLemmas.{IsAdded, added_joined, added_apart}
use Rattle.gap_list.proofs.edit.add.Goals as goal

one_run : (c : goal.After-replace) → IsAdded c.args.runs.now.items c.replace.new.runs.items c.args.start c.args.end
one_run c =
    added_joined c.args.runs.now.items c.replace.new.runs.items c.ended_below-first.result c.begun_by-last.result c.args.start c.args.end
    c.index.result.now c.index-then-first-last.result.now (record { start = c.min.result; end = c.max.result })
    c.requires.rising c.requires.filled c.if-first-last.true
    (rw c.as_slice-2.ensures.value at c.begun_by-last.ensures.within)
    (rw c.as_slice.ensures.value at c.ended_below-first.ensures.below)
    (rw c.as_slice.ensures.value at c.ended_below-first.ensures.above)
    (rw c.as_slice-2.ensures.value at c.begun_by-last.ensures.below)
    (rw c.as_slice-2.ensures.value at c.begun_by-last.ensures.above)
    c.index.ensures c.index-then-first-last.ensures c.min.ensures c.max.ensures c.replace.ensures.items

pub returns-then-first-last-clause-rising : goal.returns-then-first-last-clause-rising
returns-then-first-last-clause-rising c = (one_run c).rising

pub returns-then-first-last-clause-added : goal.returns-then-first-last-clause-added
returns-then-first-last-clause-added c = (one_run c).added

own_run : (c : goal.After-insert_run) → IsAdded c.args.runs.now.items c.insert_run.new.runs.items c.args.start c.args.end
own_run c =
    added_apart c.args.runs.now.items c.insert_run.new.runs.items c.ended_below-first.result c.begun_by-last.result c.args.start c.args.end
    c.requires.rising c.requires.filled c.if-first-last.false
    (rw c.as_slice.ensures.value at c.ended_below-first.ensures.within)
    (rw c.as_slice.ensures.value at c.ended_below-first.ensures.below)
    (rw c.as_slice-2.ensures.value at c.begun_by-last.ensures.above)
    c.insert_run.ensures.items

pub returns-else-first-last-clause-rising : goal.returns-else-first-last-clause-rising
returns-else-first-last-clause-rising c = (own_run c).rising

pub returns-else-first-last-clause-added : goal.returns-else-first-last-clause-added
returns-else-first-last-clause-added c = (own_run c).added
