use Rattle.std.proofs.Common.{◌∙◌, ap, sym, arith, subst, vec_len}
use Rattle.std.proofs.lemmas.Bool.{eqb-true, eqb-false}
use Rattle.gap_list.specs.Blocks.{all_runs, in_order}
use Rattle.gap_list.specs.Places.{last_end}
use Rattle.gap_list.specs.Runs.{in_runs, IsExtent}
use Rattle.gap_list.proofs.BlockLemmas.{last_in_top, last_in_below}
use Rattle.gap_list.proofs.SearchLemmas.{IsExtent-last_end}
use Rattle.gap_list.proofs.search.greatest_end.Goals as goal

pub returns-then-is_empty : goal.returns-then-is_empty
returns-then-is_empty c =
    subst (IsExtent (in_runs (all_runs c.args.runs.now)))
    (last_in_below c.args.runs.now.below.items c.args.runs.now.top
    (omega (arith, eqb-true (vec_len c.args.runs.now.top) 0 (sym c.is_empty.ensures ∙ c.if-is_empty.true), c.args.runs.now.top.ok.0))
    ∙ ap (λ l. last_end 0 (in_order l)) (sym c.as_slice.ensures.value) ∙ sym c.end_below.ensures)
    (IsExtent-last_end (all_runs c.args.runs.now) c.requires.rising)

pub returns-else-is_empty : goal.returns-else-is_empty
returns-else-is_empty c =
    subst (IsExtent (in_runs (all_runs c.args.runs.now)))
    (last_in_top c.args.runs.now.below.items c.args.runs.now.top
    (omega (arith, eqb-false (vec_len c.args.runs.now.top) 0 (sym c.is_empty.ensures ∙ c.if-is_empty.false), c.args.runs.now.top.ok.0))
    ∙ ap (last_end 0) (sym c.as_slice-else-is_empty.ensures.value) ∙ sym c.last_end.ensures)
    (IsExtent-last_end (all_runs c.args.runs.now) c.requires.rising)
