use Rattle.std.proofs.Common.{ap, slice_index_or}
use Rattle.web_pages.proofs.Secrets.{none_before, none_now, none_yet, one_more}
use Rattle.web_pages.proofs.secret.difference.Goals as goal

-- src/secret.rt:18:5
pub loop-place-preserved : goal.loop-place-preserved
loop-place-preserved c = record {
  none = λ none. one_more _ _ _ c.requires c.loop-place-test.true (c.loop-place.invariant.none (none_before _ _ none)) (none_now _ _ _ none);
  some = λ same. none_yet _ _ _ (c.loop-place.invariant.some same) (ap (λ xs. slice_index_or xs c.loop-place.place 0) same);
}
