use Rattle.std.proofs.Common.{◌≢◌, inr, ℕ, List, sym, subst}
use Rattle.whole_files.proofs.PartFacts.{apart_from, began_later, begins_then, given_up_too, still_reached}
use Rattle.whole_files.proofs.storing.replace_file.Goals as goal

pub returns-in_err-part-clause-stores : goal.returns-in_err-part-clause-stores
returns-in_err-part-clause-stores g c = given_up_too _ _ _ _ c.in_err-part.ensures.none

pub put_part-requires-clause-apart : goal.put_part-requires-clause-apart
put_part-requires-clause-apart g c = subst (λ (part : List ℕ). c.args.path.now ≢ part) (sym c.as_str.ensures.value) (apart_from _ _ c.in_ok-part.ensures.began.is_new.is_part)

pub put_part-requires-clause-reached : goal.put_part-requires-clause-reached
put_part-requires-clause-reached g c = still_reached _ _ _ (began_later _ _ _ _ _ c.in_ok-part.ensures.began) c.requires

pub returns-clause-stores : goal.returns-clause-stores
returns-clause-stores g c =
    inr (record {
      part = _;
      began = begins_then _ _ _ _ _ _ c.in_ok-part.ensures.began (rw c.as_str.ensures.value at c.put_part.ensures.changes);
      none_left = rw c.as_str.ensures.value at c.put_part.ensures.none_left;
    })
