use Rattle.std.proofs.Common.{sym, subst, string_bytes}
use Rattle.whole_files.specs.Wholes.{IsPartOf}
use Rattle.whole_files.proofs.PartFacts.{began_later, still_reached}
use Rattle.whole_files.proofs.Chains.{on_err}
use Rattle.whole_files.proofs.Copies.{and_kept, and_not_kept, given_up_beside}
use Rattle.whole_files.proofs.keeping.keep_file.Goals as goal

pub returns-in_err-part-clause-not_kept : goal.returns-in_err-part-clause-not_kept
returns-in_err-part-clause-not_kept g c = on_err _ _ (given_up_beside c.args.path.now c.args.octets.now _ _ c.in_err-part.ensures.none)

pub link_part-requires-clause-reached : goal.link_part-requires-clause-reached
link_part-requires-clause-reached g c = still_reached _ _ _ (began_later _ _ _ _ _ c.in_ok-part.ensures.began) c.requires

pub link_part-requires-clause-is_part : goal.link_part-requires-clause-is_part
link_part-requires-clause-is_part g c = subst (IsPartOf c.args.path.now) (sym c.as_str.ensures.value) c.in_ok-part.ensures.began.is_new.is_part

pub returns-clause-kept : goal.returns-clause-kept
returns-clause-kept g c =
    and_kept _ _ _ _ _ _ c.in_ok-part.ensures.began (rw c.as_str.ensures.value at c.link_part.ensures.changes) string_bytes c.link_part.result (rw c.as_str.ensures.value at c.link_part.ensures.kept)

pub returns-clause-not_kept : goal.returns-clause-not_kept
returns-clause-not_kept g c =
    and_not_kept _ _ _ _ _ _ c.in_ok-part.ensures.began (rw c.as_str.ensures.value at c.link_part.ensures.changes) c.link_part.result (rw c.as_str.ensures.value at c.link_part.ensures.not_kept)
