use Rattle.std.proofs.Common.{◌≡◌, inl, inr, false, is_err}
use Rattle.whole_files.proofs.Chains.{not_put, puts, stays_open}
use Rattle.whole_files.proofs.PartFacts.{named_by, taken_away}
use Rattle.whole_files.proofs.storing.put_part.Goals as goal

pub returns-then-is_err-clause-changes : goal.returns-then-is_err-clause-changes
returns-then-is_err-clause-changes g c = not_put _ _ _ _ _ _ c.requires.filled c.rename-named.result c.rename-named.ensures c.remove.result c.remove.ensures

pub returns-clause-changes : goal.returns-clause-changes
returns-clause-changes g c = puts _ _ _ _ _ _ c.requires.filled c.rename-named.result c.rename-named.ensures c.flush_folder.result (rw c.folder_of.ensures at c.flush_folder.ensures)

pub returns-then-is_err-clause-none_left : goal.returns-then-is_err-clause-none_left
returns-then-is_err-clause-none_left g c = inr (taken_away _ _ c.remove.result _ c.remove.ensures)

pub returns-clause-none_left : goal.returns-clause-none_left
returns-clause-none_left g c =
    let ok : is_err c.rename-named.result ≡ false = cc in
    inl (named_by _ _ _ c.rename-named.result _ _ _ ok c.rename-named.ensures c.flush_folder.ensures)

pub returns-clause-open : goal.returns-clause-open
returns-clause-open g c =
    let ok : is_err c.rename-named.result ≡ false = cc in
    stays_open _ _ _ _ _ _ c.requires.filled c.rename-named.result c.rename-named.ensures c.flush_folder.result c.requires.apart c.requires.reached ok (rw c.folder_of.ensures at c.flush_folder.ensures)
