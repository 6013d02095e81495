use Rattle.disk.proofs.Moments.{then}
use Rattle.disk.proofs.Reach.{reached_later}
use Rattle.whole_files.proofs.Chains.{to_any}
use Rattle.whole_files.proofs.storing.replace_beside.Goals as goal

pub returns-in_err-renew-clause-changes : goal.returns-in_err-renew-clause-changes
returns-in_err-renew-clause-changes g c = to_any _ _ _ _ c.renew.ensures.changes

pub returns-in_err-fill_part-clause-changes : goal.returns-in_err-fill_part-clause-changes
returns-in_err-fill_part-clause-changes g c = to_any _ _ _ _ (then _ _ _ _ _ c.renew.ensures.changes c.fill_part.ensures.changes)

pub put_part-requires-clause-reached : goal.put_part-requires-clause-reached
put_part-requires-clause-reached g c = reached_later _ _ _ _ (then _ _ _ _ _ c.renew.ensures.changes c.fill_part.ensures.changes) _ c.requires.reached

pub returns-clause-changes : goal.returns-clause-changes
returns-clause-changes g c = then _ _ _ _ _ (to_any _ _ _ _ (then _ _ _ _ _ c.renew.ensures.changes c.fill_part.ensures.changes)) c.put_part.ensures.changes
