use Rattle.station_store.proofs.Reaching.{flushes_then, stays_still}
use Rattle.station_store.proofs.folders.reach_folder.Goals as goal

pub returns-then-not-is_made-clause-ok : goal.returns-then-not-is_made-clause-ok
returns-then-not-is_made-clause-ok g c = stays_still _ _ _ c.make_missing.ensures.same (c.requires c.if-is_known.true)

pub returns-clause-same : goal.returns-clause-same
returns-clause-same g c = flushes_then c.flush_folder.result _ _ _ _ c.make_missing.ensures.same (rw c.folder_of.ensures at c.flush_folder.ensures)
