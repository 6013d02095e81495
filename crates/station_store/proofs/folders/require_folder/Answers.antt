use Rattle.disk.proofs.Answered as answered
use Rattle.station_store.proofs.folders.require_folder.Goals as goal

pub returns-in-Ok-true-clause-same : goal.returns-in-Ok-true-clause-same
returns-in-Ok-true-clause-same g c = answered.looked _ _ c.is_folder.result _ c.is_folder.ensures
