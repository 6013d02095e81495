use Rattle.disk.proofs.Answered as answered
use Rattle.station_store.proofs.Reaching.{both}
use Rattle.station_store.proofs.folders.make_missing.Goals as goal

pub returns-in-Ok-clause-same : goal.returns-in-Ok-clause-same
returns-in-Ok-clause-same g c = answered.folder_made _ _ c.make_folder.result _ c.make_folder.ensures

pub returns-in-Err-Exists-clause-same : goal.returns-in-Err-Exists-clause-same
returns-in-Err-Exists-clause-same g c = both _ _ _ (answered.folder_made _ _ c.make_folder.result _ c.make_folder.ensures) c.require_folder.ensures.same

pub returns-in-Err : goal.returns-in-Err
returns-in-Err g c = record { same = answered.folder_made _ _ c.make_folder.result _ c.make_folder.ensures; ok = tt }
