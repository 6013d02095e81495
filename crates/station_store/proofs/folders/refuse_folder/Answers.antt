use Rattle.disk.proofs.Answered as answered
use Rattle.station_store.proofs.folders.refuse_folder.Goals as goal

pub returns-in-Ok-true : goal.returns-in-Ok-true
returns-in-Ok-true g c = answered.looked _ _ c.is_folder.result _ c.is_folder.ensures
