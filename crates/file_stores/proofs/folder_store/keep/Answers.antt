use Rattle.file_stores.proofs.Reached.{none_stored}
use Rattle.file_stores.proofs.folder_store.keep.Goals as goal

pub returns-in_default-clause-stores : goal.returns-in_default-clause-stores
returns-in_default-clause-stores g c = none_stored _ _ _
