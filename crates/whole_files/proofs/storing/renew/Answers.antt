use Rattle.disk.specs.Promise.{NothingNew}
use Rattle.disk.proofs.Moments.{then}
use Rattle.disk.proofs.Answered as answered
use Rattle.whole_files.proofs.storing.renew.Goals as goal

pub returns-in-Ok-clause-changes : goal.returns-in-Ok-clause-changes
returns-in-Ok-clause-changes g c = answered.created _ _ c.create.result _ NothingNew c.create.ensures

pub returns-in-Err : goal.returns-in-Err
returns-in-Err g c = record { changes = answered.created _ _ c.create.result _ NothingNew c.create.ensures; ok = tt }

pub returns-in_err-remove-in-Err-Exists-clause-changes : goal.returns-in_err-remove-in-Err-Exists-clause-changes
returns-in_err-remove-in-Err-Exists-clause-changes g c =
    then _ _ _ _ _ (answered.created _ _ c.create.result _ NothingNew c.create.ensures) (answered.removed _ _ c.remove.result _ NothingNew c.remove.ensures)

pub returns-in_ok-remove-in-Err-Exists-clause-changes : goal.returns-in_ok-remove-in-Err-Exists-clause-changes
returns-in_ok-remove-in-Err-Exists-clause-changes g c =
    then _ _ _ _ _ (then _ _ _ _ _ (answered.created _ _ c.create.result _ NothingNew c.create.ensures) (answered.removed _ _ c.remove.result _ NothingNew c.remove.ensures))
    (answered.created _ _ c.create-in-Err-Exists.result _ NothingNew c.create-in-Err-Exists.ensures)
