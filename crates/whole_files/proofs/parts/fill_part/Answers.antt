use Rattle.disk.specs.Promise.{NothingNew}
use Rattle.disk.proofs.Moments.{then}
use Rattle.disk.proofs.Answered as answered
use Rattle.whole_files.proofs.Chains.{on_err}
use Rattle.whole_files.proofs.PartFacts.{taken_away}
use Rattle.whole_files.proofs.parts.fill_part.Goals as goal

pub returns-then-is_err-clause-changes : goal.returns-then-is_err-clause-changes
returns-then-is_err-clause-changes g c = then _ _ _ _ _ c.fill-filled.ensures.changes (answered.removed _ _ c.remove.result _ NothingNew c.remove.ensures)

pub returns-then-is_err-clause-away : goal.returns-then-is_err-clause-away
returns-then-is_err-clause-away g c = on_err _ _ (taken_away _ _ c.remove.result _ c.remove.ensures)
