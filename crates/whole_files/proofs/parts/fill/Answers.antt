use Rattle.disk.specs.Promise.{NothingNew}
use Rattle.disk.proofs.Answered as answered
use Rattle.whole_files.proofs.Chains.{fills}
use Rattle.whole_files.proofs.parts.fill.Goals as goal

pub returns-in_err-append-clause-changes : goal.returns-in_err-append-clause-changes
returns-in_err-append-clause-changes g c = answered.appends _ _ c.append.result _ NothingNew _ _ c.requires c.append.ensures

pub returns-in_err-flush-clause-changes : goal.returns-in_err-flush-clause-changes
returns-in_err-flush-clause-changes g c = fills _ _ _ _ _ c.requires c.append.result _ c.in_ok-append.was c.append.ensures c.flush.result c.flush.ensures

pub returns-clause-changes : goal.returns-clause-changes
returns-clause-changes g c = fills _ _ _ _ _ c.requires c.append.result _ c.in_ok-append.was c.append.ensures c.flush.result c.flush.ensures
