use Rattle.whole_files.proofs.Copies.{flushes, takes_back, takes_back_then}
use Rattle.whole_files.specs.Links.{TakenBack}
use Rattle.whole_files.proofs.Chains.{on_err}
use Rattle.whole_files.proofs.keeping.settle.Goals as goal

pub returns-then-is_err-clause-changes : goal.returns-then-is_err-clause-changes
returns-then-is_err-clause-changes g c =
    takes_back _ _ _ _ _ c.flush_folder-flushed.result (rw c.folder_of.ensures at c.flush_folder-flushed.ensures) c.requires.copy _ c.remove.result c.remove.ensures

pub returns-else-is_err-clause-changes : goal.returns-else-is_err-clause-changes
returns-else-is_err-clause-changes g c = flushes _ _ _ _ _ c.flush_folder-flushed.result (rw c.folder_of.ensures at c.flush_folder-flushed.ensures)

pub returns-then-is_err-clause-back : goal.returns-then-is_err-clause-back
returns-then-is_err-clause-back g c =
    on_err (TakenBack c.args.place.now (g.D.Disk.done c.args.disk.now) (g.D.Disk.done c.remove.new.self)) _ (takes_back_then c.args._path.now c.args.place.now c.args._octets.now _ _ c.flush_folder-flushed.result (rw c.folder_of.ensures at c.flush_folder-flushed.ensures) _ c.remove.result c.remove.ensures)
