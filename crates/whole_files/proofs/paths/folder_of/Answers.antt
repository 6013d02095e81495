use Rattle.whole_files.proofs.Cuts.{parted, whole}
use Rattle.whole_files.proofs.paths.folder_of.Goals as goal

pub returns-in-Some : goal.returns-in-Some
returns-in-Some c = (parted c.args.path.now _ _ c.in-Some.ensures.cases).0

pub returns-in-None : goal.returns-in-None
returns-in-None c = (whole c.args.path.now c.in-None.ensures.cases).0
