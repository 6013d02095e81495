use Rattle.whole_files.proofs.Cuts.{parted, whole}
use Rattle.program_numbers.proofs.held.parts_of.Goals as goal

pub returns-in-None : goal.returns-in-None
returns-in-None c = (whole c.args.path.now c.in-None.ensures.cases).1

pub returns-in-Some-empty-default : goal.returns-in-Some-empty-default
returns-in-Some-empty-default c = (parted c.args.path.now _ _ c.in-Some-empty-default.ensures.cases).1

pub returns-in-Some : goal.returns-in-Some
returns-in-Some c = (parted c.args.path.now _ _ c.in-Some.ensures.cases).1
