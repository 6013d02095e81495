use Rattle.whole_files.specs.PartSteps.{OnlyRefused}
use Rattle.whole_files.proofs.parts.new_part.Given as goal

abbrev pub invariant-loop : goal.invariant-loop
invariant-loop g l = OnlyRefused (g.D.Disk.done l.fn.disk) (g.D.Disk.done l.disk)
