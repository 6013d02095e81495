use Rattle.std.proofs.Common.{◌≡◌}
use Rattle.whole_files.specs.Links.{refusals}
use Rattle.whole_files.proofs.keeping.link_first.Given as goal

abbrev pub invariant-loop-copy : goal.invariant-loop-copy
invariant-loop-copy g l = g.D.Disk.done l.disk ≡ refusals l.part l.path l.copy (g.D.Disk.done l.fn.disk)
