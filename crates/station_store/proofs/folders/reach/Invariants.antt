use Rattle.station_store.proofs.Reaching.{IsReaching}
use Rattle.station_store.proofs.folders.reach.Given as goal

abbrev pub invariant-loop-end : goal.invariant-loop-end
invariant-loop-end g l = IsReaching l.known l.path l.end (g.D.Disk.done l.fn.disk) (g.D.Disk.done l.disk)
