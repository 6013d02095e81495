use Rattle.std.proofs.Common.{◌+◌, sym, subst}
use Rattle.station_store.proofs.Reaching.{both, IsReaching, no_folder, one_reached}
use Rattle.station_store.proofs.folders.reach.Goals.{in-Some+in_ok-reach_folder, in_default}
use Rattle.station_store.proofs.folders.reach.Goals as goal

pub returns-in_err-reach_folder-clause-same : goal.returns-in_err-reach_folder-clause-same
returns-in_err-reach_folder-clause-same g c = both _ _ _ c.loop-end.invariant.same c.reach_folder.ensures.same

pub loop-end-preserved : goal.loop-end-preserved
loop-end-preserved g c = elim c.match-folder_at.branch [
  | in-Some+in_ok-reach_folder w ↦
      subst (λ d. IsReaching c.args.known.now c.args.path.now (c.loop-end.end + 1) (g.D.Disk.done c.args.disk.now) (g.D.Disk.done d)) (sym w.disk-is)
      (one_reached _ _ _ _ _ c.loop-end.invariant _ _ w.reach_folder.ensures.same w.in-Some.ensures w.in_ok-reach_folder.ensures.ok)
  | in_default w ↦
      subst (λ d. IsReaching c.args.known.now c.args.path.now (c.loop-end.end + 1) (g.D.Disk.done c.args.disk.now) (g.D.Disk.done d)) (sym w.disk-is)
      (no_folder _ _ _ _ _ c.loop-end.invariant w.in_default.ensures)
]
