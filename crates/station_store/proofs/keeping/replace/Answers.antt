use Rattle.std.proofs.Common.{None, sym, subst}
use Rattle.disk.specs.Promise.{IsReached}
use Rattle.station_store.specs.declared.settings.Clash.TheVariants.{Replace}
use Rattle.station_store.proofs.Storing.{none_stored_by, still_reached_by}
use Rattle.station_store.proofs.keeping.replace.Goals as goal

pub returns-in_default-clause-not_kept : goal.returns-in_default-clause-not_kept
returns-in_default-clause-not_kept g c = none_stored_by Replace c.args.path.now c.args.octets.now _

pub returns-clause-reached : goal.returns-clause-reached
returns-clause-reached g c =
    subst (IsReached (g.D.Disk.done c.replace_file.new.disk)) (sym c.in-Ok.ensures.ok)
    (still_reached_by Replace c.args.path.now c.args.octets.now None _ _ _ c.replace_file.ensures.stores c.requires)
