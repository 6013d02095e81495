use Rattle.std.proofs.Common.{rules}
use Rattle.station_config.proofs.Cuts.{parted, whole}
use Rattle.station_config.proofs.paths.path_from.Goals as goal

pub returns-in-Some : goal.returns-in-Some
returns-in-Some c =
    let cut = parted c.args.file.now _ _ c.in-Some.ensures.cases in
    rw (← cut.0, cut.1) (grind rules)

pub returns-in-None : goal.returns-in-None
returns-in-None c =
    let none = whole c.args.file.now c.in-None.ensures.cases in
    rw none (grind rules)
