use Rattle.std.proofs.Common.{◌≡◌}
use Rattle.program_parking.specs.Parkings.{greatest}
use Rattle.program_parking.proofs.sharing.greatest.Given as goal

abbrev pub invariant-loop-source : goal.invariant-loop-source
invariant-loop-source l = l.best ≡ greatest l.source l.remotes l.sources l.lanes
