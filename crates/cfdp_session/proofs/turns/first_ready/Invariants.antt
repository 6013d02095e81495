use Rattle.std.proofs.Common.{◌≡◌}
use Rattle.std.specs.Prelude.{drop}
use Rattle.cfdp_session.specs.Turns.{first_ready}
use Rattle.cfdp_session.proofs.turns.first_ready.Given as goal

abbrev pub invariant-loop-lane : goal.invariant-loop-lane
invariant-loop-lane l = first_ready l.lanes ≡ first_ready (drop l.lane-index l.lanes)
