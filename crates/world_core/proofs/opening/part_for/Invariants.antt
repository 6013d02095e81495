use Rattle.std.proofs.Common.{◌≡◌}
use Rattle.entity_parts.specs.FirstLanes.{first_lane}
use Rattle.world_core.specs.Opening.{AreMade}
use Rattle.world_core.proofs.opening.part_for.Given as goal

-- the lanes so far are the user's first ones
abbrev pub invariant-loop-lane : goal.invariant-loop-lane
invariant-loop-lane l = AreMade (λ place lane. lane ≡ first_lane l.config l.user place) l.lanes.items l.lane
