-- Nothing was sent from a lane that has opened nothing yet.
use Rattle.std.proofs.Common.{◌≡◌, ℕ, [], sym, subst}
use Rattle.cfdp_types.specs.declared.key.EntityId.{EntityId}
use Rattle.lane_table.specs.declared.lane_side.LaneSide.{LaneSide}
use Rattle.lane_table.specs.Keeping.{Keeps}
use Rattle.lane_table.specs.Lane.{State, idle}
use Rattle.lane_table.proofs.StepFacts.{idle_keeps}

pub fresh_keeps : (lane : State) (side : LaneSide) (user number : ℕ) (source : EntityId) → lane ≡ idle side user number source → Keeps lane []
fresh_keeps lane side user number source is = subst (λ (s : State). Keeps s []) (sym is) (idle_keeps side user number source)
