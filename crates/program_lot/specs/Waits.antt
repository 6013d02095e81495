-- Meaning. What a refusal of a datagram means for it: whether it is worth keeping, and what it waits for.
use Rattle.std.specs.Prelude.{Bool, true, false, if◌then◌else◌}
use Rattle.txn_events.specs.declared.refusal.Refusal.{Refusal}
use Rattle.txn_events.specs.declared.refusal.Refusal.TheVariants.{LaneBusy, NoMemory, QueueFull}
use Rattle.program_parking.specs.declared.outcome.Outcome.{Outcome}
use Rattle.program_parking.specs.declared.outcome.Outcome.TheVariants as outcomes
use Rattle.program_lot.specs.declared.settled.Settled.{Settled}
use Rattle.program_lot.specs.declared.settled.Settled.TheVariants as ends
use Rattle.lane_table.specs.declared.refused.Refused.{Refused}
use Rattle.entity_parts.specs.declared.refusal.EntityRefusal.{EntityRefusal}
use Rattle.entity_parts.specs.declared.refusal.EntityRefusal.TheVariants.{Lane}

-- a lane that is busy comes free; a full queue has room again where the station itself takes the bundles
abbrev pub settled_for : Bool → Refusal → Settled
settled_for takes LaneBusy = ends.WantsLane
settled_for takes QueueFull = if takes then ends.WantsRoom else ends.Refused
settled_for takes other = ends.Refused

abbrev pub settled_by : Bool → EntityRefusal → Settled
settled_by takes (Lane refused) = settled_for takes refused.why
settled_by takes other = ends.Refused

-- what this means for those that are parked
abbrev pub outcome_of : Settled → Outcome
outcome_of ends.Taken = outcomes.Taken
outcome_of ends.Refused = outcomes.Refused
outcome_of ends.WantsRoom = outcomes.Waits
outcome_of ends.WantsLane = outcomes.Waits

-- memory ran out
abbrev pub is_lack : Refusal → Bool
is_lack NoMemory = true
is_lack other = false

abbrev pub lacks_memory : EntityRefusal → Bool
lacks_memory (Lane refused) = is_lack refused.why
lacks_memory other = false
