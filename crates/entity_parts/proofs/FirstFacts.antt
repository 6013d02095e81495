-- The lanes of a configuration are sound, as they stand at first.
use Rattle.std.proofs.Common.{◌≡◌, ℕ, IsTrue, sym, subst}
use Rattle.cfdp_types.specs.declared.params.ParamsParts.{ParamsParts}
use Rattle.cfdp_types.specs.declared.key.EntityId.{EntityId}
use Rattle.config_reading.specs.Values.{ConfigValue, is_config}
use Rattle.entity_config.proofs.Limits.{has_users, has_lanes}
use Rattle.lane_table.specs.Lane.{State, idle, IsSound}
use Rattle.lane_table.specs.declared.lane_side.LaneSide.TheVariants.{Sending, Receiving}
use Rattle.lane_table.proofs.StepFacts.{idle_sound}
use Rattle.entity_parts.specs.FirstLanes.{numbers_of, greatest_of, first_sending}

pub sending_sound : (config : ConfigValue) (user lane : ℕ) (state : State) → IsTrue (is_config config) → state ≡ first_sending config user lane → IsSound state
sending_sound config user lane state kept is =
    subst IsSound (sym is)
    (idle_sound (Sending (numbers_of config) (greatest_of config)) user lane config.entity.local ((has_lanes config kept).put, has_users config kept))

pub receiving_sound : (params : ParamsParts) (user lane : ℕ) (source : EntityId) (state : State) → state ≡ idle (Receiving params) user lane source → IsSound state
receiving_sound params user lane source state is = subst IsSound (sym is) (idle_sound (Receiving params) user lane source tt)
