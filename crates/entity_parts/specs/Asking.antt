-- Meaning. The condition on a user's request that the caller of an entity must ensure.
use Rattle.std.specs.Prelude.{ℕ, ◌<◌, length}
use Rattle.config_reading.specs.Values.{ConfigValue}
use Rattle.entity_routing.specs.declared.world_event.Request.{Request}
use Rattle.entity_routing.specs.declared.world_event.Request.TheVariants as requests

-- the user is one of the entity's, and a Put names one of the user's sending lanes
abbrev pub MayRequest : ConfigValue → ℕ → Request → Type 0
MayRequest config user (requests.Put lane put) = (user < length config.users) × (lane < config.entity.put_lanes)
MayRequest config user request = user < length config.users
