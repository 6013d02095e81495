-- Of the code. The new users of an entity, by its configuration.
use Rattle.std.specs.Prelude.{◌≡◌, ℕ, List, length, Some, slice_get}
use Rattle.config_reading.specs.Values.{ConfigValue}
use Rattle.entity_routing.specs.Places.{lanes_of}
use Rattle.entity_parts.specs.FirstLanes.{first_lane}
use Rattle.world_core.specs.Standing.{Layout}

-- the layout of a configuration: users, lanes and room
abbrev pub layout_of : ConfigValue → Layout
layout_of config =
    record { users = length config.users; lanes_of = lanes_of config; capacity = config.entity.capacity; lanes = first_lane config }

-- ---- lists that are made one by one

-- there are this many items, and each is right for its place
pub record AreMade {A : Type 0} (IsAt : ℕ → A → Type 0) (made : List A) (count : ℕ) : Type 0 where
  pub counted : length made ≡ count
  pub each : (place : ℕ) (item : A) → slice_get made place ≡ Some item → IsAt place item
