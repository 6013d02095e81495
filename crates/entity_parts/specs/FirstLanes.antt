-- Meaning. The new lanes of an entity's users, by its configuration.
use Rattle.std.specs.Prelude.{ℕ, ◌^◌, ◌-◌, length, Option, Some, None}
use Rattle.config_reading.specs.Values.{ConfigValue, PeerValue}
use Rattle.lane_table.specs.declared.lane_side.LaneSide.TheVariants.{Sending, Receiving}
use Rattle.lane_table.specs.declared.lane_side.Numbers.{Numbers}
use Rattle.lane_table.specs.Lane.{State, idle}
use Rattle.entity_routing.specs.Places.{source_of_lane}

-- how sending lanes number their transactions
abbrev pub numbers_of : ConfigValue → Numbers
numbers_of config = record { first = config.entity.first; lanes = config.entity.put_lanes; users = length config.users }

-- the greatest sequence number of the configured length
abbrev pub greatest_of : ConfigValue → ℕ
greatest_of config = 256 ^ config.entity.lengths.sequence_octets - 1

-- a new sending lane of a user
abbrev pub first_sending : ConfigValue → ℕ → ℕ → State
first_sending config user lane = idle (Sending (numbers_of config) (greatest_of config)) user lane config.entity.local

-- a new lane of a user, which receives from a remote entity if there is one, and otherwise sends
abbrev pub lane_for : ConfigValue → ℕ → ℕ → Option PeerValue → State
lane_for config user lane None = first_sending config user lane
lane_for config user lane (Some peer) = idle (Receiving peer.remote.params) user lane peer.remote.id

-- a new lane of a user
abbrev pub first_lane : ConfigValue → ℕ → ℕ → State
first_lane config user lane = lane_for config user lane (source_of_lane config user lane)
