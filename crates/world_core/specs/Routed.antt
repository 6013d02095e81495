-- Meaning. Events happen in the lanes that the configuration gives them.
use Rattle.std.specs.Prelude.{◌≡◌, ℕ, ◌<◌, List, [], ◌∷◌, length, Some}
use Rattle.config_reading.specs.Values.{ConfigValue}
use Rattle.txn_events.specs.declared.event.Event.{Event}
use Rattle.txn_events.specs.declared.event.Event.TheVariants.{Put, On}
use Rattle.world_table.specs.Histories.{Happening, steps, takes}
use Rattle.entity_routing.specs.Places.{place_of}

-- the step is of its event's lane: a Put may be in any sending lane, other events are in their transaction's lane
abbrev pub IsRoutedTo : ConfigValue → ℕ → ℕ → Event → Type 0
IsRoutedTo config user lane (Put put params) = (user < length config.users) × (lane < config.entity.put_lanes)
IsRoutedTo config user lane (On key happens) = place_of config key ≡ Some (record { user = user; lane = lane })

-- each step of a history is in its event's lane
abbrev pub AreRouted : ConfigValue → List Happening → Type 0
AreRouted config [] = Unit {0}
AreRouted config (steps user lane event ∷ earlier) = IsRoutedTo config user lane event × AreRouted config earlier
AreRouted config (takes user ∷ earlier) = AreRouted config earlier
