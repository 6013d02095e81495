-- Meaning. The table at which the reading of a configuration stops.
use Rattle.std.specs.Prelude.{ℕ, if◌then◌else◌, nat_lt, List, [], ◌∷◌, ◌++◌, length, Option, Some, None, Ok, Err}
use Rattle.cfdp_types.specs.declared.limits.TheConstants.{REMOTES, USERS}
use Rattle.config_reading.specs.declared.entity.EntitySettings.{EntitySettings}
use Rattle.config_reading.specs.declared.fault.Key.TheVariants as key
use Rattle.config_reading.specs.Values.{PeerValue}
use Rattle.config_reading.specs.Walk.{Read, counted, entity_in, has_only, remote_in, required, table_of, user_in, value_at}
use Rattle.fault_texts.specs.declared.spot.Spot.{Spot}
use Rattle.fault_texts.specs.declared.spot.Spot.TheVariants as spot
use Rattle.toml.specs.Data.{Members}

-- what comes of what was read, or of a fault
abbrev pub if_read : {A B : Type 0} → Read A → (A → B) → B → B
if_read (Ok x) next stopped = next x
if_read (Err f) next stopped = stopped

-- reading stops here, or goes on
abbrev pub stops_at : {A : Type 0} → Spot → Read A → (A → Option Spot) → Option Spot
stops_at here read next = if_read read next (Some here)

-- the names of the first users, up to the table at which reading stops
abbrev pub names_until : List (List ℕ) → List Members → List (List ℕ)
names_until before [] = before
names_until before (ms ∷ rest) = if_read (user_in before ms) (λ name. names_until (before ++ name ∷ []) rest) before

-- the first remote entities, likewise
abbrev pub peers_until : EntitySettings → List (List ℕ) → List PeerValue → List Members → List PeerValue
peers_until entity users before [] = before
peers_until entity users before (ms ∷ rest) = if_read (remote_in entity users before ms) (λ peer. peers_until entity users (before ++ peer ∷ []) rest) before

-- the first table of a user or of a remote entity that can't be read
abbrev pub spot_among : EntitySettings → List Members → List Members → Option Spot
spot_among entity user_tables remote_tables =
    if nat_lt (length users) (length user_tables) then Some (spot.User (length users))
    else (if nat_lt (length peers) (length remote_tables) then Some (spot.Remote (length peers)) else None)
  where
    users : List (List ℕ)
    users = names_until [] user_tables

    peers : List PeerValue
    peers = peers_until entity users [] remote_tables

-- the first table that can't be read, in the order of reading
abbrev pub spot_in : Members → Option Spot
spot_in ms =
    if has_only (key.Entity ∷ key.User ∷ key.Remote ∷ []) ms then
    stops_at spot.Top (required key.Entity (table_of key.Entity) (value_at key.Entity ms)) (λ entity_table.
    stops_at spot.Top (required key.User (counted key.User 1 USERS) (value_at key.User ms)) (λ user_tables.
    stops_at spot.Top (required key.Remote (counted key.Remote 0 REMOTES) (value_at key.Remote ms)) (λ remote_tables.
    stops_at spot.Entity (entity_in entity_table) (λ entity.
    spot_among entity user_tables remote_tables))))
    else Some spot.Top
