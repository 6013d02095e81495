-- Meaning. What a station was told, by the table of its file: the value of each key, or its default.
use Rattle.std.specs.Prelude.{◌≡◌, ℕ, Bool, true, if◌then◌else◌, List, [], ◌∷◌, ◌++◌, map, Option, Some, None, IfSome, is_some, string_bytes, codes, option_and_then, option_map, ℤ}
use Rattle.std.specs.Str.{bytes_eq}
use Rattle.toml.specs.Data.{Data, Items, no_items, item, Members, as_array, as_integer, as_table, get_member}
use Rattle.event_levels.specs.Levels.{level_named}
use Rattle.event_levels.specs.declared.level.Level.{Level}
use Rattle.event_levels.specs.declared.level.Level.TheVariants.{Info}
use Rattle.station_config.specs.Station.{has, has_word, number_in, number_of, path_from, truth_of, value_at, word_of}
use Rattle.station_config.specs.declared.keys.TheConstants.{ABANDON_FULL, BIND, EXISTING, FOLDER, HOLD, LAYOUT, LOG_COMMANDS, LOG_FILE, LOG_LEVEL, MODE, NUMBERS, OUTBOX, OUTBOX_REPAIR, PARK, PEER_HELD, PEER_LANES, PEER_RATE, RATE, RECORD_FOLDER, RECORD_MOST, RECORD_WHICH, RETRY, SOCKET, SOURCES, STATUS_SOCKET, WORKERS}
use Rattle.station_config.specs.declared.settings.ControlSettings.{ControlSettings}
use Rattle.station_config.specs.declared.settings.Lanes.{Lanes}
use Rattle.station_config.specs.declared.settings.Lanes.TheVariants as lanes
use Rattle.station_config.specs.declared.settings.LogSettings.{LogSettings}
use Rattle.station_config.specs.declared.settings.RecordSettings.{RecordSettings}
use Rattle.station_config.specs.declared.settings.RemoteSettings.{RemoteSettings}
use Rattle.station_config.specs.declared.settings.SendingSettings.{SendingSettings}
use Rattle.station_config.specs.declared.settings.Settings.{Settings}
use Rattle.station_config.specs.declared.settings.SourceRule.{SourceRule}
use Rattle.station_config.specs.declared.settings.SourceRule.TheVariants as rule
use Rattle.station_config.specs.declared.settings.StationSettings.{StationSettings}
use Rattle.station_config.specs.declared.settings.StoreSettings.{StoreSettings}

-- a path, if a value is one
abbrev pub perhaps : List ℕ → List ℕ → Option (List ℕ)
perhaps file [] = None
perhaps file (octet ∷ octets) = Some (path_from file (octet ∷ octets))

abbrev pub perhaps_at : List ℕ → Option Data → Option (List ℕ)
perhaps_at file value = perhaps file (word_of value)

-- a path, by default one beside the store's folder
abbrev pub beside_at : List ℕ → List ℕ → List ℕ → Option Data → Option (List ℕ)
beside_at file folder ending None = Some (folder ++ ending)
beside_at file folder ending (Some d) = perhaps_at file (Some d)

abbrev pub source_rule : List ℕ → SourceRule
source_rule word = if bytes_eq word (codes "hosts") then rule.Hosts else if bytes_eq word (codes "known") then rule.Known else if bytes_eq word (codes "own") then rule.Own else rule.Any

abbrev pub mode_of : List ℕ → ℕ
mode_of word = if bytes_eq word (codes "0660") then 432 else if bytes_eq word (codes "0666") then 438 else 384

abbrev pub named_level : Option Level → Level
named_level None = Info
named_level (Some level) = level

-- what is said of the store
pub record StoreSays (folder : List ℕ) (top : Members) (s : StoreSettings) : Type 0 where
  pub folder_is : string_bytes s.folder ≡ folder
  pub tree : s.tree ≡ has (has_word (codes "tree")) (value_at LAYOUT.0.now LAYOUT.1.now top)
  pub by_source : s.by_source ≡ has (has_word (codes "by-source")) (value_at LAYOUT.0.now LAYOUT.1.now top)
  pub keeps : s.keeps ≡ bytes_eq (word_of (value_at EXISTING.0.now EXISTING.1.now top)) (codes "keep")
  pub retry : s.retry_s ≡ number_of RETRY.2 (value_at RETRY.0.now RETRY.1.now top)

-- what is said of what is sent; files are beside the store's folder
pub record SendingSays (file folder : List ℕ) (top : Members) (s : SendingSettings) : Type 0 where
  pub numbers : option_map string_bytes s.numbers ≡ beside_at file folder (codes ".numbers") (value_at NUMBERS.0.now NUMBERS.1.now top)
  pub outbox : option_map string_bytes s.outbox ≡ beside_at file folder (codes ".outbox") (value_at OUTBOX.0.now OUTBOX.1.now top)
  pub repair : s.outbox_repair ≡ truth_of OUTBOX_REPAIR.2 (value_at OUTBOX_REPAIR.0.now OUTBOX_REPAIR.1.now top)
  pub rate : s.rate ≡ number_of RATE.2 (value_at RATE.0.now RATE.1.now top)

-- what is said of where clients command it
pub record ControlSays (file : List ℕ) (top : Members) (s : ControlSettings) : Type 0 where
  pub socket : string_bytes s.socket ≡ path_from file (word_of (value_at SOCKET.0.now SOCKET.1.now top))
  pub mode : s.mode ≡ mode_of (word_of (value_at MODE.0.now MODE.1.now top))
  pub status_socket : option_map string_bytes s.status_socket ≡ perhaps_at file (value_at STATUS_SOCKET.0.now STATUS_SOCKET.1.now top)

-- what is said of the log
pub record LogSays (file folder : List ℕ) (top : Members) (s : LogSettings) : Type 0 where
  pub path : option_map string_bytes s.file ≡ beside_at file folder (codes ".log") (value_at LOG_FILE.0.now LOG_FILE.1.now top)
  pub level : s.level ≡ named_level (level_named (word_of (value_at LOG_LEVEL.0.now LOG_LEVEL.1.now top)))
  pub commands : s.commands ≡ truth_of LOG_COMMANDS.2 (value_at LOG_COMMANDS.0.now LOG_COMMANDS.1.now top)

-- what is said of recordings
pub record RecordSays (file : List ℕ) (top : Members) (s : RecordSettings) : Type 0 where
  pub folder : option_map string_bytes s.folder ≡ perhaps_at file (value_at RECORD_FOLDER.0.now RECORD_FOLDER.1.now top)
  pub every : s.all ≡ bytes_eq (word_of (value_at RECORD_WHICH.0.now RECORD_WHICH.1.now top)) (codes "all")
  pub most : s.most ≡ number_of RECORD_MOST.2 (value_at RECORD_MOST.0.now RECORD_MOST.1.now top)

-- the value of a key in a table `[[remote]]`
abbrev pub value_in : List ℕ → Data → Option Data
value_in name d = option_and_then (get_member name) (as_table d)

abbrev pub numbered : Option ℤ → Lanes
numbered None = lanes.Free
numbered (Some z) = lanes.Number (number_in z)

abbrev pub lanes_of : Option Data → Lanes
lanes_of None = lanes.AsHere
lanes_of (Some d) = numbered (as_integer d)

-- what is said of a remote entity, and of all, table by table
abbrev pub remote_of : Data → RemoteSettings
remote_of d = record {
  rate = number_of PEER_RATE.2 (value_in PEER_RATE.1.now d);
  lanes = lanes_of (value_in PEER_LANES.1.now d);
  held = truth_of PEER_HELD.2 (value_in PEER_HELD.1.now d);
}

abbrev pub remotes_of : Items → List RemoteSettings
remotes_of no_items = []
remotes_of (item d ds) = remote_of d ∷ remotes_of ds

abbrev pub listed : Option Items → List RemoteSettings
listed None = []
listed (Some ds) = remotes_of ds

abbrev pub remotes_in : Members → List RemoteSettings
remotes_in top = listed (option_and_then as_array (get_member (codes "remote") top))

-- the store's folder
abbrev pub folder_of : List ℕ → Members → List ℕ
folder_of file top = path_from file (word_of (value_at FOLDER.0.now FOLDER.1.now top))

-- what is said of where it listens, and of what it takes
pub record StationSays (top : Members) (s : StationSettings) : Type 0 where
  pub bind : string_bytes s.bind ≡ word_of (value_at BIND.0.now BIND.1.now top)
  pub workers : s.workers ≡ number_of WORKERS.2 (value_at WORKERS.0.now WORKERS.1.now top)
  pub park : s.park ≡ number_of PARK.2 (value_at PARK.0.now PARK.1.now top)
  pub hold : s.hold ≡ truth_of HOLD.2 (value_at HOLD.0.now HOLD.1.now top)
  pub sources : s.sources ≡ source_rule (word_of (value_at SOURCES.0.now SOURCES.1.now top))
  pub abandon_full : s.abandon_full ≡ truth_of ABANDON_FULL.2 (value_at ABANDON_FULL.0.now ABANDON_FULL.1.now top)

-- what a station was told
pub record SettingsSays (file : List ℕ) (top : Members) (s : Settings) : Type 0 where
  pub station : StationSays top s.station
  pub store : StoreSays (folder_of file top) top s.store
  pub sending : SendingSays file (folder_of file top) top s.sending
  pub control : IfSome s.control (ControlSays file top)
  pub is_commanded : is_some s.control ≡ true
  pub log : LogSays file (folder_of file top) top s.log
  pub recorded : RecordSays file top s.record
  pub remotes : s.remotes.items ≡ remotes_in top
