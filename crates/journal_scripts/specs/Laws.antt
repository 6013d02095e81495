-- Meaning. What the lines of events say to the reader of lines.
use Rattle.std.specs.Prelude.{◌≡◌, ℕ, ◌<◌, ◌^◌, IsTrue, List, [], ◌∷◌, map, slice_get, Option, Some}
use Rattle.std.specs.List.{concat}
use Rattle.hex.specs.Hex.{IsBytes}
use Rattle.cfdp_types.specs.Put.{PutValue}
use Rattle.cfdp_types.specs.declared.key.TxnKey.{TxnKey}
use Rattle.config_reading.specs.Values.{ConfigValue, is_config}
use Rattle.pdu_values.specs.Spelling.{written}
use Rattle.txn_events.specs.declared.event.Event.{Event}
use Rattle.txn_events.specs.declared.event.Event.TheVariants.{Put, On}
use Rattle.txn_events.specs.declared.event.What.{What}
use Rattle.txn_events.specs.declared.event.What.TheVariants as what
use Rattle.entity_routing.specs.declared.world_event.Request.TheVariants as requests
use Rattle.entity_routing.specs.declared.world_event.WorldEvent.{WorldEvent}
use Rattle.entity_routing.specs.declared.world_event.WorldEvent.TheVariants as events
use Rattle.script_lines.specs.declared.command.Command.TheVariants as command
use Rattle.script_lines.specs.Commands.{command_of}
use Rattle.journal_scripts.specs.Rows.{is_plain, line_of, on_words, piece_words, pieces, put_words}

-- ---- events as an entity's caller gives them

-- what happens to a transaction of a user; a PDU as its datagram
abbrev pub caller_what : ℕ → TxnKey → What → WorldEvent
caller_what user key what.Cancel = events.Request user (requests.Cancel key)
caller_what user key what.Suspend = events.Request user (requests.Suspend key)
caller_what user key what.Resume = events.Request user (requests.Resume key)
caller_what user key what.Report = events.Request user (requests.Report key)
caller_what user key what.Abandon = events.Request user (requests.Abandon key)
caller_what user key what.Pump = events.Pump key
caller_what user key (what.Pdu pdu) = events.Deliver (written pdu)
caller_what user key (what.Timer kind stamp) = events.Timer key kind stamp
caller_what user key (what.Stored stamp kept) = events.Stored key stamp kept

-- an event at a lane of a user
abbrev pub caller_event : ℕ → ℕ → Event → WorldEvent
caller_event user lane (Put put params) = events.Request user (requests.Put lane put)
caller_event user lane (On key happened) = caller_what user key happened

-- ---- what the code's types keep

abbrev pub IsKey : TxnKey → Type 0
IsKey key = (key.source.0 < 2 ^ 64) × (key.seq < 2 ^ 64)

-- the numbers of an event fit their types, and its octets are octets
abbrev pub IsWhat : What → Type 0
IsWhat (what.Pdu pdu) = IsBytes (written pdu) × (written pdu ≡ [] → ⊥)
IsWhat (what.Timer kind stamp) = stamp < 2 ^ 32
IsWhat (what.Stored stamp kept) = stamp < 2 ^ 32
IsWhat happened = Unit {0}

-- ---- the law

-- a user of a configuration that is within all limits, by number and name
pub record IsUser (config : ConfigValue) (user : ℕ) (name : List ℕ) : Type 0 where
  pub kept : IsTrue (is_config config)
  pub named : slice_get config.users user ≡ Some name

-- what the line of a put needs: it is plain, its lane is one of the user's, and its file has been gathered, if it has one
pub record IsReady (config : ConfigValue) (lane : ℕ) (put : PutValue) (gathered : Option (List ℕ)) : Type 0 where
  pub plain : IsTrue (is_plain put)
  pub has_lane : lane < config.entity.put_lanes
  pub lane_is : lane < 2 ^ 64
  pub number : put.destination.0 < 2 ^ 64
  pub file : (put.file ≡ [] → ⊥) → gathered ≡ Some put.file

-- each line is read back as its event
pub record ReadsBack : Type 0 where
  pub happenings : (config : ConfigValue) (gathered : Option (List ℕ)) (user : ℕ) (name : List ℕ) (key : TxnKey) (happened : What)
      → IsUser config user name → IsKey key → IsWhat happened
      → command_of config gathered (line_of (on_words name key happened)) ≡ Some (command.Event (caller_what user key happened))
  pub puts : (config : ConfigValue) (gathered : Option (List ℕ)) (user lane : ℕ) (name : List ℕ) (put : PutValue)
      → IsUser config user name → IsReady config lane put gathered
      → command_of config gathered (line_of (put_words name lane put)) ≡ Some (command.Event (events.Request user (requests.Put lane put)))

-- the lines of a file's pieces gather each piece, and all of them are the file
pub record GathersFiles : Type 0 where
  pub read : (config : ConfigValue) (gathered : Option (List ℕ)) (file : List ℕ) → IsBytes file
      → map (λ piece. command_of config gathered (line_of (piece_words piece))) (pieces file) ≡ map (λ piece. Some (command.File piece)) (pieces file)
  pub whole : (file : List ℕ) → concat (pieces file) ≡ file
