-- Meaning. What a line of a script asks for.
use Rattle.std.specs.Prelude.{ℕ, ◌-◌, ◌^◌, ◌==◌, Bool, true, false, if◌then◌else◌, List, [], ◌∷◌, length, Option, Some, None, is_some, codes, option_and_then}
use Rattle.std.specs.Option.{option_map}
use Rattle.std.specs.Result.{result_ok}
use Rattle.std.specs.Str.{bytes_eq}
use Rattle.hex.specs.Hex.{decode_of}
use Rattle.cfdp_types.specs.Put.{PutValue, put_fault}
use Rattle.cfdp_types.specs.declared.names.Class.{Class}
use Rattle.cfdp_types.specs.declared.names.Checksum.{Checksum}
use Rattle.cfdp_types.specs.declared.names.Checksum.TheVariants.{Modular, Null}
use Rattle.cfdp_types.specs.declared.names.Handler.{Handler}
use Rattle.cfdp_types.specs.declared.names.Handler.TheVariants as handler
use Rattle.cfdp_types.specs.declared.names.Role.{Role}
use Rattle.cfdp_types.specs.declared.names.Role.TheVariants.{Send, RecvOne, RecvTwo}
use Rattle.cfdp_types.specs.declared.names.TimerKind.{TimerKind}
use Rattle.cfdp_types.specs.declared.names.TimerKind.TheVariants.{Ack, Nak, Check, Inactivity}
use Rattle.entity_config.specs.declared.setting.Setting.TheVariants as setting
use Rattle.entity_routing.specs.declared.world_event.Request.TheVariants as requests
use Rattle.entity_routing.specs.declared.world_event.WorldEvent.TheVariants as events
use Rattle.script_lines.specs.declared.command.Command.{Command}
use Rattle.script_lines.specs.declared.command.Command.TheVariants as command
use Rattle.config_reading.specs.Values.{ConfigValue}
use Rattle.line_words.specs.Words.{words_of, decimal_of}
use Rattle.line_words.specs.Operands.{◌>>=◌, number_of, key_from, name_of, class_of, closure_of, request_for}
use Rattle.line_words.specs.Places.{user_of, lane_of}

-- ---- words

-- a number of 32 bits
abbrev pub stamp_of : List ℕ → Option ℕ
stamp_of word = decimal_of (2 ^ 32 - 1) word

-- the octets that a word writes in hex digits of either case, one octet or more
abbrev pub octets_of : List ℕ → Option (List ℕ)
octets_of word = if length word == 0 then None else result_ok (decode_of word)

-- the octets of a file, in hex; a dash for an empty file, an at sign for the octets that lines have gathered
abbrev pub file_of : Option (List ℕ) → List ℕ → Option (List ℕ)
file_of gathered word =
    if bytes_eq word (codes "-") then Some []
    else if bytes_eq word (codes "@") then gathered
    else octets_of word

abbrev pub answer_of : List ℕ → Option Bool
answer_of word =
    if bytes_eq word (codes "yes") then Some true
    else if bytes_eq word (codes "no") then Some false
    else None

abbrev pub kind_of : List ℕ → Option TimerKind
kind_of word =
    if bytes_eq word (codes "ack") then Some Ack
    else if bytes_eq word (codes "nak") then Some Nak
    else if bytes_eq word (codes "check") then Some Check
    else if bytes_eq word (codes "inactivity") then Some Inactivity
    else None

abbrev pub role_of : List ℕ → Option Role
role_of word =
    if bytes_eq word (codes "send") then Some Send
    else if bytes_eq word (codes "recv1") then Some RecvOne
    else if bytes_eq word (codes "recv2") then Some RecvTwo
    else None

abbrev pub handler_of : List ℕ → Option Handler
handler_of word =
    if bytes_eq word (codes "cancel") then Some handler.Cancel
    else if bytes_eq word (codes "suspend") then Some handler.Suspend
    else if bytes_eq word (codes "ignore") then Some handler.Ignore
    else if bytes_eq word (codes "abandon") then Some handler.Abandon
    else None

abbrev pub checksum_of : List ℕ → Option Checksum
checksum_of word =
    if bytes_eq word (codes "modular") then Some Modular
    else if bytes_eq word (codes "null") then Some Null
    else None

-- ---- lines

-- set NAME N, from its two words
abbrev pub set_number : List ℕ → ℕ → Option Command
set_number name n =
    if bytes_eq name (codes "capacity") then Some (command.Set (setting.Capacity n))
    else if bytes_eq name (codes "first") then Some (command.Set (setting.First n))
    else if bytes_eq name (codes "ack_limit") then Some (command.Set (setting.AckLimit n))
    else if bytes_eq name (codes "nak_limit") then Some (command.Set (setting.NakLimit n))
    else if bytes_eq name (codes "check_limit") then Some (command.Set (setting.CheckLimit n))
    else None

-- set NAME VALUE, from its two words: a checksum, or a number
abbrev pub set_value : List ℕ → List ℕ → Option Command
set_value name value =
    if bytes_eq name (codes "checksum") then option_map (λ c. command.Set (setting.Checksum c)) (checksum_of value)
    else option_and_then (set_number name) (number_of value)

-- set ROLE CONDITION HANDLER, from its three words
abbrev pub set_handler : List ℕ → List ℕ → List ℕ → Option Command
set_handler role condition handler = do
  of_role ← role_of role
  code ← decimal_of 15 condition
  does ← handler_of handler
  Some (command.Set (setting.Handler of_role code does))

-- a setting, from its first two words and the words after them
abbrev pub set_with : List ℕ → List ℕ → List (List ℕ) → Option Command
set_with name value [] = set_value name value
set_with role condition (handler ∷ []) = set_handler role condition handler
set_with name n operands = None

abbrev pub set_of : List (List ℕ) → Option Command
set_of (name ∷ n ∷ operands) = set_with name n operands
set_of operands = None

-- pdu HEX
abbrev pub deliver_of : List (List ℕ) → Option Command
deliver_of (octets ∷ []) = option_map (λ o. command.Event (events.Deliver o)) (octets_of octets)
deliver_of operands = None

-- file HEX
abbrev pub gather_of : List (List ℕ) → Option Command
gather_of (octets ∷ []) = option_map command.File (octets_of octets)
gather_of operands = None

-- a user's request, from its four words
abbrev pub asked_from : ConfigValue → List ℕ → List ℕ → List ℕ → List ℕ → Option Command
asked_from config kind user source seq = do
  of_user ← user_of config user
  key ← key_from source seq
  request ← request_for kind key
  Some (command.Event (events.Request of_user request))

-- cancel USER SOURCE SEQ, and the like
abbrev pub asked_of : ConfigValue → List ℕ → List (List ℕ) → Option Command
asked_of config kind (user ∷ source ∷ seq ∷ []) = asked_from config kind user source seq
asked_of config kind operands = None

-- pump SOURCE SEQ
abbrev pub pump_of : List (List ℕ) → Option Command
pump_of (source ∷ seq ∷ []) = option_map (λ key. command.Event (events.Pump key)) (key_from source seq)
pump_of operands = None

-- timer SOURCE SEQ KIND STAMP
abbrev pub timer_from : List ℕ → List ℕ → List ℕ → List ℕ → Option Command
timer_from source seq kind stamp = do
  key ← key_from source seq
  of_kind ← kind_of kind
  number ← stamp_of stamp
  Some (command.Event (events.Timer key of_kind number))

abbrev pub timer_of : List (List ℕ) → Option Command
timer_of (source ∷ seq ∷ kind ∷ stamp ∷ []) = timer_from source seq kind stamp
timer_of operands = None

-- stored SOURCE SEQ STAMP yes or no
abbrev pub stored_from : List ℕ → List ℕ → List ℕ → List ℕ → Option Command
stored_from source seq stamp answer = do
  key ← key_from source seq
  number ← stamp_of stamp
  kept ← answer_of answer
  Some (command.Event (events.Stored key number kept))

abbrev pub stored_of : List (List ℕ) → Option Command
stored_of (source ∷ seq ∷ stamp ∷ answer ∷ []) = stored_from source seq stamp answer
stored_of operands = None

-- take USER
abbrev pub take_of : ConfigValue → List (List ℕ) → Option Command
take_of config (user ∷ []) = option_map command.Take (user_of config user)
take_of config operands = None

-- a Put without messages, if its names are neither empty nor too long
abbrev pub put_made : ℕ → Class → List ℕ → List ℕ → List ℕ → Option PutValue
put_made destination class source_name destination_name file =
    if is_some (put_fault source_name destination_name []) then None
    else Some (record {
      destination = record { 0 = destination };
      class = class;
      closure = false;
      source_name = source_name;
      destination_name = destination_name;
      messages = [];
      file = file;
    })

-- a Put, from CLASS DEST SRC DST FILE
abbrev pub put_from : Option (List ℕ) → List ℕ → List ℕ → List ℕ → List ℕ → List ℕ → Option PutValue
put_from gathered class destination source_name destination_name file = do
  of_class ← class_of class
  to ← number_of destination
  from_name ← name_of source_name
  to_name ← name_of destination_name
  octets ← file_of gathered file
  put_made to of_class from_name to_name octets

abbrev pub put_words : Option (List ℕ) → List (List ℕ) → Option PutValue
put_words gathered (class ∷ destination ∷ source_name ∷ destination_name ∷ file ∷ operands) = do
  closure ← closure_of operands
  put ← put_from gathered class destination source_name destination_name file
  Some (record put { closure = closure })
put_words gathered operands = None

-- a Put on a user's lane
abbrev pub put_at : ConfigValue → Option (List ℕ) → List ℕ → List ℕ → List (List ℕ) → Option Command
put_at config gathered user lane operands = do
  of_user ← user_of config user
  of_lane ← lane_of config lane
  put ← put_words gathered operands
  Some (command.Event (events.Request of_user (requests.Put of_lane put)))

-- put USER LANE CLASS DEST SRC DST FILE, with `closure` if that is requested
abbrev pub put_of : ConfigValue → Option (List ℕ) → List (List ℕ) → Option Command
put_of config gathered (user ∷ lane ∷ operands) = put_at config gathered user lane operands
put_of config gathered operands = None

-- a line about one transaction: an event, or a user's request
abbrev pub of_transaction : ConfigValue → List ℕ → List (List ℕ) → Option Command
of_transaction config kind operands =
    if bytes_eq kind (codes "stored") then stored_of operands
    else if bytes_eq kind (codes "timer") then timer_of operands
    else if bytes_eq kind (codes "pump") then pump_of operands
    else asked_of config kind operands

-- a line without octets: a take, a setting, or one about a transaction
abbrev pub other_by : ConfigValue → List ℕ → List (List ℕ) → Option Command
other_by config kind operands =
    if bytes_eq kind (codes "take") then take_of config operands
    else if bytes_eq kind (codes "set") then set_of operands
    else of_transaction config kind operands

-- a line, by its first word
abbrev pub command_by : ConfigValue → Option (List ℕ) → List ℕ → List (List ℕ) → Option Command
command_by config gathered kind operands =
    if bytes_eq kind (codes "pdu") then deliver_of operands
    else if bytes_eq kind (codes "put") then put_of config gathered operands
    else if bytes_eq kind (codes "file") then gather_of operands
    else other_by config kind operands

abbrev pub command_of_words : ConfigValue → Option (List ℕ) → List (List ℕ) → Option Command
command_of_words config gathered [] = None
command_of_words config gathered (kind ∷ operands) = command_by config gathered kind operands

-- a line of a script, or nothing for a bad line, by the configuration and the octets that earlier lines have gathered;
-- empty lines and lines that begin with `#` are comments
abbrev pub command_of : ConfigValue → Option (List ℕ) → List ℕ → Option Command
command_of config gathered [] = Some command.Nothing
command_of config gathered (octet ∷ octets) =
    if octet == 35 then Some command.Nothing
    else command_of_words config gathered (words_of (octet ∷ octets))
