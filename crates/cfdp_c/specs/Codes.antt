-- Meaning. Numbers that C passes, and what they stand for.
use Rattle.std.specs.Prelude.{ℕ, ℤ, ◌==◌, nat_lt, if◌then◌else◌, Option, Some, None, option_and_then, option_map, List, codes}
use Rattle.cfdp_types.specs.declared.key.TxnKey.{TxnKey}
use Rattle.cfdp_types.specs.declared.names.Checksum.{Checksum}
use Rattle.cfdp_types.specs.declared.names.Checksum.TheVariants as checksum
use Rattle.cfdp_types.specs.declared.names.Class.{Class}
use Rattle.cfdp_types.specs.declared.names.Class.TheVariants as class
use Rattle.cfdp_types.specs.declared.names.Handler.{Handler}
use Rattle.cfdp_types.specs.declared.names.Handler.TheVariants as handler
use Rattle.cfdp_types.specs.declared.names.Role.{Role}
use Rattle.cfdp_types.specs.declared.names.Role.TheVariants as role
use Rattle.cfdp_types.specs.declared.names.TimerKind.{TimerKind}
use Rattle.cfdp_types.specs.declared.names.TimerKind.TheVariants as timer
use Rattle.cfdp_types.specs.declared.put_request.PutFault.{PutFault}
use Rattle.cfdp_types.specs.declared.put_request.PutFault.TheVariants as put
use Rattle.config_reading.specs.Faults.{key_text}
use Rattle.pdu_reading.specs.Items.{◌>>=◌}
use Rattle.config_reading.specs.declared.fault.ConfigFault.{ConfigFault}
use Rattle.config_reading.specs.declared.fault.ConfigFault.TheVariants as fault
use Rattle.config_reading.specs.declared.fault.Section.{Section}
use Rattle.config_reading.specs.declared.fault.Section.TheVariants as section
use Rattle.entity_config.specs.declared.setting.Setting.{Setting}
use Rattle.entity_config.specs.declared.setting.Setting.TheVariants as setting
use Rattle.entity_routing.specs.declared.world_event.Request.{Request}
use Rattle.entity_routing.specs.declared.world_event.Request.TheVariants as requests
use Rattle.cfdp_c.specs.declared.codes.TheConstants.{NO_NAME, NAME_TOO_LONG, MESSAGE_TOO_LONG, TOO_MANY_MESSAGES, NO_MEMORY}

-- the timer of this number
abbrev pub timer_kind : ℕ → Option TimerKind
timer_kind number =
    if number == 1 then Some timer.Ack else if number == 2 then Some timer.Nak else if number == 3 then Some timer.Check
    else if number == 4 then Some timer.Inactivity else None

-- the service class of this number
abbrev pub class_of : ℕ → Option Class
class_of number = if number == 1 then Some class.One else if number == 2 then Some class.Two else None

-- the user's request of this number, on a transaction
abbrev pub request_of : ℕ → TxnKey → Option Request
request_of number key =
    if number == 1 then Some (requests.Cancel key) else if number == 2 then Some (requests.Suspend key)
    else if number == 3 then Some (requests.Resume key) else if number == 4 then Some (requests.Report key)
    else if number == 5 then Some (requests.Abandon key) else None

-- the checksum of this number, as in a Metadata PDU
abbrev pub checksum_of : ℕ → Option Checksum
checksum_of number = if number == 0 then Some checksum.Modular else if number == 15 then Some checksum.Null else None

-- the setting of this number, with its value
abbrev pub setting_of : ℕ → ℕ → Option Setting
setting_of number value =
    if number == 1 then Some (setting.Capacity value) else if number == 2 then Some (setting.First value)
    else if number == 3 then Some (setting.AckLimit value) else if number == 4 then Some (setting.NakLimit value)
    else if number == 5 then Some (setting.CheckLimit value)
    else if number == 6 then option_map setting.Checksum (checksum_of value) else None

-- the role of this number
abbrev pub role_of : ℕ → Option Role
role_of number = if number == 1 then Some role.Send else if number == 2 then Some role.RecvOne else if number == 3 then Some role.RecvTwo else None

-- the handler of this number, as in the standard
abbrev pub handler_of : ℕ → Option Handler
handler_of number =
    if number == 1 then Some handler.Cancel else if number == 2 then Some handler.Suspend
    else if number == 3 then Some handler.Ignore else if number == 4 then Some handler.Abandon else None

-- the setting of a handler, by the numbers of the role, of the condition and of the handler
abbrev pub handler_setting : ℕ → ℕ → ℕ → Option Setting
handler_setting of_role condition does = do
  at ← role_of of_role
  how ← handler_of does
  if nat_lt condition 16 then Some (setting.Handler at condition how) else None

-- the name of a table of a configuration; nothing for the top level
abbrev pub section_text : Section → List ℕ
section_text section.Top = codes ""
section_text section.Entity = codes "entity"
section_text section.User = codes "user"
section_text section.Remote = codes "remote"

-- where a fault of a configuration is: its key, or the table with an unknown key
abbrev pub place_text : ConfigFault → List ℕ
place_text (fault.MissingKey key) = key_text key
place_text (fault.WrongType key) = key_text key
place_text (fault.OutOfRange key) = key_text key
place_text (fault.HandlerNotAllowed key) = key_text key
place_text (fault.UnknownKey section) = section_text section
place_text _ = codes ""

-- the code for a Put that can't be made
abbrev pub put_code : PutFault → ℤ
put_code put.NoName = NO_NAME
put_code put.NameTooLong = NAME_TOO_LONG
put_code put.MessageTooLong = MESSAGE_TOO_LONG
put_code put.TooManyMessages = TOO_MANY_MESSAGES
put_code put.NoMemory = NO_MEMORY
