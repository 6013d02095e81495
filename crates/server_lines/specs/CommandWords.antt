-- Meaning. The words of a command that changes something, as it was understood.
use Rattle.std.specs.Prelude.{◌++◌, [], ℕ, Bool, List, Option, Some, None, if◌then◌else◌, codes, decimal, slice_get}
use Rattle.cfdp_types.specs.declared.key.EntityId.{EntityId}
use Rattle.cfdp_types.specs.declared.key.TxnKey.{TxnKey}
use Rattle.cfdp_types.specs.declared.names.Class.{Class}
use Rattle.cfdp_types.specs.declared.names.Class.TheVariants.{One, Two}
use Rattle.config_reading.specs.Values.{ConfigValue}
use Rattle.entity_routing.specs.declared.world_event.Request.{Request}
use Rattle.entity_routing.specs.declared.world_event.Request.TheVariants as request
use Rattle.server_lines.specs.declared.command.Command.{Command}
use Rattle.server_lines.specs.declared.command.Command.TheVariants as command
use Rattle.server_lines.specs.declared.command.PutCommand.{PutCommand}
use Rattle.server_lines.specs.declared.command.SendCommand.{SendCommand}
use Rattle.server_lines.specs.declared.command.Tuning.{Tuning}
use Rattle.server_lines.specs.declared.command.Tuning.TheVariants as tuning
use Rattle.server_lines.specs.Words.{word_octets}

-- ---- parts

-- a number, with a space before it
abbrev pub number_octets : ℕ → List ℕ
number_octets number = codes " " ++ decimal number

-- a user, by the name in a configuration; nothing where it has none
abbrev pub named : Option (List ℕ) → List ℕ
named None = []
named (Some name) = name

abbrev pub user_octets : ConfigValue → ℕ → List ℕ
user_octets config user = word_octets (named (slice_get config.users user))

-- a class
abbrev pub class_number : Class → ℕ
class_number One = 1
class_number Two = 2

-- the two names of a file, with a space before each
abbrev pub names_octets : List ℕ → List ℕ → List ℕ
names_octets source target = codes " " ++ (word_octets source ++ (codes " " ++ word_octets target))

-- the words for closure and for an urgent file, if they are asked for, with a space before each
abbrev pub closure_octets : Bool → List ℕ
closure_octets closure = if closure then codes " closure" else []

abbrev pub urgent_octets : Bool → List ℕ
urgent_octets is_urgent = if is_urgent then codes " urgent" else []

-- the source file name that the receiver learns, with its word before it; nothing where that is the path
abbrev pub alias_octets : List ℕ → List ℕ
alias_octets name = codes " as " ++ word_octets name

abbrev pub aliased : Option (List ℕ) → List ℕ
aliased None = []
aliased (Some name) = alias_octets name

-- ---- commands

-- a file that is put in a lane
abbrev pub put_words : ConfigValue → PutCommand → List ℕ
put_words config put =
    codes "put " ++ (user_octets config put.user ++ (number_octets put.lane ++ (number_octets (class_number put.class) ++ (number_octets put.destination.0
    ++ (names_octets put.source put.destination_name ++ closure_octets put.closure)))))

-- a file that waits for a lane
abbrev pub send_words : ConfigValue → SendCommand → List ℕ
send_words config send =
    codes "send " ++ (user_octets config send.user ++ (number_octets (class_number send.class) ++ (number_octets send.destination.0
    ++ (names_octets send.source send.destination_name ++ (closure_octets send.closure ++ (urgent_octets send.is_urgent ++ aliased send.source_name))))))

-- a user's transaction
abbrev pub about_words : ConfigValue → ℕ → TxnKey → List ℕ
about_words config user key = user_octets config user ++ (number_octets key.source.0 ++ number_octets key.seq)

-- what a user asks for; a report changes nothing
abbrev pub ask_words : ConfigValue → ℕ → Request → List ℕ
ask_words config user (request.Cancel key) = codes "cancel " ++ about_words config user key
ask_words config user (request.Suspend key) = codes "suspend " ++ about_words config user key
ask_words config user (request.Resume key) = codes "resume " ++ about_words config user key
ask_words config user (request.Abandon key) = codes "abandon " ++ about_words config user key
ask_words config user _ = []

-- a limit, or that there is none
abbrev pub limit_octets : Option ℕ → List ℕ
limit_octets None = codes " off"
limit_octets (Some octets) = number_octets octets

-- the entity that a limit is for, if it is for one
abbrev pub limited_octets : Option EntityId → List ℕ
limited_octets None = []
limited_octets (Some remote) = number_octets remote.0

-- what changes the server
abbrev pub tuning_words : Tuning → List ℕ
tuning_words (tuning.Rate remote limit) = codes "rate" ++ (limited_octets remote ++ limit_octets limit)
tuning_words tuning.HoldAll = codes "hold all"
tuning_words tuning.ReleaseAll = codes "release all"
tuning_words (tuning.ReleaseFor remote seconds) = codes "release" ++ (number_octets remote.0 ++ number_octets seconds)
tuning_words tuning.Reopen = codes "reopen"
tuning_words (tuning.FollowFrom most least) = []

-- any command; nothing where it changes nothing
abbrev pub command_words : ConfigValue → Command → List ℕ
command_words config (command.Put put) = put_words config put
command_words config (command.Send send) = send_words config send
command_words config (command.Ask user asked) = ask_words config user asked
command_words config (command.Drop number) = codes "drop" ++ number_octets number
command_words config (command.Hold remote) = codes "hold" ++ number_octets remote.0
command_words config (command.Release remote) = codes "release" ++ number_octets remote.0
command_words config (command.Tune changed) = tuning_words changed
command_words config command.Quit = codes "quit"
command_words config _ = []
