-- Meaning. A line of commands as it is left at the desk.
use Rattle.std.specs.Prelude.{◌≡◌, ℕ, List, Some, None, Bool, true, false}
use Rattle.config_reading.specs.Values.{ConfigValue}
use Rattle.server_lines.specs.Commands.{command_of}
use Rattle.server_lines.specs.declared.command.Command.{Command}
use Rattle.server_lines.specs.declared.command.Command.TheVariants as command
use Rattle.program_desk.specs.declared.said.Said.{Said}
use Rattle.program_desk.specs.declared.said.Said.TheVariants as said

-- a command is a Put
abbrev pub is_put : Command → Bool
is_put (command.Put put) = true
is_put other = false

-- the command that the line asks for is left at the desk, with the file of a Put, or the size of one that is to wait; or
-- that it isn't one; unless memory ran out
abbrev pub IsSaidBy : ConfigValue → List ℕ → Said → Type 0
IsSaidBy config line (said.Command c) = (command_of config line ≡ Some c) × (is_put c ≡ false)
IsSaidBy config line (said.Put put file) = command_of config line ≡ Some (command.Put put)
IsSaidBy config line (said.Send send size) = command_of config line ≡ Some (command.Send send)
IsSaidBy config line (said.Bad why) = command_of config line ≡ None
IsSaidBy config line said.NoMemory = Unit
