-- Meaning. Which commands only look at the station.
use Rattle.std.specs.Prelude.{Bool, true, false}
use Rattle.server_lines.specs.declared.command.Command.{Command}
use Rattle.server_lines.specs.declared.command.Command.TheVariants as command
use Rattle.server_lines.specs.declared.command.Tuning.{Tuning}
use Rattle.server_lines.specs.declared.command.Tuning.TheVariants as tuning

-- it watches events from a level on, and changes nothing
abbrev pub only_watches : Tuning → Bool
only_watches (tuning.FollowFrom most least) = true
only_watches _ = false

-- the status, events, the outbox, or a transaction as a script
abbrev pub only_looks : Command → Bool
only_looks command.Status = true
only_looks (command.Follow most) = true
only_looks command.Outbox = true
only_looks (command.Journal key) = true
only_looks (command.Tune tuned) = only_watches tuned
only_looks _ = false
