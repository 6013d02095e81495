-- Of the code. The state of a run between two lines.
use Rattle.std.specs.Prelude.{◌≡◌, ℕ, ◌+◌, ◌≤◌, Bool, true, false, List, [], ◌++◌, length, Option, Some, None, Result, Ok, Err}
use Rattle.std.specs.Io.KnownBytes.{Appends}
use Rattle.config_reading.specs.Values.{ConfigValue}
use Rattle.entity_config.specs.declared.setting.Setting.{Setting}
use Rattle.world_core.specs.Worlds.{WorldValue, StandsAfter}
use Rattle.script_io.specs.declared.fault.ReplayFault.{ReplayFault}
use Rattle.script_io.specs.declared.fault.ReplayFault.TheVariants as fault
use Rattle.script_io.specs.Lines.{lines_of}
use Rattle.script_io.specs.Output.{AppendsFront}
use Rattle.script_lines.specs.declared.command.Command.{Command}
use Rattle.script_lines.specs.Commands.{command_of}
use Rattle.script_replay.specs.declared.run.TheConstants.{LINES}
use Rattle.script_replay.specs.declared.session.Session.{Session as Kept}
use Rattle.script_replay.specs.declared.session.Stage.{Stage}
use Rattle.script_replay.specs.declared.session.Stage.TheVariants.{Configured, Running, Over}
use Rattle.script_replay.specs.Sessions.{Session, IsSet, Answers, IsBadSetting, IsBadFor}
use Rattle.script_replay.specs.Run.{Plays, PlaysUntil, StopsBehind}

-- ---- what the code keeps of a session

-- an entity has the session's configuration and its history
pub record RunsAs (world : WorldValue) (session : Session) : Type 0 where
  pub config : world.config ≡ session.config
  pub stands : StandsAfter world session.history

-- nothing has happened yet, so the configuration, which is this one, may be changed
pub record IsSettable (config : ConfigValue) (session : Session) : Type 0 where
  pub config_is : session.config ≡ config
  pub may : session.may_set ≡ true
  pub begins : session.history ≡ []

-- the code's stage is that of the session
abbrev pub StandsAt : Stage → Session → Type 0
StandsAt (Configured config) session = IsSettable config session
StandsAt (Running world) session = (session.may_set ≡ false) × RunsAs world session
StandsAt Over session = ⊥

-- and so are the octets that it has gathered
abbrev pub Stands : Kept → Session → Type 0
Stands kept session = (session.gathered ≡ kept.gathered) × StandsAt kept.stage session

-- the entity runs
abbrev pub HasBegun : Stage → Session → Type 0
HasBegun (Running world) session = RunsAs world session
HasBegun stage session = ⊥

-- ---- the effect of a line

-- a setting was made, or may not be made
abbrev pub SetsTo : Bool → Session → Setting → Stage → Type 0
SetsTo false session setting stage = IsBadSetting session setting
SetsTo true session setting stage = (after : Session) × StandsAt stage after × IsSet session setting after []

-- a line was carried out by the stage, and its answer was appended to the text; or the line is a bad one
abbrev pub DoesTo : Bool → Session → Command → Stage → List ℕ → List ℕ → Type 0
DoesTo false session command stage old new = IsBadFor session (Some command)
DoesTo true session command stage old new =
    (after : Session) × (said : List ℕ) × StandsAt stage after × Answers session command after said × (new ≡ old ++ said)

-- a line was carried out, and its answer was appended to the text; or the line is a bad one
abbrev pub ObeysTo : Bool → Session → Command → Kept → List ℕ → List ℕ → Type 0
ObeysTo false session command kept old new = IsBadFor session (Some command)
ObeysTo true session command kept old new =
    (after : Session) × (said : List ℕ) × Stands kept after × Answers session command after said × (new ≡ old ++ said)

-- a line was carried out by an entity that runs, and its answer was appended to the text; or the line is a bad one
abbrev pub ToldTo : Bool → Session → Command → WorldValue → List ℕ → List ℕ → Type 0
ToldTo good session command world old new = DoesTo good session command (Running world) old new

-- a line was played, and its answer is in the text; or the script may not have that line here
abbrev pub PlaysTo : Bool → Session → List ℕ → Kept → List ℕ → Type 0
PlaysTo false session line kept text = IsBadFor session (command_of session.config session.gathered line)
PlaysTo true session line kept text =
    (after : Session) × Stands kept after × ((command : Command) × (command_of session.config session.gathered line ≡ Some command) × Answers session command after text)

-- ---- the run

-- what is left is known, and its lines are the ones not yet played
abbrev pub IsLeft : List (List ℕ) → List (List ℕ) → Option (List ℕ) → Type 0
IsLeft lines done None = ⊥
IsLeft lines done (Some rest) = lines ≡ done ++ lines_of rest

-- this many lines were played; the beginning of their output was written, and the buffer holds the rest
pub record Ran (start : Session) (lines : List (List ℕ)) (left : Option (List ℕ)) (count : ℕ) (kept : Kept) (old new : Option (List ℕ)) (buffer : List ℕ) : Type 0 where
  pub done : List (List ℕ)
  pub session : Session
  pub front : List ℕ
  pub counted : length done ≡ count
  pub few : count ≤ LINES
  pub others : IsLeft lines done left
  pub plays : Plays start done session (front ++ buffer)
  pub stands : Stands kept session
  pub written : Appends old new front

-- the run has ended: the beginning of its output was written, and the buffer holds the rest; if the writer failed, the
-- buffer holds nothing
abbrev pub Ends : {A : Type 0} → Session → Result A ReplayFault → List (List ℕ) → Option (List ℕ) → Option (List ℕ) → List ℕ → Type 0
Ends start (Err fault.Write) lines old new buffer = (buffer ≡ []) × ((text : List ℕ) × StopsBehind start lines text × AppendsFront old new text)
Ends start ended lines old new buffer = (front : List ℕ) × PlaysUntil start ended lines (front ++ buffer) × Appends old new front

-- the run after one more line, at its end, or where it stops
abbrev pub GoesOn : Session → Result Bool ReplayFault → List (List ℕ) → Option (List ℕ) → ℕ → Kept → Option (List ℕ) → Option (List ℕ) → List ℕ → Type 0
GoesOn start (Ok true) lines left count kept old new buffer = Ran start lines left (count + 1) kept old new buffer
GoesOn start ended lines left count kept old new buffer = Ends start ended lines old new buffer
