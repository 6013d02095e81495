-- Meaning. The output of a whole script.
use Rattle.std.specs.Prelude.{◌≡◌, ℕ, ◌+◌, ◌<◌, ◌≤◌, List, [], ◌∷◌, ◌++◌, length, take, slice_get, Option, Some, Result, Ok, Err, is_ok, if◌then◌else◌, ◌⊎◌, ⊤}
use Rattle.std.specs.Io.KnownBytes.{Appends}
use Rattle.script_io.specs.declared.fault.ReplayFault.{ReplayFault}
use Rattle.script_io.specs.declared.fault.ReplayFault.TheVariants as fault
use Rattle.script_io.specs.Ending.{answered_text, beside_text}
use Rattle.script_io.specs.Lines.{line_octets}
use Rattle.script_io.specs.Output.{AppendsFront}
use Rattle.script_lines.specs.declared.command.Command.{Command}
use Rattle.script_lines.specs.Commands.{command_of}
use Rattle.script_replay.specs.declared.run.TheConstants.{LINES}
use Rattle.script_replay.specs.Sessions.{Session, Answers, IsBadFor}

-- one line is answered, and this is printed
pub record PlaysLine (session : Session) (line : List ℕ) (after : Session) (text : List ℕ) : Type 0 where
  pub command : Command
  pub short : length line ≤ line_octets
  pub says : command_of session.config session.gathered line ≡ Some command
  pub answers : Answers session command after text

-- the lines are answered in order, and all this is printed
abbrev pub Plays : Session → List (List ℕ) → Session → List ℕ → Type 0
Plays session [] after text = (after ≡ session) × (text ≡ [])
Plays session (line ∷ lines) after text =
    (mid : Session) × (first : List ℕ) × (others : List ℕ) × PlaysLine session line mid first × Plays mid lines after others × (text ≡ first ++ others)

-- a whole list of lines, played from the first one in this session, prints this
pub record Prints (start : Session) (lines : List (List ℕ)) (text : List ℕ) : Type 0 where
  pub after : Session
  pub plays : Plays start lines after text

-- a line that a script may not have at this place (from 0) of this session
abbrev pub IsBad : ℕ → Session → List ℕ → Type 0
IsBad place session line = (LINES ≤ place) ⊎ ((line_octets < length line) ⊎ IsBadFor session (command_of session.config session.gathered line))

pub record IsBadAt (lines : List (List ℕ)) (place : ℕ) (session : Session) : Type 0 where
  pub line : List ℕ
  pub there : slice_get lines place ≡ Some line
  pub bad : IsBad place session line

-- the whole script was played
abbrev pub PlaysWhole : Session → List (List ℕ) → List ℕ → Type 0
PlaysWhole start lines text = (length lines ≤ LINES) × Prints start lines text

-- some lines were played
pub record StopsBehind (start : Session) (lines : List (List ℕ)) (text : List ℕ) : Type 0 where
  pub count : ℕ
  pub within : count ≤ length lines
  pub few : count ≤ LINES
  pub prints : Prints start (take count lines) text

-- the line with this number, from 1, is the first bad one: the lines before it, at most as many as a script may have,
-- were played
pub record StopsAt (start : Session) (lines : List (List ℕ)) (number : ℕ) (text : List ℕ) : Type 0 where
  pub place : ℕ
  pub number_is : number ≡ place + 1
  pub few : place ≤ LINES
  pub prints : Prints start (take place lines) text
  pub bad : IsBadAt lines place prints.after

-- which lines were played, by how the run ended, and what they printed
abbrev pub PlaysUntil : {A : Type 0} → Session → Result A ReplayFault → List (List ℕ) → List ℕ → Type 0
PlaysUntil start (Ok done) lines text = PlaysWhole start lines text
PlaysUntil start (Err (fault.BadLine number)) lines text = StopsAt start lines number text
PlaysUntil start (Err why) lines text = StopsBehind start lines text

-- how much of that was written: all of it, or its beginning if the writer failed
abbrev pub Writes : {A : Type 0} → Result A ReplayFault → Option (List ℕ) → Option (List ℕ) → List ℕ → Type 0
Writes (Err fault.Write) old new text = AppendsFront old new text
Writes ended old new text = Appends old new text

-- what a run that began with this session has written
pub record Replays (start : Session) (ended : Result ⊤ ReplayFault) (lines : List (List ℕ)) (old new : Option (List ℕ)) : Type 0 where
  pub text : List ℕ
  pub plays : PlaysUntil start ended lines text
  pub written : Writes ended old new text

-- a run that began with this session has ended with this exit status; its output and the report of its end were
-- appended to the answers and the errors
pub record EndsRun (start : Session) (status : ℕ) (lines : List (List ℕ)) (old new old_errors new_errors : Option (List ℕ)) : Type 0 where
  pub ended : Result ⊤ ReplayFault
  pub status_is : status ≡ (if is_ok ended then 0 else 1)
  pub mid : Option (List ℕ)
  pub replays : Replays start ended lines old mid
  pub answered : AppendsFront mid new (answered_text ended)
  pub beside : AppendsFront old_errors new_errors (beside_text ended)
