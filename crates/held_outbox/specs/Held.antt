-- Meaning. What an outbox and its file say together, and how a file comes back from there.
use Rattle.std.specs.Prelude.{◌≡◌, ◌⊎◌, ℕ, ◌+◌, ◌-◌, ◌^◌, ◌<◌, ◌≤◌, ◌||◌, ◌==◌, Bool, true, false, List, [], ◌∷◌, ◌++◌, Option, Some, None, Result, Ok, Err, OnOk, OnErr, IfOk, if◌then◌else◌, length, min}
use Rattle.std.specs.List.{list_any}
use Rattle.config_reading.specs.Values.{ConfigValue}
use Rattle.server_lines.specs.Commands.{command_of}
use Rattle.server_lines.specs.declared.command.Command.{Command}
use Rattle.server_lines.specs.declared.command.Command.TheVariants.{Send}
use Rattle.server_lines.specs.declared.command.SendCommand.{SendCommand}
use Rattle.outbox_file.specs.declared.book.Entry.{Entry}
use Rattle.outbox_file.specs.declared.lines.Line.{Line}
use Rattle.outbox_file.specs.declared.lines.Line.TheVariants as line
use Rattle.outbox_file.specs.Files.{FileValue, NotesLine, queued_entry}
use Rattle.program_outbox.specs.declared.outbox.OutboxFile.{OutboxFile}
use Rattle.program_outbox.specs.declared.outbox.Waiting.{Waiting}
use Rattle.program_outbox.specs.Outboxes.{has_number}
use Rattle.program_outbox.specs.Outgoings.{OutgoingValue, is_named, named, queued_as_at, without_named}
use Rattle.held_outbox.specs.declared.held.Gone.{Gone}
use Rattle.held_outbox.specs.declared.held.HeldFault.{HeldFault}
use Rattle.held_outbox.specs.declared.held.HeldFault.TheVariants as fault
use Rattle.program_outbox.specs.declared.outbox.TheConstants.{MOST_FILES}
use Rattle.held_outbox.specs.declared.held.Way.{Way}
use Rattle.held_outbox.specs.declared.held.Way.TheVariants as way

-- a file on the disk, what it doesn't say yet, and from when on that is tried again
pub record HeldValue : Type 0 where
  pub file : FileValue
  pub owed : List Gone
  pub due : ℕ

-- ---- files that come back

-- the file that a command puts in the outbox at a moment
abbrev pub file_of : ℕ → SendCommand → OutboxFile
file_of since send = record {
  class = send.class;
  destination = send.destination;
  source = send.source;
  source_name = send.source_name;
  destination_name = send.destination_name;
  closure = send.closure;
  is_urgent = send.is_urgent;
  since = since;
}

-- the command of a file that is to wait, if a command is one
abbrev pub sent_in : Option Command → Option SendCommand
sent_in (Some (Send send)) = Some send
sent_in _ = None

-- an entry of the file waits again: its words are such a command, by a configuration; its number and its moment stay
pub record Restores (config : ConfigValue) (entry : Entry) (now : ℕ) (outgoing outgoing_then : OutgoingValue) : Type 0 where
  pub send : SendCommand
  pub said : sent_in (command_of config entry.words) ≡ Some send
  pub waits : outgoing_then ≡ queued_as_at entry.number send.user (file_of entry.since send) now outgoing

-- ---- what is noted

-- the line of a file that left for good
abbrev pub line_of : Gone → Line
line_of gone = by gone.way
  where
    by : Way → Line
    by way.Ended = line.Ended gone.number
    by way.Dropped = line.Dropped gone.number

-- the file with a number is in the outbox
abbrev pub has_file : ℕ → OutgoingValue → Bool
has_file number o = is_named number o.reading || (list_any (has_number number) o.returned || list_any (has_number number) o.outbox.waiting)

-- a user's file is queued in both, with the file's next number; or in neither: nothing changed, or it was taken out
-- again
pub record Queues (user : ℕ) (file : OutboxFile) (words : List ℕ) (now : ℕ) (held : HeldValue) (outgoing : OutgoingValue) (result : Result ℕ HeldFault) (held_then : HeldValue) (outgoing_then : OutgoingValue) : Type 0 where
  pub number : IfOk result (λ number. number ≡ held.file.book.next)
  pub waits : OnOk result (outgoing_then ≡ queued_as_at held.file.book.next user file now outgoing)
  pub notes : OnOk result (NotesLine (line.Queued (queued_entry held.file.book.next file.since words)) held.file result held_then.file)
  pub not : OnErr result ((held_then ≡ held) ⊎ NotesLine (line.Queued (queued_entry held.file.book.next file.since words)) held.file result held_then.file)
  pub full : MOST_FILES ≤ length held.file.book.entries → result ≡ Err fault.Full
  pub due : held_then.due ≡ held.due
  pub out : OnErr result ((outgoing_then ≡ outgoing) ⊎ (outgoing_then ≡ without_named held.file.book.next (queued_as_at held.file.book.next user file now outgoing)))
  pub owed : held_then.owed ≡ held.owed

-- the file with a number is taken out of both; or, where it isn't there or the disk doesn't take it, of neither
pub record Drops (number : ℕ) (held : HeldValue) (outgoing : OutgoingValue) (result : Result (Option Waiting) HeldFault) (held_then : HeldValue) (outgoing_then : OutgoingValue) : Type 0 where
  pub absent : has_file number outgoing ≡ false → (result ≡ Ok None) × (held_then ≡ held) × (outgoing_then ≡ outgoing)
  pub file : has_file number outgoing ≡ true → IfOk result (λ waiting. waiting ≡ named number outgoing)
  pub rest : has_file number outgoing ≡ true → OnOk result (outgoing_then ≡ without_named number outgoing)
  pub notes : has_file number outgoing ≡ true → NotesLine (line.Dropped number) held.file result held_then.file
  pub not : OnErr result (outgoing_then ≡ outgoing)
  pub owed : held_then.owed ≡ held.owed
  pub due : held_then.due ≡ held.due

-- the moment a second after one, at which a line is tried again that the disk didn't take
abbrev pub rested : ℕ → ℕ
rested now = min (now + 1000) (2 ^ 64 - 1)

-- the disk takes the line of a file that left for good
pub record IsNoted (gone : Gone) (held held_then : HeldValue) : Type 0 where
  pub notes : NotesLine {T = Unit {0}} {E = HeldFault} (line_of gone) held.file (Ok tt) held_then.file
  pub due : held_then.due ≡ held.due

-- the disk doesn't take it, and what is owed is tried again a second later
pub record IsRefused (gone : Gone) (now : ℕ) (held held_then : HeldValue) : Type 0 where
  pub why : HeldFault
  pub notes : NotesLine {T = Unit {0}} {E = HeldFault} (line_of gone) held.file (Err why) held_then.file
  pub due : held_then.due ≡ rested now

-- a file that left for good is noted, and what is owed stays; or it is owed after the others
abbrev pub Leaves : Gone → ℕ → HeldValue → HeldValue → Type 0
Leaves gone now held held_then =
    (IsNoted gone held held_then × (held_then.owed ≡ held.owed))
    ⊎ (IsRefused gone now held held_then × (held_then.owed ≡ held.owed ++ gone ∷ []))

-- the disk doesn't take the line of a file that left for good, and what is owed stays
abbrev pub StaysOwed : Gone → ℕ → HeldValue → HeldValue → Type 0
StaysOwed gone now held held_then = IsRefused gone now held held_then × (held_then.owed ≡ held.owed)

-- it is time, and the first file that is owed is noted, and is owed no more
pub record Settles (now : ℕ) (held held_then : HeldValue) : Type 0 where
  pub time : held.due ≤ now
  pub gone : Gone
  pub first : held.owed ≡ gone ∷ held_then.owed
  pub noted : IsNoted gone held held_then

-- nothing is owed, or it isn't time yet; or it is, the disk doesn't take the first line, and all stay owed
abbrev pub Waits : ℕ → HeldValue → HeldValue → Type 0
Waits now held held_then =
    ((held_then ≡ held) × ((now < held.due) ⊎ (held.owed ≡ [])))
    ⊎ ((held.due ≤ now) × ((gone : Gone) × (rest : List Gone) × (held.owed ≡ gone ∷ rest) × StaysOwed gone now held held_then))

-- a moment, or the one at which what is owed is tried again if that comes before it
abbrev pub moment_owed : ℕ → HeldValue → ℕ
moment_owed until held = if length held.owed == 0 then until else min until held.due
