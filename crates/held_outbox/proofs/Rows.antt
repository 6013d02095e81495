-- Worked rows: files that come and go.
use Rattle.std.proofs.Common.{◌≡◌, ℕ, Bool, true, false, [], ◌∷◌, List, Some, None, codes, map, refl}
use Rattle.cfdp_types.specs.declared.names.Class.TheVariants.{One}
use Rattle.server_lines.specs.declared.command.Command.TheVariants as command
use Rattle.server_lines.specs.declared.command.SendCommand.{SendCommand}
use Rattle.outbox_file.specs.Books.{empty}
use Rattle.outbox_file.specs.declared.lines.Line.TheVariants as line
use Rattle.program_outbox.specs.declared.outbox.OutboxFile.{OutboxFile}
use Rattle.program_outbox.specs.declared.outbox.Waiting.{Waiting}
use Rattle.program_outbox.specs.Outgoings.{OutgoingValue, queued_as_at, without_named}
use Rattle.held_outbox.specs.declared.held.Gone.{Gone}
use Rattle.held_outbox.specs.declared.held.Way.TheVariants as way
use Rattle.held_outbox.specs.Held.{HeldValue, file_of, has_file, line_of, moment_owed, sent_in}

-- a command, and the file that it puts in the outbox
abbrev sent : SendCommand
sent = record {
  user = 3;
  class = One;
  closure = true;
  destination = record { 0 = 7 };
  source = codes "a";
  destination_name = codes "b";
  is_urgent = true;
  source_name = Some (codes "c");
}

abbrev file : OutboxFile
file = record {
  class = One;
  destination = record { 0 = 7 };
  source = codes "a";
  source_name = Some (codes "c");
  destination_name = codes "b";
  closure = true;
  is_urgent = true;
  since = 17;
}

its_file : file_of 17 sent ≡ file
its_file = refl

which_are_sent : map sent_in (Some (command.Send sent) ∷ Some command.Quit ∷ Some command.Outbox ∷ None ∷ []) ≡ Some sent ∷ None ∷ None ∷ None ∷ []
which_are_sent = refl

lines : map line_of (record { number = 5; way = way.Ended } ∷ record { number = 6; way = way.Dropped } ∷ []) ≡ line.Ended 5 ∷ line.Dropped 6 ∷ []
lines = refl

-- a file with a number; an outbox with one file that is read, one that came back, and one whose turn has not come
abbrev waiting : ℕ → Waiting
waiting number = record { number = number; user = 3; file = file }

abbrev three : OutgoingValue
three = record {
  outbox = record { waiting = waiting 7 ∷ []; turns = []; next = 8 };
  reading = Some (waiting 5);
  is_reading = true;
  returned = waiting 6 ∷ [];
  outbox_due = 1;
  returned_due = 2;
}

which_are_there : map (λ number. has_file number three) (4 ∷ 5 ∷ 6 ∷ 7 ∷ 8 ∷ []) ≡ false ∷ true ∷ true ∷ true ∷ false ∷ []
which_are_there = refl

-- one that is taken out again leaves the others as they were
taken_out : without_named 8 (queued_as_at 8 3 file 9 three) ≡ record three { outbox = record { waiting = waiting 7 ∷ []; turns = []; next = 9 } }
taken_out = refl

-- what is owed is tried at its moment, if there is any
abbrev owing : List Gone → HeldValue
owing gone = record { file = record { done = []; path = []; book = empty; is_sound = true }; owed = gone; due = 4 }

moments : map (λ gone. moment_owed 9 (owing gone)) ([] ∷ (record { number = 5; way = way.Ended } ∷ []) ∷ []) ≡ 9 ∷ 4 ∷ []
moments = refl

earlier : moment_owed 3 (owing (record { number = 5; way = way.Ended } ∷ [])) ≡ 3
earlier = refl
