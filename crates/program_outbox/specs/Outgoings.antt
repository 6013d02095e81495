-- Meaning. The outbox with its files on their way: the one that is being read, and those that couldn't be put yet.
use Rattle.std.specs.Prelude.{ℕ, ◌+◌, ◌==◌, ◌&&◌, ◌||◌, Bool, true, false, not, if◌then◌else◌, nat_le, is_some, min, length, List, ◌++◌, Option, Some, None, position, option_to_list}
use Rattle.std.specs.Option.{option_or}
use Rattle.program_outbox.specs.declared.outbox.OutboxFile.{OutboxFile}
use Rattle.program_outbox.specs.declared.outbox.Stop.{Stop}
use Rattle.program_outbox.specs.declared.outbox.Waiting.{Waiting}
use Rattle.program_outbox.specs.Outboxes.{OutboxValue, after_going, at_place, going, has_number, is_idle, is_stopped, number_place, queued, queued_as, withdrawn, without_place}

-- files whose turn has not come; the file that is being read, unless it was withdrawn meanwhile; whether one is being
-- read; files that came back, in the order in which they did; the moments before which none is tried, and none that
-- came back
pub record OutgoingValue : Type 0 where
  pub outbox : OutboxValue
  pub reading : Option Waiting
  pub is_reading : Bool
  pub returned : List Waiting
  pub outbox_due : ℕ
  pub returned_due : ℕ

-- how many files are in it
abbrev pub file_count : OutgoingValue → ℕ
file_count o = length o.outbox.waiting + length o.returned + length (option_to_list o.reading)

-- one more file waits, after all others, with a number, and files are tried from this moment on
abbrev pub queued_as_at : ℕ → ℕ → OutboxFile → ℕ → OutgoingValue → OutgoingValue
queued_as_at number user file now o = record o { outbox = queued_as number user file o.outbox; outbox_due = min o.outbox_due now }

-- with the next number
abbrev pub queued_at : ℕ → OutboxFile → ℕ → OutgoingValue → OutgoingValue
queued_at user file now o = record o { outbox = queued user file o.outbox; outbox_due = min o.outbox_due now }

-- ---- one file taken out by its number

-- the file that is being read has the number
abbrev pub is_named : ℕ → Option Waiting → Bool
is_named number None = false
is_named number (Some file) = has_number number file

-- the place of the file that came back with the number
abbrev pub returned_number : ℕ → OutgoingValue → Option ℕ
returned_number number o = position (has_number number) o.returned

-- the file with the number, among those that came back, or else among those that wait; and all without it
abbrev pub named_there : ℕ → Option ℕ → OutgoingValue → Option Waiting
named_there number (Some place) o = at_place (Some place) o.returned
named_there number None o = at_place (number_place number o.outbox) o.outbox.waiting

abbrev pub without_there : ℕ → Option ℕ → OutgoingValue → OutgoingValue
without_there number (Some place) o = record o { returned = without_place (Some place) o.returned }
without_there number None o = record o { outbox = withdrawn number o.outbox }

-- the file with the number: the one that is being read, or else another
abbrev pub named : ℕ → OutgoingValue → Option Waiting
named number o = if is_named number o.reading then o.reading else named_there number (returned_number number o) o

-- all without it; what is being read goes on
abbrev pub without_named : ℕ → OutgoingValue → OutgoingValue
without_named number o =
    if is_named number o.reading then record o { reading = None } else without_there number (returned_number number o) o

-- ---- whose turn it is

-- a file waits whose turn may come
abbrev pub has_waiting : OutgoingValue → Bool
has_waiting o = not o.is_reading && (not (length o.returned == 0) || not (length o.outbox.waiting == 0))

-- a file may be tried at this moment
abbrev pub is_due : ℕ → OutgoingValue → Bool
is_due now o = nat_le o.outbox_due now && has_waiting o

-- a moment, or the one at which files are tried next if that comes before it
abbrev pub moment_until : ℕ → OutgoingValue → ℕ
moment_until until o = if has_waiting o then min until o.outbox_due else until

-- a file's user has an idle lane, and its files to the entity may go
abbrev pub can_leave : List Bool → List Stop → Waiting → Bool
can_leave idle stops file = is_idle idle file.user && not (is_stopped stops file.user file.file.destination)

-- the place of the first file that came back and can leave, if these are tried
abbrev pub returned_place : Bool → List Bool → List Stop → List Waiting → Option ℕ
returned_place false idle stops returned = None
returned_place true idle stops returned = position (can_leave idle stops) returned

-- the file whose turn it is: one that waits, or else one that came back
abbrev pub turn_of : Bool → List Bool → List Stop → OutboxValue → List Waiting → Option Waiting
turn_of tried idle stops outbox returned =
    option_or (going idle stops outbox) (at_place (returned_place tried idle stops returned) returned)

-- those that came back, without it
abbrev pub left_of : Bool → List Bool → List Stop → OutboxValue → List Waiting → List Waiting
left_of tried idle stops outbox returned =
    if is_some (going idle stops outbox) then returned else without_place (returned_place tried idle stops returned) returned

-- those that came back are tried at this moment
abbrev pub are_tried : ℕ → OutgoingValue → Bool
are_tried now o = nat_le o.returned_due now

-- a moment some milliseconds later, at most the greatest number of 64 bits
abbrev pub later : ℕ → ℕ → ℕ
later now ms = min (now + ms) 18446744073709551615

-- the file that is read next, unless one is being read
abbrev pub next_file : ℕ → List Bool → List Stop → OutgoingValue → Option Waiting
next_file now idle stops o = if o.is_reading then None else turn_of (are_tried now o) idle stops o.outbox o.returned

-- it is being read from then on; where there is none, files are tried again ten milliseconds later
abbrev pub begun : ℕ → List Bool → List Stop → OutgoingValue → OutgoingValue
begun now idle stops o = if o.is_reading then o else record o {
  outbox = after_going idle stops o.outbox;
  returned = left_of (are_tried now o) idle stops o.outbox o.returned;
  reading = next_file now idle stops o;
  is_reading = is_some (next_file now idle stops o);
  outbox_due = if is_some (next_file now idle stops o) then o.outbox_due else later now 10;
}

-- the file that was read comes back, after all others that did, and none of them is tried for a second
abbrev pub given_back : ℕ → OutgoingValue → OutgoingValue
given_back now o = record o {
  reading = None;
  is_reading = false;
  returned = o.returned ++ option_to_list o.reading;
  returned_due = if is_some o.reading then later now 1000 else o.returned_due;
}
