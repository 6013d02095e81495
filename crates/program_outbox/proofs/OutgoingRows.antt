-- Files on their way, computed.
use Rattle.std.proofs.Common.{◌≡◌, true, false, [], ◌∷◌, Some, None, refl}
use Rattle.program_outbox.specs.declared.outbox.OutboxFile.{OutboxFile}
use Rattle.program_outbox.specs.Outgoings.{OutgoingValue, begun, file_count, given_back, is_due, later, moment_until, named, next_file, queued_at, without_named}
use Rattle.program_outbox.proofs.OutboxRows.{both, held, stop, two_users, waiting}

-- the files of two users wait, and one file of the second user came back, to be tried again from moment 50 on
abbrev one_back : OutgoingValue
one_back = record {
  outbox = two_users;
  reading = None;
  is_reading = false;
  returned = waiting 9 1 8 ∷ [];
  outbox_due = 20;
  returned_due = 50;
}

-- the same behind the turn of the first user
abbrev first_read : OutgoingValue
first_read = begun 20 both [] one_back

-- a file that waits is read before one that came back
first_is_read : next_file 20 both [] one_back ≡ Some (waiting 1 0 7)
first_is_read = refl

is_being_read : first_read.reading ≡ Some (waiting 1 0 7)
is_being_read = refl

still_three_and_one : file_count first_read ≡ 4
still_three_and_one = refl

-- nothing else is read meanwhile
one_at_a_time : next_file 60 both [] first_read ≡ None
one_at_a_time = refl

nothing_begins : begun 60 both [] first_read ≡ first_read
nothing_begins = refl

nothing_is_due : is_due 60 first_read ≡ false
nothing_is_due = refl

-- a file that came back is read where none that waits can leave, from its moment on
too_soon : next_file 49 both (held 7) (record one_back { outbox = record two_users { waiting = waiting 1 0 7 ∷ [] } }) ≡ None
too_soon = refl

its_moment : next_file 50 both (held 7) (record one_back { outbox = record two_users { waiting = waiting 1 0 7 ∷ [] } })
    ≡ Some (waiting 9 1 8)
its_moment = refl

not_while_busy : next_file 50 (true ∷ false ∷ []) (held 7) (record one_back { outbox = record two_users { waiting = waiting 1 0 7 ∷ [] } }) ≡ None
not_while_busy = refl

-- nor does a file that came back go where its user's lanes are busy, or the link to its entity is held; the one behind it does
abbrev two_back : OutgoingValue
two_back = record one_back { outbox = record two_users { waiting = [] }; returned = waiting 9 1 8 ∷ waiting 6 0 7 ∷ [] }

the_free_one : next_file 50 (true ∷ false ∷ []) [] two_back ≡ Some (waiting 6 0 7)
the_free_one = refl

not_the_held_one : next_file 50 both (held 8) two_back ≡ Some (waiting 6 0 7)
not_the_held_one = refl

not_the_stopped_one : next_file 50 both (stop 1 8 ∷ stop 1 7 ∷ []) two_back ≡ Some (waiting 6 0 7)
not_the_stopped_one = refl

of_the_other_user : next_file 50 both (stop 0 8 ∷ []) two_back ≡ Some (waiting 9 1 8)
of_the_other_user = refl

the_other_is_left : (begun 50 both (held 8) two_back).returned ≡ waiting 9 1 8 ∷ []
the_other_is_left = refl

due_as_before : (begun 50 both (held 8) two_back).outbox_due ≡ 20
due_as_before = refl

-- where none can leave, the outbox is looked at again ten milliseconds later
looked_at_again : (begun 50 [] [] one_back).outbox_due ≡ 60
looked_at_again = refl

-- a file that couldn't be put comes back after the other, and both are tried a second later
behind_the_other : (given_back 30 first_read).returned ≡ waiting 9 1 8 ∷ waiting 1 0 7 ∷ []
behind_the_other = refl

a_second_later : (given_back 30 first_read).returned_due ≡ 1030
a_second_later = refl

none_is_read : (given_back 30 first_read).is_reading ≡ false
none_is_read = refl

-- a file can be withdrawn while it is read, when it came back, and while it waits
read_withdrawn : (without_named 1 first_read).reading ≡ None
read_withdrawn = refl

reading_goes_on : (without_named 1 first_read).is_reading ≡ true
reading_goes_on = refl

returned_withdrawn : named 9 first_read ≡ Some (waiting 9 1 8)
returned_withdrawn = refl

without_returned : (without_named 9 first_read).returned ≡ []
without_returned = refl

waiting_withdrawn : named 3 first_read ≡ Some (waiting 3 1 7)
waiting_withdrawn = refl

no_such_file : named 5 first_read ≡ None
no_such_file = refl

named_as_it_is_read : named 1 first_read ≡ Some (waiting 1 0 7)
named_as_it_is_read = refl

without_a_waiting_one : file_count (without_named 3 first_read) ≡ 3
without_a_waiting_one = refl

-- where what was read had been withdrawn, nothing comes back, and the others are tried when they would have been
nothing_comes_back : (given_back 30 (without_named 1 first_read)).returned ≡ waiting 9 1 8 ∷ []
nothing_comes_back = refl

tried_when_they_were : (given_back 30 (without_named 1 first_read)).returned_due ≡ 50
tried_when_they_were = refl

-- a moment has 64 bits
latest_moment : later 18446744073709551615 10 ≡ 18446744073709551615
latest_moment = refl

-- files are tried from their moment on, and at once where a new one comes before it
due : is_due 20 one_back ≡ true
due = refl

not_yet_due : is_due 19 one_back ≡ false
not_yet_due = refl

tried_at_once : (file : OutboxFile) → (queued_at 0 file 7 one_back).outbox_due ≡ 7
tried_at_once file = refl

no_later : (file : OutboxFile) → (queued_at 0 file 90 one_back).outbox_due ≡ 20
no_later file = refl

-- the main thread sleeps until files are tried, unless one is being read
sleeps_until : moment_until 90 one_back ≡ 20
sleeps_until = refl

sleeps_no_longer : moment_until 15 one_back ≡ 15
sleeps_no_longer = refl

sleeps_on : moment_until 90 first_read ≡ 90
sleeps_on = refl
