-- Meaning. Files that wait until a sending lane of their user is idle.
use Rattle.std.specs.Prelude.{ℕ, ◌+◌, ◌==◌, ◌&&◌, Bool, false, not, List, [], ◌∷◌, ◌++◌, Option, Some, None, position, slice_get, option_to_list}
use Rattle.std.specs.List.{remove, list_any, range_with_len}
use Rattle.std.specs.Option.{option_or}
use Rattle.cfdp_types.specs.declared.key.EntityId.{EntityId}
use Rattle.program_outbox.specs.declared.outbox.OutboxFile.{OutboxFile}
use Rattle.program_outbox.specs.declared.outbox.Stop.{Stop}
use Rattle.program_outbox.specs.declared.outbox.Waiting.{Waiting}

-- files in the order in which they came; users in the order of their turns; the number that the next file gets
pub record OutboxValue : Type 0 where
  pub waiting : List Waiting
  pub turns : List ℕ
  pub next : ℕ

-- ---- places

-- the item at a place, and the list without it
abbrev pub at_place : {A : Type 0} → Option ℕ → List A → Option A
at_place None items = None
at_place (Some place) items = slice_get items place

abbrev pub without_place : {A : Type 0} → Option ℕ → List A → List A
without_place None items = items
without_place (Some place) items = remove items place

-- nothing of a user goes to an entity
abbrev pub is_stopped : List Stop → ℕ → EntityId → Bool
is_stopped stops user destination = list_any (λ stop. (stop.user == user) && (stop.destination.0 == destination.0)) stops

-- a file is this user's, and the user's files to its entity may go
abbrev pub is_free : List Stop → ℕ → Waiting → Bool
is_free stops user file = (file.user == user) && not (is_stopped stops user file.file.destination)

-- a file has a number
abbrev pub has_number : ℕ → Waiting → Bool
has_number number file = file.number == number

-- a user has an idle lane, by the list with an entry for each user
abbrev pub is_idle : List Bool → ℕ → Bool
is_idle idle user = said (slice_get idle user)
  where
    said : Option Bool → Bool
    said None = false
    said (Some word) = word

-- a user has an idle lane and a file that can be sent
abbrev pub can_go : List Bool → List Stop → List Waiting → ℕ → Bool
can_go idle stops waiting user = is_idle idle user && list_any (is_free stops user) waiting

-- whose turn it is: the place of the first user who has a file that can be sent
abbrev pub turn_place : List Bool → List Stop → OutboxValue → Option ℕ
turn_place idle stops outbox = position (can_go idle stops outbox.waiting) outbox.turns

-- ---- the effect of each call

-- whose turns come at first: each user's, by their numbers
abbrev pub first_turns : ℕ → List ℕ
first_turns users = range_with_len 0 users

-- one more file waits, after all others, with a number, and the next one gets the number after it
abbrev pub queued_as : ℕ → ℕ → OutboxFile → OutboxValue → OutboxValue
queued_as number user file outbox = record outbox {
  waiting = outbox.waiting ++ record { number = number; user = user; file = file } ∷ [];
  next = number + 1;
}

-- with the next number
abbrev pub queued : ℕ → OutboxFile → OutboxValue → OutboxValue
queued user file outbox = queued_as outbox.next user file outbox

-- a file is urgent, is this user's, and the user's files to its entity may go
abbrev pub is_free_urgent : List Stop → ℕ → Waiting → Bool
is_free_urgent stops user file = file.file.is_urgent && is_free stops user file

-- the place of a user's first file that may go, the first urgent one if there is one
abbrev pub free_place : List Stop → ℕ → List Waiting → Option ℕ
free_place stops user waiting = option_or (position (is_free_urgent stops user) waiting) (position (is_free stops user) waiting)

abbrev pub place_of_user : List Stop → Option ℕ → List Waiting → Option ℕ
place_of_user stops None waiting = None
place_of_user stops (Some user) waiting = free_place stops user waiting

-- the place of the file to be sent: such a file of the user whose turn it is
abbrev pub going_place : List Bool → List Stop → OutboxValue → Option ℕ
going_place idle stops outbox =
    place_of_user stops (at_place (turn_place idle stops outbox) outbox.turns) outbox.waiting

-- the file to be sent, and the outbox without it; that user's next turn is after all others
abbrev pub going : List Bool → List Stop → OutboxValue → Option Waiting
going idle stops outbox = at_place (going_place idle stops outbox) outbox.waiting

abbrev pub after_going : List Bool → List Stop → OutboxValue → OutboxValue
after_going idle stops outbox = record outbox {
  waiting = without_place (going_place idle stops outbox) outbox.waiting;
  turns = without_place (turn_place idle stops outbox) outbox.turns ++ option_to_list (at_place (turn_place idle stops outbox) outbox.turns);
}

-- the place of the file with this number, and the outbox without it
abbrev pub number_place : ℕ → OutboxValue → Option ℕ
number_place number outbox = position (has_number number) outbox.waiting

abbrev pub withdrawn : ℕ → OutboxValue → OutboxValue
withdrawn number outbox = record outbox { waiting = without_place (number_place number outbox) outbox.waiting }
