-- Whose turn it is, computed.
use Rattle.std.proofs.Common.{◌≡◌, ℕ, Bool, true, false, List, [], ◌∷◌, map, Some, None, refl}
use Rattle.cfdp_types.specs.declared.names.Class.TheVariants.{Two}
use Rattle.program_outbox.specs.declared.outbox.OutboxFile.{OutboxFile}
use Rattle.program_outbox.specs.declared.outbox.Stop.{Stop}
use Rattle.program_outbox.specs.declared.outbox.Waiting.{Waiting}
use Rattle.program_outbox.specs.Outboxes.{OutboxValue, first_turns, going, after_going, withdrawn, queued, queued_as, number_place}

-- a file for an entity
abbrev pub file_for : ℕ → OutboxFile
file_for entity =
    record { class = Two; destination = record { 0 = entity }; source = []; source_name = None; destination_name = []; closure = false; is_urgent = false; since = 0 }

-- the same, urgent
abbrev pub urgent : Waiting → Waiting
urgent one = record one { file = record (one.file) { is_urgent = true } }

abbrev pub waiting : ℕ → ℕ → ℕ → Waiting
waiting number user entity = record { number = number; user = user; file = file_for entity }

-- two files of the first user, for two entities, and one of the second, each with a number
abbrev pub two_users : OutboxValue
two_users = record { waiting = waiting 1 0 7 ∷ waiting 2 0 8 ∷ waiting 3 1 7 ∷ []; turns = 0 ∷ 1 ∷ []; next = 4 }

abbrev pub both : List Bool
both = true ∷ true ∷ []

-- nothing of a user goes to an entity; nothing of both users does
abbrev pub stop : ℕ → ℕ → Stop
stop user entity = record { user = user; destination = record { 0 = entity } }

abbrev pub held : ℕ → List Stop
held entity = stop 0 entity ∷ stop 1 entity ∷ []

-- the first user's first file goes, and then it is the second user's turn
first_goes : going both [] two_users ≡ Some (waiting 1 0 7)
first_goes = refl

then_the_other : going both [] (after_going both [] two_users) ≡ Some (waiting 3 1 7)
then_the_other = refl

turns_after : (after_going both [] two_users).turns ≡ 1 ∷ 0 ∷ []
turns_after = refl

-- an urgent file goes before its user's others, and no other user's
urgent_goes : map (λ waiting. going both [] (record two_users { waiting = waiting }))
    ((waiting 1 0 7 ∷ urgent (waiting 2 0 8) ∷ []) ∷ (waiting 1 0 7 ∷ urgent (waiting 3 1 7) ∷ []) ∷ [])
    ≡ Some (urgent (waiting 2 0 8)) ∷ Some (waiting 1 0 7) ∷ []
urgent_goes = refl

-- where it can't go, the others do
urgent_waits : going both (stop 0 8 ∷ []) (record two_users { waiting = waiting 1 0 7 ∷ urgent (waiting 2 0 8) ∷ [] }) ≡ Some (waiting 1 0 7)
urgent_waits = refl

-- a file that comes back from an earlier run has its number, and those after it go on
numbers_go_on : (queued 0 (file_for 7) (queued_as 9 0 (file_for 8) (record { waiting = []; turns = []; next = 1 }))).waiting ≡ waiting 9 0 8 ∷ waiting 10 0 7 ∷ []
numbers_go_on = refl

-- a user whose lanes are busy waits
busy_waits : going (false ∷ true ∷ []) [] two_users ≡ Some (waiting 3 1 7)
busy_waits = refl

nobody_goes : going (false ∷ []) [] two_users ≡ None
nobody_goes = refl

-- a file whose entity is held waits, and the one behind it goes
held_waits : going both (held 7) two_users ≡ Some (waiting 2 0 8)
held_waits = refl

held_then : going both (held 7) (after_going both (held 7) two_users) ≡ None
held_then = refl

held_turns : (after_going both (held 7) two_users).turns ≡ 1 ∷ 0 ∷ []
held_turns = refl

-- where one user's files to the entity wait, those of the other go there
stopped_waits : going both (stop 0 7 ∷ []) two_users ≡ Some (waiting 2 0 8)
stopped_waits = refl

other_user_goes : going both (stop 0 7 ∷ stop 0 8 ∷ []) two_users ≡ Some (waiting 3 1 7)
other_user_goes = refl

not_its_stop : going both (stop 1 7 ∷ []) two_users ≡ Some (waiting 1 0 7)
not_its_stop = refl

no_turn_lost : (after_going both (stop 0 7 ∷ stop 0 8 ∷ []) two_users).turns ≡ 0 ∷ 1 ∷ []
no_turn_lost = refl

-- what is withdrawn is gone, and its user's next file goes
withdrawn_is_gone : going both [] (withdrawn 1 two_users) ≡ Some (waiting 2 0 8)
withdrawn_is_gone = refl

no_such_number : number_place 9 two_users ≡ None
no_such_number = refl

-- one more waits behind all others, with the next number
next_number : (file : OutboxFile) → (queued 1 file two_users).next ≡ 5
next_number file = refl

-- at first the users' turns come by their numbers
turns_at_first : first_turns 3 ≡ 0 ∷ 1 ∷ 2 ∷ []
turns_at_first = refl
