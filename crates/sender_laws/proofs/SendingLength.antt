-- A legal log of a sender has fewer entries than a journal may have.
use Rattle.std.proofs.Common.{◌≡◌, ℕ, ◌+◌, ◌≤◌, Bool, true, false, ◌||◌, ◌&&◌, nat_le, if◌then◌else◌, List, [], ◌∷◌, length, Option, Some, None, refl, sym, subst, arith}
use Rattle.std.proofs.lemmas.Bool.Decides.{nat_tests}
use Rattle.cfdp_types.specs.declared.limits.TheConstants.{JOURNAL_ENTRIES}
use Rattle.txn_events.specs.declared.answer.Answer.{Answer}
use Rattle.txn_events.specs.declared.event.What.{What}
use Rattle.txn_events.specs.declared.event.What.TheVariants as what
use Rattle.txn_events.specs.Events.{is_of_other_class, is_stale_timer, needs_room}
use Rattle.sender_table.specs.Sending.{Sending, Event, put, happens, Entry, State, initial, step, state_of}
use Rattle.sender_table.specs.Refusals.{refusal_of, refusal_at, is_stale_store, is_misplaced, is_full}
use Rattle.sender_table.specs.Answers.{accepted_at}
use Rattle.sender_laws.specs.LegalSendings.{HasItsPlace, IsLegal}
use Rattle.sender_laws.specs.SendingLaws.{FitsJournal}
use Rattle.sender_laws.proofs.SendingLegal.{was_accepted}

-- what has room: Abandon, while the sender goes on
record HasRoom (state : State) : Type 0 where
  over : state.entries + 1 ≤ JOURNAL_ENTRIES
  goes : state.ended ≡ false → state.entries + 2 ≤ JOURNAL_ENTRIES

-- ---- what was not refused

if_none : {A : Type 0} (b : Bool) (x : A) (rest : Option A) → (if b then Some x else rest) ≡ None → (b ≡ false) × (rest ≡ None)
if_none true x rest e = absurd cc
if_none false x rest e = (refl, e)

record IsTaken (state : State) (event : What) : Type 0 where
  stored : is_stale_store event ≡ false
  room : (is_full state && needs_room event) ≡ false

taken_by : (sending : Sending) (state : State) (event : What) → refusal_of sending state event ≡ None → IsTaken state event
taken_by sending state event e =
    let one = if_none (is_of_other_class sending.request.class event) _ _ e in
    let two = if_none (is_stale_timer state.armed event) _ _ one.1 in
    let three = if_none (is_stale_store event) _ _ two.1 in
    let four = if_none (is_misplaced sending state event) _ _ three.1 in
    let five = if_none (is_full state && needs_room event) _ _ four.1 in
    record { stored = three.0; room = five.0 }

-- ---- one event more

not_full : (n : ℕ) (needs : Bool) → needs ≡ true → (nat_le 262142 n && needs) ≡ false → n + 1 ≤ 262142
not_full n true is e = grind (arith, nat_tests)
not_full n false is e = absurd cc

room_needed : (sending : Sending) (front : State) (event : What) (answer : Answer) → needs_room event ≡ true → IsTaken front event
    → HasRoom (step sending front (record { event = happens event; answer = answer }))
unfolding step
room_needed sending front event answer needs taken =
    let below : front.entries + 1 ≤ 262142 = not_full front.entries (needs_room event) needs taken.room in
    record { over = omega arith; goes = λ runs. omega arith }

no_end : (a : Bool) → (a || true) ≡ false → ⊥
no_end true e = absurd cc
no_end false e = absurd cc

room_abandoned : (sending : Sending) (front : State) → HasRoom front → front.ended ≡ false
    → HasRoom (step sending front (record { event = happens what.Abandon; answer = accepted_at sending front (happens what.Abandon) }))
unfolding step
room_abandoned sending front room runs =
    let more : front.entries + 2 ≤ JOURNAL_ENTRIES = room.goes runs in
    record { over = omega arith; goes = λ on. absurd (no_end front.ended on) }

room_after : (sending : Sending) (front : State) (event : What) → HasRoom front → front.ended ≡ false → IsTaken front event
    → HasRoom (step sending front (record { event = happens event; answer = accepted_at sending front (happens event) }))
room_after sending front (what.Stored stamp kept) room runs taken = let stored : true ≡ false = taken.stored in absurd cc
room_after sending front what.Abandon room runs taken = room_abandoned sending front room runs
room_after sending front event room runs taken = room_needed sending front event _ refl taken

room_put : (sending : Sending) (answer : Answer) → HasRoom (step sending (initial sending) (record { event = put; answer = answer }))
unfolding initial step
room_put sending answer = record { over = omega arith; goes = λ runs. omega arith }

-- ---- every log

record Fits (sending : Sending) (log : List Entry) : Type 0 where
  counted : (state_of sending log).entries ≡ length log
  room : HasRoom (state_of sending log)

room_with : (sending : Sending) (front : List Entry) (event : Event) → HasRoom (state_of sending front) → (state_of sending front).ended ≡ false
    → HasItsPlace front event → refusal_at sending (state_of sending front) event ≡ None
    → HasRoom (step sending (state_of sending front) (record { event = event; answer = accepted_at sending (state_of sending front) event }))
unfolding state_of
room_with sending [] put room runs place free = room_put sending _
room_with sending (other ∷ front) put room runs place free = absurd place
room_with sending front (happens event) room runs place free =
    room_after sending (state_of sending front) event room runs (taken_by sending (state_of sending front) event free)

fits : (sending : Sending) (log : List Entry) → IsLegal sending log → Fits sending log
unfolding initial step state_of
fits sending [] legal = record {
  counted = refl;
  room = record { over = omega arith; goes = λ runs. omega arith };
}
fits sending (entry ∷ front) legal =
    let before = fits sending front legal.3 in
    let accepted = was_accepted sending (state_of sending front) entry.event entry.answer legal.2 in
    let count : (state_of sending front).entries + 1 ≡ length (entry ∷ front) = omega (arith, before.counted) in
    record {
      counted = count;
      room = subst (λ answer. HasRoom (step sending (state_of sending front) (record { event = entry.event; answer = answer }))) (sym accepted.1)
          (room_with sending front entry.event before.room legal.0 legal.1 accepted.0);
    }

pub fits_journal : FitsJournal
fits_journal sending log legal =
    let it = fits sending log legal in
    let room : (state_of sending log).entries + 1 ≤ JOURNAL_ENTRIES = it.room.over in
    omega (arith, it.counted)
