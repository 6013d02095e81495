-- A legal log of a reception has no more entries than a journal may have.
use Rattle.std.proofs.Common.{◌≡◌, ℕ, ◌+◌, ◌≤◌, Bool, true, false, not, ◌||◌, ◌&&◌, nat_le, if◌then◌else◌, List, [], ◌∷◌, length, Option, Some, None, refl, sym, subst, arith}
use Rattle.std.specs.Prelude.{is_some}
use Rattle.std.proofs.lemmas.Bool.Decides.{nat_tests}
use Rattle.cfdp_types.specs.Steps.{is_stamp}
use Rattle.cfdp_types.specs.declared.limits.TheConstants.{JOURNAL_ENTRIES}
use Rattle.txn_events.specs.declared.answer.Answer.{Answer}
use Rattle.txn_events.specs.declared.event.What.{What}
use Rattle.txn_events.specs.declared.event.What.TheVariants as what
use Rattle.txn_events.specs.Events.{is_of_other_class, is_stale_timer, needs_room}
use Rattle.receiver_table.specs.Reception.{Reception, Entry, State, initial, step, state_of, is_storing}
use Rattle.receiver_table.specs.Refusals.{refusal_at, is_stale_store, waits_for_store, is_misplaced, is_too_large, is_full}
use Rattle.receiver_table.specs.Answers.{accepted_at}
use Rattle.receiver_laws.specs.LegalReceptions.{IsLegal}
use Rattle.receiver_laws.specs.ReceptionLaws.{FitsJournal}
use Rattle.receiver_laws.proofs.ReceptionLegal.{was_taken}

-- what has room: Abandon while the reception goes on, and before it the file store's answer while that is asked
record HasRoom (state : State) : Type 0 where
  over : state.entries ≤ JOURNAL_ENTRIES
  goes : state.ended ≡ false → state.entries + 1 ≤ JOURNAL_ENTRIES
  stores : state.ended ≡ false → is_some state.waiting ≡ true → state.entries + 2 ≤ JOURNAL_ENTRIES

-- ---- what was not refused

if_none : {A : Type 0} (b : Bool) (x : A) (rest : Option A) → (if b then Some x else rest) ≡ None → (b ≡ false) × (rest ≡ None)
if_none true x rest e = absurd cc
if_none false x rest e = (refl, e)

record IsTaken (state : State) (event : What) : Type 0 where
  stored : is_stale_store state event ≡ false
  room : (is_full state && needs_room event) ≡ false

taken_by : (reception : Reception) (state : State) (event : What) → refusal_at reception state event ≡ None → IsTaken state event
taken_by reception state event e =
    let one = if_none (is_of_other_class reception.header.class event) _ _ e in
    let two = if_none (is_stale_timer state.armed event) _ _ one.1 in
    let three = if_none (is_stale_store state event) _ _ two.1 in
    let four = if_none (is_storing state && waits_for_store event) _ _ three.1 in
    let five = if_none (is_misplaced reception state event) _ _ four.1 in
    let six = if_none (is_too_large event) _ _ five.1 in
    let seven = if_none (is_full state && needs_room event) _ _ six.1 in
    record { stored = three.0; room = seven.0 }

-- ---- one event more

not_full : (n : ℕ) (needs : Bool) → needs ≡ true → (nat_le 262142 n && needs) ≡ false → n + 1 ≤ 262142
not_full n true is e = grind (arith, nat_tests)
not_full n false is e = absurd cc

room_needed : (front : State) (event : What) (answer : Answer) → needs_room event ≡ true → IsTaken front event
    → HasRoom (step front (record { event = event; answer = answer }))
unfolding step
room_needed front event answer needs taken =
    let below : front.entries + 1 ≤ 262142 = not_full front.entries (needs_room event) needs taken.room in
    record { over = omega arith; goes = λ runs. omega arith; stores = λ runs waits. omega arith }

stamped : (o : Option ℕ) (stamp : ℕ) → not (is_stamp o stamp) ≡ false → is_some o ≡ true
stamped None stamp e = absurd cc
stamped (Some n) stamp e = refl

room_stored : (front : State) (stamp : ℕ) (kept : Bool) (answer : Answer) → HasRoom front → front.ended ≡ false → IsTaken front (what.Stored stamp kept)
    → HasRoom (step front (record { event = what.Stored stamp kept; answer = answer }))
unfolding step
room_stored front stamp kept answer room runs taken =
    let more : front.entries + 2 ≤ JOURNAL_ENTRIES = room.stores runs (stamped front.waiting stamp taken.stored) in
    record { over = omega arith; goes = λ on. omega arith; stores = λ on waits. absurd cc }

no_end : (a : Bool) → (a || true) ≡ false → ⊥
no_end true e = absurd cc
no_end false e = absurd cc

room_abandoned : (reception : Reception) (front : State) → HasRoom front → front.ended ≡ false
    → HasRoom (step front (record { event = what.Abandon; answer = accepted_at reception front what.Abandon }))
unfolding step
room_abandoned reception front room runs =
    let more : front.entries + 1 ≤ JOURNAL_ENTRIES = room.goes runs in
    record { over = more; goes = λ on. absurd (no_end front.ended on); stores = λ on waits. absurd (no_end front.ended on) }

room_after : (reception : Reception) (front : State) (event : What) → HasRoom front → front.ended ≡ false → IsTaken front event
    → HasRoom (step front (record { event = event; answer = accepted_at reception front event }))
room_after reception front (what.Stored stamp kept) room runs taken = room_stored front stamp kept _ room runs taken
room_after reception front what.Abandon room runs taken = room_abandoned reception front room runs
room_after reception front event room runs taken = room_needed front event _ refl taken

-- ---- every log

record Fits (log : List Entry) : Type 0 where
  counted : (state_of log).entries ≡ length log
  room : HasRoom (state_of log)

fits : (reception : Reception) (log : List Entry) → IsLegal reception log → Fits log
unfolding initial step state_of
fits reception [] legal = record {
  counted = refl;
  room = record { over = omega arith; goes = λ runs. omega arith; stores = λ runs waits. omega arith };
}
fits reception (entry ∷ front) legal =
    let before = fits reception front legal.3 in
    let accepted = was_taken reception (state_of front) entry.event entry.answer legal.2 in
    let count : (state_of front).entries + 1 ≡ length (entry ∷ front) = omega (arith, before.counted) in
    record {
      counted = count;
      room = subst (λ answer. HasRoom (step (state_of front) (record { event = entry.event; answer = answer }))) (sym accepted.1)
          (room_after reception (state_of front) entry.event before.room legal.0 (taken_by reception (state_of front) entry.event accepted.0));
    }

pub fits_journal : FitsJournal
fits_journal reception log legal =
    let it = fits reception log legal in
    subst (λ n. n ≤ JOURNAL_ENTRIES) it.counted it.room.over
