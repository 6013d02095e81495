-- What every legal log of a sender tells is a word, or the beginning of one.
use Rattle.std.proofs.Common.{◌≡◌, Bool, true, false, not, ◌&&◌, ◌||◌, if◌then◌else◌, List, [], ◌∷◌, Option, Some, None, Ok, is_some, refl, sym, ap, ◌∙◌, subst}
use Rattle.std.specs.List.{list_any}
use Rattle.std.proofs.lemmas.Bool.{false≢true, true≢false, or_right}
use Rattle.std.proofs.lemmas.List.Folds.{list_any-append}
use Rattle.std.proofs.Math.Bool.{or-false}
use Rattle.cfdp_types.specs.Params.{timer_length}
use Rattle.cfdp_types.specs.Steps.{Effect, stops, is_kind, newer_or}
use Rattle.cfdp_types.specs.declared.names.TimerKind.{TimerKind}
use Rattle.cfdp_types.specs.declared.names.TimerKind.TheVariants.{Ack}
use Rattle.cfdp_types.proofs.StepLemmas.{armed_by, armed_after-operations}
use Rattle.txn_events.specs.Refusal.{unless_refused}
use Rattle.txn_events.specs.declared.refusal.Refusal.{Refusal}
use Rattle.txn_events.specs.declared.event.What.{What}
use Rattle.pdu_values.specs.declared.bodies.Eof.{Eof}
use Rattle.indications.specs.declared.indication.Indication.{Indication}
use Rattle.indications.specs.declared.side.Side.TheVariants.{Sender}
use Rattle.indications.specs.Words.{is_end, is_eof_sent, is_transaction, is_paused, IsOpened, IsBegunOf, MayFollowOf, told_onto}
use Rattle.indications.specs.Words.{paused_after}
use Rattle.indications.proofs.WordLemmas.{MayFollowOf-append, list_any-told_onto, told_onto-append}
use Rattle.indications.proofs.WordLemmas.{is_paused-told_onto}
use Rattle.txn_events.specs.declared.answer.Answer.{Answer}
use Rattle.sender_table.specs.Sending.{Sending, Event, put, happens, Entry, State, initial, step, state_of, issued, is_closing, is_suspended, eof_among}
use Rattle.sender_table.specs.Refusals.{refusal_at}
use Rattle.sender_table.specs.Answers.{Response, response_to, with_event, without_timers, accepted_at, answer_at, effect_of, header_of}
use Rattle.sender_laws.specs.LegalSendings.{HasItsPlace, IsLegal}
use Rattle.sender_laws.specs.SendingLaws.{TellsWords}
use Rattle.sender_laws.proofs.ResponseFacts.{Goes, Calm, row_goes}

-- what is answered was not refused, and is the table's answer
accepted_parts : (why : Option Refusal) (answer given : Answer) → unless_refused why answer ≡ Ok given → (why ≡ None) × (given ≡ answer)
accepted_parts None answer given e = (refl, cc)
accepted_parts (Some r) answer given e = absurd cc

pub was_accepted : (sending : Sending) (state : State) (event : Event) (answer : Answer) → answer_at sending state event ≡ Ok answer
    → (refusal_at sending state event ≡ None) × (answer ≡ accepted_at sending state event)
unfolding answer_at
was_accepted sending state event answer e = accepted_parts (refusal_at sending state event) (accepted_at sending state event) answer e

-- ---- timers

stopped_second : (x y : Bool) (rest : Effect) → y ≡ true → (if x then stops else if y then stops else rest) ≡ stops
stopped_second true y rest is = refl
stopped_second false true rest is = refl
stopped_second false false rest is = absurd (false≢true is)

stopped_suspended : (response : Response) (after : State) (event : Event) (kind : TimerKind) → is_suspended after ≡ true → effect_of response after event kind ≡ stops
stopped_suspended response after event kind suspended = rw (or_right after.ended (is_suspended after) suspended) refl

stopped_closing : (response : Response) (after : State) (event : Event) (kind : TimerKind) → is_closing after ≡ true → is_kind Ack kind ≡ false
    → effect_of response after event kind ≡ stops
stopped_closing response after event kind closing apart =
    stopped_second (after.ended || is_suspended after) (is_closing after && not (is_kind Ack kind)) _ (rw (closing, apart) refl)

-- the state after a step
abbrev next : Sending → State → Event → State
next sending state event = step sending state (record { event = event; answer = accepted_at sending state event })

-- the state after it but for the timers
abbrev next_untimed : Sending → State → Event → State
next_untimed sending state event =
    step sending state (record { event = event; answer = without_timers sending (response_to sending state (with_event sending state event) event) })

is_armed_next : (sending : Sending) (state : State) (event : Event) (kind : TimerKind) → (next sending state event).armed kind
    ≡ armed_by state.entries (effect_of (response_to sending state (with_event sending state event) event) (next_untimed sending state event) event kind) (state.armed kind)
unfolding step
is_armed_next sending state event kind =
    armed_after-operations sending.key (timer_length sending.params.timers) state.entries
    (effect_of (response_to sending state (with_event sending state event) event) (next_untimed sending state event) event) state.armed kind

-- after each step the timers are as the phase asks
calm_next : (sending : Sending) (state : State) (event : Event) → Calm (next sending state event)
unfolding step
calm_next sending state event = record {
  suspended = λ suspended kind.
      is_armed_next sending state event kind
      ∙ ap (λ effect. armed_by state.entries effect (state.armed kind))
      (stopped_suspended (response_to sending state (with_event sending state event) event) (next_untimed sending state event) event kind suspended);
  closing = λ closing kind apart.
      is_armed_next sending state event kind
      ∙ ap (λ effect. armed_by state.entries effect (state.armed kind))
      (stopped_closing (response_to sending state (with_event sending state event) event) (next_untimed sending state event) event kind closing apart);
}

-- ---- what a log tells, beside what the sender stands at

record Stands (sending : Sending) (log : List Entry) : Type 0 where
  pub begun : IsBegunOf Sender (issued log)
  pub ended : list_any is_end (issued log) ≡ (state_of sending log).ended
  pub paused : is_paused (told_onto [] (issued log)) ≡ (state_of sending log).paused
  pub sent : is_some (state_of sending log).eof ≡ false → list_any is_eof_sent (issued log) ≡ false
  pub calm : Calm (state_of sending log)

-- a log that has begun has told so
abbrev HasBegun : List Entry → Type 0
HasBegun [] = Unit {0}
HasBegun (entry ∷ front) = list_any is_transaction (issued (entry ∷ front)) ≡ true

stands_first : (sending : Sending) → Stands sending []
unfolding initial state_of
stands_first sending = record {
  begun = tt;
  ended = refl;
  paused = refl;
  sent = λ none. refl;
  calm = record { suspended = λ suspended kind. refl; closing = λ closing kind apart. refl };
}

-- an EOF told of in one step is sent in it
no_eof_before : (new old : Option Eof) → is_some (newer_or new old) ≡ false → (is_some new ≡ false) × (is_some old ≡ false)
no_eof_before None old none = (refl, none)
no_eof_before (Some e) old none = absurd (true≢false none)

not_told : (b sent : Bool) → (b ≡ true → sent ≡ true) → sent ≡ false → b ≡ false
not_told true sent implies none = absurd (true≢false (sym (implies refl) ∙ none))
not_told false sent implies none = refl

none_in_both : (a b : Bool) → a ≡ false → b ≡ false → (a || b) ≡ false
none_in_both a b first second = rw (first, second) refl

told_test : (test : Indication → Bool) (word : List Indication) → list_any test (told_onto [] word) ≡ list_any test word
told_test test word = list_any-told_onto test [] word ∙ or-false (list_any test word)

-- one step more, whose response goes on from what was told
step_stands : (sending : Sending) (front : List Entry) (event : Event) → Stands sending front
    → MayFollowOf Sender (told_onto [] (issued front)) (response_to sending (state_of sending front) (with_event sending (state_of sending front) event) event).inds
    → (list_any is_eof_sent (response_to sending (state_of sending front) (with_event sending (state_of sending front) event) event).inds ≡ true
    → is_some (eof_among (accepted_at sending (state_of sending front) event).pdus) ≡ true)
    → Stands sending (record { event = event; answer = accepted_at sending (state_of sending front) event } ∷ front)
unfolding state_of step
step_stands sending front event stands follows sends =
    let state : State = state_of sending front in
    let inds : List Indication = (response_to sending state (with_event sending state event) event).inds in
    record {
      begun = MayFollowOf-append Sender [] (issued front) inds stands.begun follows;
      ended = list_any-append is_end (issued front) inds ∙ ap (λ b. b || list_any is_end inds) stands.ended;
      paused = ap is_paused (told_onto-append [] (issued front) inds) ∙ is_paused-told_onto (told_onto [] (issued front)) inds ∙ ap (λ b. paused_after b inds) stands.paused;
      sent = λ none.
          let parts = no_eof_before (eof_among (accepted_at sending state event).pdus) state.eof none in
          list_any-append is_eof_sent (issued front) inds
          ∙ none_in_both (list_any is_eof_sent (issued front)) (list_any is_eof_sent inds) (stands.sent parts.1)
          (not_told (list_any is_eof_sent inds) (is_some (eof_among (accepted_at sending state event).pdus)) sends parts.0);
      calm = calm_next sending state event;
    }

-- ---- every legal log

-- where the Put comes first
put_stands : (sending : Sending) → Stands sending (record { event = put; answer = accepted_at sending (state_of sending []) put } ∷ [])
put_stands sending =
    step_stands sending [] put (stands_first sending) (refl, refl, tt) (λ tells. absurd (false≢true tells))

begins : (sending : Sending) (front : List Entry) (event : What) (given : Answer) → HasBegun front → HasItsPlace front (happens event)
    → HasBegun (record { event = happens event; answer = given } ∷ front)
begins sending [] event given begun entries = absurd entries
begins sending (entry ∷ front) event given begun entries =
    list_any-append is_transaction (issued (entry ∷ front)) given.inds ∙ rw begun refl

is_begun : (front : List Entry) (event : What) → HasBegun front → HasItsPlace front (happens event) → IsOpened (told_onto [] (issued front))
is_begun [] event begun entries = absurd entries
is_begun (entry ∷ front) event begun entries = told_test is_transaction (issued (entry ∷ front)) ∙ begun

event_stands : (sending : Sending) (front : List Entry) (event : What) → Stands sending front → HasBegun front → HasItsPlace front (happens event)
    → (state_of sending front).ended ≡ false → refusal_at sending (state_of sending front) (happens event) ≡ None
    → Stands sending (record { event = happens event; answer = accepted_at sending (state_of sending front) (happens event) } ∷ front)
event_stands sending front event stands begun entries goes taken =
    let state : State = state_of sending front in
    let response : Goes state.paused (is_some state.eof) (response_to sending state (with_event sending state (happens event)) (happens event)) =
    row_goes sending state (with_event sending state (happens event)) event taken goes stands.calm in
    step_stands sending front (happens event) stands
    (response.follows (told_onto [] (issued front)) (told_test is_end (issued front) ∙ stands.ended ∙ goes) (is_begun front event begun entries) stands.paused
    (λ none. told_test is_eof_sent (issued front) ∙ stands.sent none))
    (response.sends (header_of sending))

stands_with : (sending : Sending) (front : List Entry) (event : Event) → Stands sending front × HasBegun front
    → (state_of sending front).ended ≡ false → HasItsPlace front event → refusal_at sending (state_of sending front) event ≡ None
    → Stands sending (record { event = event; answer = accepted_at sending (state_of sending front) event } ∷ front)
    × HasBegun (record { event = event; answer = accepted_at sending (state_of sending front) event } ∷ front)
stands_with sending [] put before goes entries taken = (put_stands sending, refl)
stands_with sending (other ∷ front) put before goes entries taken = absurd entries
stands_with sending front (happens event) before goes entries taken = (
  event_stands sending front event before.0 before.1 entries goes taken,
  begins sending front event (accepted_at sending (state_of sending front) (happens event)) before.1 entries,
)

stands_after : (sending : Sending) (log : List Entry) → IsLegal sending log → Stands sending log × HasBegun log
stands_after sending [] legal = (stands_first sending, tt)
stands_after sending (entry ∷ front) legal =
    let before = stands_after sending front legal.3 in
    let taken = was_accepted sending (state_of sending front) entry.event entry.answer legal.2 in
    subst (λ answer. Stands sending (record { event = entry.event; answer = answer } ∷ front) × HasBegun (record { event = entry.event; answer = answer } ∷ front))
    (sym taken.1) (stands_with sending front entry.event before legal.0 legal.1 taken.0)

pub tells_words : TellsWords
tells_words sending log legal =
    let stands = (stands_after sending log legal).0 in
    (stands.begun, λ ended. (stands.begun, stands.ended ∙ ended))
