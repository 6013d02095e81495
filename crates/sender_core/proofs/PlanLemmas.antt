-- A plan holds the table's answer, and what follows it.
use Rattle.cfdp_types.specs.declared.limits.TheConstants.{JOURNAL_ENTRIES, JOURNAL_ENTRIES_KEPT}
use Rattle.std.proofs.Common.{◌≡◌, ◌⊎◌, ℕ, ◌+◌, ◌-◌, ◌<◌, ◌≤◌, Bool, true, false, not, ◌&&◌, ◌||◌, nat_lt, if◌then◌else◌, length, Option, Some, None, Ok, Err, refl, sym, ap, ◌∙◌, arith, inl, inr}
use Rattle.std.proofs.Math.Path.{fun_ext}
use Rattle.std.proofs.lemmas.Bool.{leb-false, ltb-true}
use Rattle.std.specs.Prelude.{IsOk}
use Rattle.std.specs.List.{list_any}
use Rattle.std.specs.Option.{option_to_list}
use Rattle.cfdp_types.specs.Condition as condition
use Rattle.cfdp_types.specs.Handlers.{handler_in}
use Rattle.cfdp_types.specs.Params.{timer_length}
use Rattle.cfdp_types.specs.Steps.{operations, newer_or}
use Rattle.cfdp_types.specs.declared.condition.Condition.{Condition}
use Rattle.cfdp_types.specs.declared.names.Class.{Class}
use Rattle.cfdp_types.specs.declared.names.Class.TheVariants.{One, Two}
use Rattle.cfdp_types.specs.declared.names.Handler.{Handler}
use Rattle.cfdp_types.specs.declared.names.Handler.TheVariants as handler
use Rattle.cfdp_types.specs.declared.names.TimerKind.{TimerKind}
use Rattle.cfdp_types.specs.declared.names.TimerKind.TheVariants.{Ack, Nak, Check, Inactivity}
use Rattle.indications.specs.Words.{is_end}
use Rattle.indications.specs.Words.{paused_after}
use Rattle.txn_events.specs.declared.event.What.{What}
use Rattle.txn_events.specs.declared.event.What.TheVariants as what
use Rattle.txn_events.specs.declared.refusal.Refusal.{Refusal}
use Rattle.txn_events.specs.declared.refusal.Refusal.TheVariants as refusal
use Rattle.txn_events.specs.Events.{is_of_other_class, is_stale_timer, needs_room}
use Rattle.pdu_values.specs.declared.bodies.Eof.{Eof}
use Rattle.sender_table.specs.Sending.{Sending, State, Event, happens, step, covers, asks_for, requests_of, eof_among, extent_of}
use Rattle.sender_table.specs.Refusals.{refusal_of, is_stale_store, is_misplaced, is_full}
use Rattle.sender_table.specs.Answers.{Response, cancel_response, fault_response, response_to, with_event, without_timers, with_timers, accepted_at, answer_at, effect_of}
use Rattle.sender_core.specs.ControlBlock.{state_from, nowhere, eof_size, IsSound, IsInside}
use Rattle.txn_events.specs.Timers.{AreFew, stamp_of}
use Rattle.sender_core.proofs.ResponseData.{eof_short}
use Rattle.txn_events.proofs.AnswerLemmas.{answer_of_parts, same_answer}
use Rattle.txn_events.proofs.TimerLemmas.{armed_follows, counted}
use Rattle.sender_core.specs.Remaining.{to_send}
use Rattle.sender_core.specs.Core.{shown, sending_of, pdus_of_response, IsResponse, IsNext, HoldsResponse, IsPlanOf, effect_by, arming, remainder_of, remains_after, plan_answer}
use Rattle.sender_core.specs.declared.plan.Remainder.{Remainder}
use Rattle.sender_core.specs.declared.plan.Plan.{Plan}
use Rattle.sender_core.specs.declared.response.Response as response_type
use Rattle.sender_core.specs.declared.sender.SenderCore.{SenderCore}

-- ---- the event is seen before it is answered

cancels_same : (sending : Sending) (a b : State) (code : Condition) (class : Class) → sending.request.class ≡ class → a.progress ≡ b.progress → cancel_response sending a code ≡ cancel_response sending b code
cancels_same sending a b code One is e = rw (is, e) refl
cancels_same sending a b code Two is e = rw (is, e) refl

faults_same : (sending : Sending) (a b : State) (kind : TimerKind) (code : Condition) (h : Handler) → handler_in sending.params.tables.send code ≡ h → a.progress ≡ b.progress
    → fault_response sending a kind code ≡ fault_response sending b kind code
faults_same sending a b kind code handler.Cancel is e = rw is (cancels_same sending a b code sending.request.class refl e)
faults_same sending a b kind code handler.Suspend is e = rw is refl
faults_same sending a b kind code handler.Ignore is e = rw (is, e) refl
faults_same sending a b kind code handler.Abandon is e = rw (is, e) refl

row_same : (sending : Sending) (front a b : State) (event : What) → a.progress ≡ b.progress → a.eof ≡ b.eof → a.paused ≡ b.paused → a.ended ≡ b.ended
    → response_to sending front a (happens event) ≡ response_to sending front b (happens event)
row_same sending front a b what.Pump p e s d = refl
row_same sending front a b (what.Pdu pdu) p e s d = refl
row_same sending front a b (what.Timer Ack stamp) p e s d = rw (faults_same sending a b Ack condition.positive_ack_limit _ refl p) refl
row_same sending front a b (what.Timer Inactivity stamp) p e s d = faults_same sending a b Inactivity condition.inactivity _ refl p
row_same sending front a b (what.Timer Nak stamp) p e s d = refl
row_same sending front a b (what.Timer Check stamp) p e s d = rw (faults_same sending a b Check condition.check_limit _ refl p) refl
row_same sending front a b what.Cancel p e s d = cancels_same sending a b condition.cancel_request _ refl p
row_same sending front a b what.Suspend p e s d = refl
row_same sending front a b what.Resume p e s d = rw p refl
row_same sending front a b what.Report p e s d = rw (p, e, s, d) refl
row_same sending front a b what.Abandon p e s d = rw p refl
row_same sending front a b (what.Stored stamp kept) p e s d = refl

or_false : (b : Bool) → (b || false) ≡ b
or_false true = refl
or_false false = refl

with_event_response : (sending : Sending) (state : State) (event : What) → response_to sending state (with_event sending state (happens event)) (happens event) ≡ response_to sending state state (happens event)
unfolding step
with_event_response sending state event = row_same sending state (with_event sending state (happens event)) state event (omega arith) refl refl (or_false state.ended)

-- ---- the answer

effect_same : (r s : Response) (a b : State) (event : Event) (kind : TimerKind) → r.arms ≡ s.arms → a.ended ≡ b.ended → a.paused ≡ b.paused → a.eof ≡ b.eof → a.acknowledged ≡ b.acknowledged
    → effect_of r a event kind ≡ effect_of s b event kind
effect_same r s a b event kind x d p e k = rw (x, d, p, e, k) refl

effects_are : (core : SenderCore) (event : What) (response : response_type.Response) (wanted : Response) (plan : Plan) → IsResponse (sending_of core) response wanted → IsNext core.control event response plan.next
    → effect_of wanted (step (sending_of core) (shown core) (record { event = happens event; answer = without_timers (sending_of core) wanted })) (happens event) ≡ effect_by plan.next event response
unfolding step
effects_are core event response wanted plan is next =
    fun_ext (λ kind. effect_same wanted (arming response.arms) (step (sending_of core) (shown core) (record { event = happens event; answer = without_timers (sending_of core) wanted })) (state_from plan.next nowhere) (happens event) kind (sym is.arms)
    (ap (λ inds. core.control.ended || list_any is_end inds) (sym is.inds) ∙ sym next.ended)
    (ap (λ inds. paused_after core.control.paused inds) (sym is.inds) ∙ sym next.paused)
    (ap (λ pdus. newer_or (eof_among pdus) core.control.eof) (sym is.pdus) ∙ sym next.eof)
    (sym next.acknowledged))

pub accepted_is : (core : SenderCore) (event : What) (response : response_type.Response) (remainder : Remainder) (plan : Plan)
    → IsResponse (sending_of core) response (response_to (sending_of core) (shown core) (shown core) (happens event)) → HoldsResponse core event response remainder plan
    → accepted_at (sending_of core) (shown core) (happens event) ≡ plan_answer plan
unfolding answer_of_parts
accepted_is core event response remainder plan is planned =
    let s : Sending = sending_of core in
    let f : State = shown core in
    let wanted : Response = response_to s f f (happens event) in
    ap (λ (r : Response). with_timers s f (happens event) r (without_timers s r)) (with_event_response s f event)
    ∙ same_answer wanted.inds plan.answer.inds (pdus_of_response s wanted) plan.answer.pdus _ plan.answer.timers None plan.answer.deposit
    (sym (planned.inds ∙ is.inds)) (sym (planned.pdus ∙ is.pdus))
    (ap (λ e. operations s.key (timer_length s.params.timers) f.entries e f.armed) (effects_are core event response wanted plan is planned.next) ∙ sym planned.timers)
    (sym planned.nothing)

-- ---- the state that follows

made : ℕ → Bool → (ℕ → Bool) → ℕ → Option Eof → Bool → Bool → (TimerKind → Option ℕ) → (TimerKind → ℕ) → Bool → State
made entries metadata remains progress eof acknowledged paused armed tries ended = record {
  entries = entries;
  metadata_remains = metadata;
  remains = remains;
  progress = progress;
  eof = eof;
  acknowledged = acknowledged;
  paused = paused;
  armed = armed;
  tries = tries;
  ended = ended;
}

same_made : (a b : State) → a.entries ≡ b.entries → a.metadata_remains ≡ b.metadata_remains → a.remains ≡ b.remains → a.progress ≡ b.progress → a.eof ≡ b.eof
    → a.acknowledged ≡ b.acknowledged → a.paused ≡ b.paused → a.armed ≡ b.armed → a.tries ≡ b.tries → a.ended ≡ b.ended
    → made a.entries a.metadata_remains a.remains a.progress a.eof a.acknowledged a.paused a.armed a.tries a.ended
    ≡ made b.entries b.metadata_remains b.remains b.progress b.eof b.acknowledged b.paused b.armed b.tries b.ended
same_made a b x1 x2 x3 x4 x5 x6 x7 x8 x9 x10 = cc

-- states whose parts are the same
pub same_state : (a b : State) → a.entries ≡ b.entries → a.metadata_remains ≡ b.metadata_remains → ((i : ℕ) → a.remains i ≡ b.remains i) → a.progress ≡ b.progress → a.eof ≡ b.eof
    → a.acknowledged ≡ b.acknowledged → a.paused ≡ b.paused → ((kind : TimerKind) → a.armed kind ≡ b.armed kind) → ((kind : TimerKind) → a.tries kind ≡ b.tries kind) → a.ended ≡ b.ended → a ≡ b
unfolding made
same_state a b x1 x2 x3 x4 x5 x6 x7 x8 x9 x10 = same_made a b x1 x2 (fun_ext x3) x4 x5 x6 x7 (fun_ext x8) (fun_ext x9) x10

pub follows : (core : SenderCore) (event : What) (response : response_type.Response) (remainder : Remainder) (plan : Plan)
    → IsResponse (sending_of core) response (response_to (sending_of core) (shown core) (shown core) (happens event)) → HoldsResponse core event response remainder plan
    → ((i : ℕ) → remainder_of core.remaining remainder i ≡ remains_after (sending_of core) (shown core) event i)
    → state_from plan.next (remainder_of core.remaining plan.remainder) ≡ step (sending_of core) (shown core) (record { event = happens event; answer = plan_answer plan })
unfolding step
follows core event response remainder plan is planned remains =
    let s : Sending = sending_of core in
    let f : State = shown core in
    let next = planned.next in
    let pdus : option_to_list response.pdu ≡ plan.answer.pdus = sym planned.pdus in
    let inds : response.inds ≡ plan.answer.inds = sym planned.inds in
    same_state (state_from plan.next (remainder_of core.remaining plan.remainder)) _
    next.entries
    (rw pdus at next.metadata)
    (λ i. ap (λ l. remainder_of core.remaining l i) planned.remainder_is ∙ remains i
    ∙ ap (λ p. (f.remains i && not (list_any (covers i) p)) || (nat_lt i (length s.request.file) && list_any (asks_for i) (requests_of (happens event)))) (sym (planned.pdus ∙ is.pdus)))
    (rw pdus at next.progress) (rw pdus at next.eof) next.acknowledged (rw inds at next.paused)
    (armed_follows core.key (timer_length core.params.timers) core.control.entries (effect_by plan.next event response) (stamp_of core.control.armed) (stamp_of plan.next.armed) plan.answer.timers planned.armed planned.timers)
    (λ kind. rw (pdus, inds) at (next.tries kind))
    (rw inds at next.ended)

-- ---- what the code can hold

refused_not : {A : Type 0} (a b c d e : Bool) (v w x y z : A) → (if a then Some v else if b then Some w else if c then Some x else if d then Some y else if e then Some z else None) ≡ None
    → (c ≡ false) × (e ≡ false)
refused_not true b c d e v w x y z h = absurd cc
refused_not false true c d e v w x y z h = absurd cc
refused_not false false true d e v w x y z h = absurd cc
refused_not false false false true e v w x y z h = absurd cc
refused_not false false false false true v w x y z h = absurd cc
refused_not false false false false false v w x y z h = (refl, refl)

-- a transaction that goes on has room in its journal
room : (sending : Sending) (front : State) (event : What) (response : response_type.Response) (b : Bool) → refusal_of sending front event ≡ None
    → IsResponse sending response (response_to sending front front (happens event)) → (b || list_any is_end response.inds) ≡ false → needs_room event ≡ true → front.entries + 1 ≤ (JOURNAL_ENTRIES - JOURNAL_ENTRIES_KEPT)
room sending front event response b taken is goes_on needs =
    let full : (is_full front && needs_room event) ≡ false = (refused_not (is_of_other_class sending.request.class event) (is_stale_timer front.armed event) (is_stale_store event) (is_misplaced sending front event) (is_full front && needs_room event) refusal.ModeMismatch refusal.StaleTimer refusal.StaleStored refusal.WrongState refusal.JournalFull taken).1 in
    let open_ : (is_full front && true) ≡ false = rw needs at full in
    let below : front.entries < (JOURNAL_ENTRIES - JOURNAL_ENTRIES_KEPT) = leb-false (JOURNAL_ENTRIES - JOURNAL_ENTRIES_KEPT) front.entries (sym (and_true (is_full front)) ∙ open_) in
    omega arith
  where
    and_true : (b : Bool) → (b && true) ≡ b
    and_true true = refl
    and_true false = refl

ends_true : (b : Bool) → (b || true) ≡ true
ends_true true = refl
ends_true false = refl

goes_on : (sending : Sending) (front : State) (event : What) (response : response_type.Response) (b : Bool) → refusal_of sending front event ≡ None
    → IsResponse sending response (response_to sending front front (happens event)) → (b || list_any is_end response.inds) ≡ false → front.entries + 1 ≤ (JOURNAL_ENTRIES - JOURNAL_ENTRIES_KEPT)
goes_on sending front (what.Pdu pdu) response b taken is e = room sending front (what.Pdu pdu) response b taken is e refl
goes_on sending front (what.Timer kind stamp) response b taken is e = room sending front (what.Timer kind stamp) response b taken is e refl
goes_on sending front what.Pump response b taken is e = room sending front what.Pump response b taken is e refl
goes_on sending front what.Cancel response b taken is e = room sending front what.Cancel response b taken is e refl
goes_on sending front what.Suspend response b taken is e = room sending front what.Suspend response b taken is e refl
goes_on sending front what.Resume response b taken is e = room sending front what.Resume response b taken is e refl
goes_on sending front what.Report response b taken is e = room sending front what.Report response b taken is e refl
goes_on sending front what.Abandon response b taken is e =
    let ends : (b || true) ≡ false = rw is.inds at e in
    let yes : (b || true) ≡ true = ends_true b in absurd cc
goes_on sending front (what.Stored stamp kept) response b taken is e = let stale = (refused_not (is_of_other_class sending.request.class (what.Stored stamp kept)) (is_stale_timer front.armed (what.Stored stamp kept)) (is_stale_store (what.Stored stamp kept)) (is_misplaced sending front (what.Stored stamp kept)) (is_full front && needs_room (what.Stored stamp kept)) refusal.ModeMismatch refusal.StaleTimer refusal.StaleStored refusal.WrongState refusal.JournalFull taken).0 in absurd cc

newer_short : (sending : Sending) (new old : Option Eof) → eof_size new ≤ length sending.request.file → eof_size old ≤ length sending.request.file
    → eof_size (newer_or new old) ≤ length sending.request.file
newer_short sending None old first second = second
newer_short sending (Some e) old first second = first

pub sound_after : (core : SenderCore) (event : What) (response : response_type.Response) (remainder : Remainder) (plan : Plan) → refusal_of (sending_of core) (shown core) event ≡ None
    → IsResponse (sending_of core) response (response_to (sending_of core) (shown core) (shown core) (happens event)) → HoldsResponse core event response remainder plan
    → extent_of (option_to_list response.pdu) ≤ length core.request.file → core.control.ended ≡ false → IsSound (length core.request.file) plan.next
sound_after core event response remainder plan taken is planned inside runs =
    let next = planned.next in
    let old : AreFew core.control.entries core.control.tries = core.sound.few in
    let few : core.control.entries ≤ (JOURNAL_ENTRIES - JOURNAL_ENTRIES_KEPT) = core.sound.goes_on runs in
    let entries : plan.next.entries ≡ core.control.entries + 1 = next.entries in
    record {
      few = record {
        entries = omega (arith, entries, few);
        tries = record {
          ack = rw (next.tries Ack, entries) (counted _ _ core.control.tries.ack core.control.entries old.tries.ack);
          nak = rw (next.tries Nak, entries) (counted _ _ core.control.tries.nak core.control.entries old.tries.nak);
          check = rw (next.tries Check, entries) (counted _ _ core.control.tries.check core.control.entries old.tries.check);
          inactivity = rw (next.tries Inactivity, entries) (counted _ _ core.control.tries.inactivity core.control.entries old.tries.inactivity);
        };
      };
      goes_on = λ e. rw entries (goes_on (sending_of core) (shown core) event response core.control.ended taken is (sym next.ended ∙ e));
      progress = omega (arith, next.progress, inside, core.sound.progress);
      eof = rw (next.eof, is.pdus) (newer_short (sending_of core) (eof_among (pdus_of_response (sending_of core) (response_to (sending_of core) (shown core) (shown core) (happens event)))) core.control.eof (eof_short (sending_of core) (shown core) event core.sound.eof core.sound.progress) core.sound.eof);
    }

inside_after : (state_has lt covered asked : Bool) → ((state_has && covered) || (lt && asked)) ≡ true → (state_has ≡ true) ⊎ (lt ≡ true)
inside_after true lt covered asked e = inl refl
inside_after false true covered asked e = inr refl
inside_after false false covered asked e = absurd cc

pub still_inside : (core : SenderCore) (event : What) (remainder : Remainder) → ((i : ℕ) → remainder_of core.remaining remainder i ≡ remains_after (sending_of core) (shown core) event i)
    → IsInside (length core.request.file) (remainder_of core.remaining remainder)
still_inside core event remainder is i has =
    elim (inside_after (to_send core.remaining i) (nat_lt i (length core.request.file)) _ _ (sym (is i) ∙ has)) [
      | inl kept ↦ core.inside i kept
      | inr below ↦ ltb-true i (length core.request.file) below
    ]

pub is_plan : (core : SenderCore) (event : What) (response : response_type.Response) (remainder : Remainder) (plan : Plan) → refusal_of (sending_of core) (shown core) event ≡ None
    → IsResponse (sending_of core) response (response_to (sending_of core) (shown core) (shown core) (happens event)) → HoldsResponse core event response remainder plan
    → ((i : ℕ) → remainder_of core.remaining remainder i ≡ remains_after (sending_of core) (shown core) event i)
    → extent_of (option_to_list response.pdu) ≤ length core.request.file → IsPlanOf core plan (happens event)
unfolding answer_at
is_plan core event response remainder plan taken is planned remains inside = record {
  answered = record {
    accepted = rw taken (ap Ok (accepted_is core event response remainder plan is planned));
    follows = follows core event response remainder plan is planned remains;
  };
  nothing = planned.nothing;
  inside = λ i has. still_inside core event remainder remains i (ap (λ l. remainder_of core.remaining l i) (sym planned.remainder_is) ∙ has);
  sound = sound_after core event response remainder plan taken is planned inside;
}

pub refused_is : (sending : Sending) (state : State) (event : What) (why : Refusal) → refusal_of sending state event ≡ Some why → answer_at sending state (happens event) ≡ Err why
unfolding answer_at
refused_is sending state event why is = rw is refl

pub answered_is : (sending : Sending) (state : State) (event : What) → refusal_of sending state event ≡ None → IsOk (answer_at sending state (happens event))
unfolding answer_at
answered_is sending state event taken = rw taken refl
