-- A plan holds the table's answer, and what follows it.
use Rattle.cfdp_types.specs.declared.limits.TheConstants.{FILE_OCTETS, JOURNAL_ENTRIES, JOURNAL_ENTRIES_KEPT, NAK_REQUESTS}
use Rattle.std.proofs.Common.{◌≡◌, ℕ, ◌+◌, ◌-◌, ◌<◌, ◌≤◌, Bool, true, false, not, ◌&&◌, ◌||◌, nat_lt, ◌==◌, if◌then◌else◌, List, [], ◌++◌, length, Option, Some, None, Ok, Err, Result, refl, sym, ap, ◌∙◌, arith, inl, inr}
use Rattle.std.proofs.Math.Path.{fun_ext}
use Rattle.std.proofs.lemmas.Bool.{leb-false, ltb-false, cases_Bool}
use Rattle.std.specs.Prelude.{IsOk, IfOk, map, is_some}
use Rattle.std.specs.declared.alloc.AllocError.{AllocError}
use Rattle.std.specs.List.{list_any}
use Rattle.cfdp_types.specs.Condition as condition
use Rattle.cfdp_types.specs.Params.{timer_length}
use Rattle.cfdp_types.specs.Steps.{operations, newer_or, older_or, is_kind, is_stamp}
use Rattle.cfdp_types.specs.declared.key.Deposit.{Deposit}
use Rattle.cfdp_types.specs.declared.names.TimerKind.{TimerKind}
use Rattle.cfdp_types.specs.declared.names.TimerKind.TheVariants.{Ack, Nak, Check, Inactivity}
use Rattle.cfdp_types.specs.declared.timer_op.TimerOp.{TimerOp}
use Rattle.txn_events.specs.Timers.{AreFew, stamp_of, tries_by, is_reset}
use Rattle.txn_events.proofs.AnswerLemmas.{answer_of_parts, same_answer}
use Rattle.txn_events.proofs.TimerLemmas.{armed_follows, counted}
use Rattle.indications.specs.Words.{is_end}
use Rattle.indications.specs.Words.{is_resumed, is_fault}
use Rattle.indications.specs.declared.indication.Indication.{Indication}
use Rattle.txn_events.specs.declared.event.What.{What}
use Rattle.txn_events.specs.declared.event.What.TheVariants as what
use Rattle.txn_events.specs.declared.refusal.Refusal.{Refusal}
use Rattle.txn_events.specs.declared.refusal.Refusal.TheVariants as refusal
use Rattle.txn_events.specs.Events.{is_of_other_class, is_stale_timer, needs_room, body_of_event, is_expiration}
use Rattle.pdu_values.specs.Pdu.{PduValue}
use Rattle.pdu_values.specs.declared.pdu.Body.{Body}
use Rattle.pdu_values.specs.declared.pdu.Body.TheVariants as body
use Rattle.pdu_values.specs.declared.bodies.Eof.{Eof}
use Rattle.pdu_values.specs.declared.bodies.Finished.{Finished}
use Rattle.pdu_values.specs.declared.bodies.Metadata.{Metadata}
use Rattle.receiver_table.specs.Reception.{Reception, State, step, is_storing, eof_of, finished_among, finished_in, tries_after, waiting_after, brings_more}
use Rattle.receiver_table.specs.Refusals.{refusal_at, is_stale_store, waits_for_store, is_misplaced, is_body_too_large, is_too_large, is_full}
use Rattle.receiver_table.specs.Answers as table
use Rattle.receiver_table.specs.Answers.{response_to, with_event, without_timers, with_timers, accepted_at, answer_at, effect_of, bodies_of, pdu_to_sender, nak_of, ack_of, if_there, if_so, requests_of}
use Rattle.receiver_parts.specs.ControlBlock.{state_from, bare, eof_size, IsSmall, IsSound}
use Rattle.receiver_parts.specs.Response.{IsResponse, response_value}
use Rattle.receiver_parts.specs.FileChange.{metadata_after, received_after, HasRoom, adds}
use Rattle.receiver_core.specs.Core.{shown, reception_of, now_state, IsChange, IsPlanOf, plan_answer}
use Rattle.receiver_parts.specs.Steps.{IsWithEvent}
use Rattle.receiver_core.specs.PlanParts.{HoldsResponse, effect_by, deposit_of}
use Rattle.receiver_parts.specs.declared.file_change.FileChange.{FileChange}
use Rattle.receiver_core.specs.declared.plan.Plan.{Plan}
use Rattle.receiver_core.specs.declared.receiver.ReceiverCore.{ReceiverCore}
use Rattle.receiver_parts.specs.declared.response.Response as response_type
use Rattle.receiver_parts.specs.declared.control.ControlBlock.{ControlBlock}
use Rattle.receiver_parts.proofs.ResponseLemmas.{response_is}

-- ---- states

made : ℕ → (ℕ → Option ℕ) → ℕ → Option Metadata → Option Bool → Option Eof → Option ℕ → Option Finished → Bool → (TimerKind → Option ℕ) → (TimerKind → ℕ) → Bool → State
made entries received progress metadata closure eof waiting finished paused armed tries ended = record {
  entries = entries;
  received = received;
  progress = progress;
  metadata = metadata;
  closure = closure;
  eof = eof;
  waiting = waiting;
  finished = finished;
  paused = paused;
  armed = armed;
  tries = tries;
  ended = ended;
}

same_made : (a b : State) → a.entries ≡ b.entries → a.received ≡ b.received → a.progress ≡ b.progress → a.metadata ≡ b.metadata → a.closure ≡ b.closure → a.eof ≡ b.eof → a.waiting ≡ b.waiting
    → a.finished ≡ b.finished → a.paused ≡ b.paused → a.armed ≡ b.armed → a.tries ≡ b.tries → a.ended ≡ b.ended
    → made a.entries a.received a.progress a.metadata a.closure a.eof a.waiting a.finished a.paused a.armed a.tries a.ended
    ≡ made b.entries b.received b.progress b.metadata b.closure b.eof b.waiting b.finished b.paused b.armed b.tries b.ended
same_made a b x1 x2 x3 x4 x5 x6 x7 x8 x9 x10 x11 x12 = cc

-- states whose segments are the same
pub same_state : (a b : State) → a.entries ≡ b.entries → ((i : ℕ) → a.received i ≡ b.received i) → a.progress ≡ b.progress → a.metadata ≡ b.metadata → a.closure ≡ b.closure → a.eof ≡ b.eof
    → a.waiting ≡ b.waiting → a.finished ≡ b.finished → a.paused ≡ b.paused → ((kind : TimerKind) → a.armed kind ≡ b.armed kind)
    → ((kind : TimerKind) → a.tries kind ≡ b.tries kind) → a.ended ≡ b.ended → a ≡ b
unfolding made
same_state a b x1 x2 x3 x4 x5 x6 x7 x8 x9 x10 x11 x12 = same_made a b x1 (fun_ext x2) x3 x4 x5 x6 x7 x8 x9 (fun_ext x10) (fun_ext x11) x12

or_false : (b : Bool) → (b || false) ≡ b
or_false true = refl
or_false false = refl

anew_same : (kind : TimerKind) (a b : Bool) → a ≡ b → is_reset (record { ack = false; nak = a }) kind ≡ (is_kind Nak kind && b)
anew_same Ack a b e = refl
anew_same Nak a b e = e
anew_same Check a b e = refl
anew_same Inactivity a b e = refl

tries_same : (state : State) (event : What) (inds : List Indication) (pdus : List PduValue) (timers : List TimerOp) (deposit : Option Deposit) (more : Bool) (kind : TimerKind)
    → more ≡ brings_more state (body_of_event event)
    → tries_by event inds (record { ack = false; nak = more }) kind (state.tries kind)
    ≡ tries_after state (record { event = event; answer = record { inds = inds; pdus = pdus; timers = timers; deposit = deposit } }) kind
tries_same state event inds pdus timers deposit more kind e =
    ap (λ x. if list_any is_resumed inds || (is_expiration kind event && list_any is_fault inds) || x then 0 else if is_expiration kind event then state.tries kind + 1 else state.tries kind)
    (anew_same kind more (brings_more state (body_of_event event)) e)

-- the state with the event
pub is_with_event : (core : ReceiverCore) (event : What) (c : FileChange) (now : ControlBlock) → IsWithEvent core.control event (adds c) now → IsChange core (body_of_event event) c
    → now_state core now c ≡ with_event (shown core) event
unfolding step
is_with_event core event c now is change =
    same_state (now_state core now c) _ is.entries
    change.received
    is.progress change.metadata is.closure is.eof is.waiting is.finished is.paused
    (λ kind. ap (λ a. stamp_of a kind) is.armed)
    (λ kind. is.tries kind ∙ tries_same (shown core) event [] [] [] None (adds c) kind change.more)
    (is.ended ∙ sym (or_false core.control.ended))

-- ---- the answer

effect_same : (r : table.Response) (a b : State) (event : What) (kind : TimerKind) → a.ended ≡ b.ended → a.waiting ≡ b.waiting → a.paused ≡ b.paused → a.finished ≡ b.finished
    → effect_of r a event kind ≡ effect_of r b event kind
effect_same r a b event kind e w p f = rw (e, w, p, f) refl

nak_not_finished : (state : State) → finished_in (nak_of state) ≡ None
nak_not_finished state =
    elim (cases_Bool (nat_lt NAK_REQUESTS (length (requests_of state)))) [
      | inl cut ↦ rw cut refl
      | inr whole ↦ rw whole refl
    ]

among : (reception : Reception) (a : Option ℕ) (n k : Bool) (f : Option Finished) (ended : Bool) (nb : Body) (progress : ℕ) → finished_in nb ≡ None
    → finished_among (map (pdu_to_sender reception) (if_there (ack_of ended) a ++ if_so n nb ++ if_so k (body.KeepAlive (record { progress = progress })) ++ if_there body.Finished f)) ≡ f
among reception None true true None ended nb progress e = rw e refl
among reception None true true (Some x) ended nb progress e = refl
among reception None true false None ended nb progress e = rw e refl
among reception None true false (Some x) ended nb progress e = refl
among reception None false true None ended nb progress e = refl
among reception None false true (Some x) ended nb progress e = refl
among reception None false false None ended nb progress e = refl
among reception None false false (Some x) ended nb progress e = refl
among reception (Some code) true true None ended nb progress e = rw e refl
among reception (Some code) true true (Some x) ended nb progress e = refl
among reception (Some code) true false None ended nb progress e = rw e refl
among reception (Some code) true false (Some x) ended nb progress e = refl
among reception (Some code) false true None ended nb progress e = refl
among reception (Some code) false true (Some x) ended nb progress e = refl
among reception (Some code) false false None ended nb progress e = refl
among reception (Some code) false false (Some x) ended nb progress e = refl

-- of the PDUs of a response only its Finished is one
finished_is : (reception : Reception) (state : State) (ended : Bool) (response : table.Response) → finished_among (map (pdu_to_sender reception) (bodies_of state ended response)) ≡ response.finished
finished_is reception state ended response = among reception response.ack response.nak response.keep_alive response.finished ended (nak_of state) state.progress (nak_not_finished state)

effects_are : (core : ReceiverCore) (event : What) (now : ControlBlock) (response : response_type.Response) (c : FileChange) (plan : Plan) → HoldsResponse core event now response c plan
    → effect_of (response_value response) (step (shown core) (record { event = event; answer = without_timers (reception_of core) (shown core) (now_state core now c) (response_value response) })) event ≡ effect_by plan.step.value.next event response
unfolding step
effects_are core event now response c plan planned =
    fun_ext (λ kind. effect_same (response_value response) (step (shown core) (record { event = event; answer = without_timers (reception_of core) (shown core) (now_state core now c) (response_value response) })) (bare plan.step.value.next) event kind
    (sym planned.next.ended) (sym planned.next.waiting) (sym planned.next.paused)
    (ap (λ f. newer_or f core.control.finished) (finished_is (reception_of core) (now_state core now c) (list_any is_end response.inds) (response_value response)) ∙ sym planned.next.finished))

pub accepted_is : (core : ReceiverCore) (event : What) (now : ControlBlock) (response : response_type.Response) (c : FileChange) (plan : Plan)
    → now_state core now c ≡ with_event (shown core) event → IsResponse response (response_to (reception_of core) (shown core) (now_state core now c) event) → HoldsResponse core event now response c plan
    → accepted_at (reception_of core) (shown core) event ≡ plan_answer plan
unfolding answer_of_parts
accepted_is core event now response c plan is_now is planned =
    let r : Reception = reception_of core in
    let f : State = shown core in
    let n : State = now_state core now c in
    ap (λ (st : State). with_timers r f event (response_to r f st event) (without_timers r f st (response_to r f st event))) (sym is_now)
    ∙ ap (λ (w : table.Response). with_timers r f event w (without_timers r f n w)) (sym (response_is response (response_to r f n event) is))
    ∙ same_answer response.inds plan.answer.inds _ plan.answer.pdus _ plan.answer.timers _ plan.answer.deposit
    (sym planned.inds) (sym planned.pdus)
    (ap (λ e. operations core.key (timer_length core.params.timers) core.control.entries e (stamp_of core.control.armed)) (effects_are core event now response c plan planned) ∙ sym planned.timers)
    (sym planned.deposit)

-- ---- the state that follows

pub follows : (core : ReceiverCore) (event : What) (now : ControlBlock) (response : response_type.Response) (c : FileChange) (plan : Plan)
    → IsWithEvent core.control event (adds c) now → IsChange core (body_of_event event) c → HoldsResponse core event now response c plan
    → state_from plan.step.value.next (metadata_after core.metadata plan.step.value.change) (received_after core.file plan.step.value.change) ≡ step (shown core) (record { event = event; answer = plan_answer plan })
unfolding step
follows core event now response c plan is change planned =
    let next = planned.next in
    let inds : response.inds ≡ plan.answer.inds = sym planned.inds in
    let finished : response.finished ≡ finished_among plan.answer.pdus =
    sym (ap finished_among planned.pdus ∙ finished_is (reception_of core) (now_state core now c) (list_any is_end response.inds) (response_value response)) in
    same_state (state_from plan.step.value.next (metadata_after core.metadata plan.step.value.change) (received_after core.file plan.step.value.change)) _
    (next.entries ∙ is.entries)
    (λ i. ap (λ x. received_after core.file x i) planned.change_is ∙ change.received i)
    (next.progress ∙ is.progress)
    (ap (λ x. metadata_after core.metadata x) planned.change_is ∙ change.metadata)
    (next.closure ∙ is.closure)
    (next.eof ∙ is.eof)
    (next.waiting ∙ ap (λ d. waiting_after core.control.waiting event d) (sym planned.deposit))
    (next.finished ∙ ap (λ f. newer_or f core.control.finished) finished)
    (rw inds at next.paused)
    (armed_follows core.key (timer_length core.params.timers) core.control.entries (effect_by plan.step.value.next event response) (stamp_of core.control.armed) (stamp_of plan.step.value.next.armed) plan.answer.timers planned.armed planned.timers)
    (λ kind. rw inds at (next.tries kind) ∙ tries_same (shown core) event plan.answer.inds plan.answer.pdus plan.answer.timers plan.answer.deposit (adds c) kind change.more)
    (rw inds at next.ended)

-- ---- what the code can hold

refused_not : {A : Type 0} (a b c d e f g : Bool) (t u v w x y z : A)
    → (if a then Some t else if b then Some u else if c then Some v else if d then Some w else if e then Some x else if f then Some y else if g then Some z else None) ≡ None
    → (c ≡ false) × (f ≡ false) × (g ≡ false)
refused_not true b c d e f g t u v w x y z h = absurd cc
refused_not false true c d e f g t u v w x y z h = absurd cc
refused_not false false true d e f g t u v w x y z h = absurd cc
refused_not false false false true e f g t u v w x y z h = absurd cc
refused_not false false false false true f g t u v w x y z h = absurd cc
refused_not false false false false false true g t u v w x y z h = absurd cc
refused_not false false false false false false true t u v w x y z h = absurd cc
refused_not false false false false false false false t u v w x y z h = (refl, refl, refl)

-- what is not refused answers no other deposit than the one that waits, is not too large, and has its room
pub taken_is : (reception : Reception) (front : State) (event : What) → refusal_at reception front event ≡ None
    → (is_stale_store front event ≡ false) × (is_too_large event ≡ false) × ((is_full front && needs_room event) ≡ false)
taken_is reception front event taken =
    refused_not (is_of_other_class reception.header.class event) (is_stale_timer front.armed event) (is_stale_store front event) (is_storing front && waits_for_store event) (is_misplaced reception front event)
    (is_too_large event) (is_full front && needs_room event) refusal.ModeMismatch refusal.StaleTimer refusal.StaleStored refusal.Storing refusal.WrongState refusal.TooLarge refusal.JournalFull taken

-- the room that is left
Leaves : State → What → Option Deposit → Type 0
Leaves front event deposit = (front.entries ≤ (JOURNAL_ENTRIES - JOURNAL_ENTRIES_KEPT)) × (is_some (waiting_after front.waiting event deposit) ≡ true → front.entries + 1 ≤ (JOURNAL_ENTRIES - JOURNAL_ENTRIES_KEPT))

and_true : (b : Bool) → (b && true) ≡ b
and_true true = refl
and_true false = refl

room : (front : State) (event : What) (deposit : Option Deposit) → (is_full front && true) ≡ false → Leaves front event deposit
unfolding Leaves
room front event deposit free =
    let below : front.entries < (JOURNAL_ENTRIES - JOURNAL_ENTRIES_KEPT) = leb-false (JOURNAL_ENTRIES - JOURNAL_ENTRIES_KEPT) front.entries (sym (and_true (is_full front)) ∙ free) in
    (omega (arith, below), λ waits. omega (arith, below))

asked : (waiting : Option ℕ) (stamp : ℕ) → not (is_stamp waiting stamp) ≡ false → is_some waiting ≡ true
asked None stamp e = absurd cc
asked (Some kept) stamp e = refl

ends_true : (b : Bool) → (b || true) ≡ true
ends_true true = refl
ends_true false = refl

goes_on : (reception : Reception) (front now : State) (event : What) (response : response_type.Response) (deposit : Option Deposit) (b : Bool) → refusal_at reception front event ≡ None
    → IsResponse response (response_to reception front now event) → (is_some front.waiting ≡ true → front.entries ≤ (JOURNAL_ENTRIES - JOURNAL_ENTRIES_KEPT)) → (b || list_any is_end response.inds) ≡ false → Leaves front event deposit
unfolding Leaves
goes_on reception front now (what.Pdu pdu) response deposit b taken is asks e = room front (what.Pdu pdu) deposit (taken_is reception front (what.Pdu pdu) taken).2
goes_on reception front now (what.Timer kind stamp) response deposit b taken is asks e = room front (what.Timer kind stamp) deposit (taken_is reception front (what.Timer kind stamp) taken).2
goes_on reception front now what.Pump response deposit b taken is asks e = room front what.Pump deposit (taken_is reception front what.Pump taken).2
goes_on reception front now what.Cancel response deposit b taken is asks e = room front what.Cancel deposit (taken_is reception front what.Cancel taken).2
goes_on reception front now what.Suspend response deposit b taken is asks e = room front what.Suspend deposit (taken_is reception front what.Suspend taken).2
goes_on reception front now what.Resume response deposit b taken is asks e = room front what.Resume deposit (taken_is reception front what.Resume taken).2
goes_on reception front now what.Report response deposit b taken is asks e = room front what.Report deposit (taken_is reception front what.Report taken).2
goes_on reception front now what.Abandon response deposit b taken is asks e =
    let ends : (b || true) ≡ false = rw is.inds at e in
    let yes : (b || true) ≡ true = ends_true b in absurd cc
goes_on reception front now (what.Stored stamp kept) response deposit b taken is asks e =
    (asks (asked front.waiting stamp (taken_is reception front (what.Stored stamp kept) taken).0), λ waits. absurd cc)

-- an EOF that is not refused is one of a file that is taken
small_if : (fine : Bool) (e : Eof) → (fine && nat_lt FILE_OCTETS e.size) ≡ false → eof_size (if fine then Some e else None) ≤ FILE_OCTETS
small_if true e is = ltb-false FILE_OCTETS e.size is
small_if false e is = omega arith

eof_small : (event : What) → is_too_large event ≡ false → eof_size (eof_of (body_of_event event)) ≤ FILE_OCTETS
eof_small (what.Pdu pdu) is = by_body pdu.body is
  where
    by_body : (b : Body) → is_body_too_large b ≡ false → eof_size (eof_of (Some b)) ≤ FILE_OCTETS
    by_body (body.Eof e) is = small_if (e.condition == condition.no_error) e is
    by_body (body.Metadata m) is = omega arith
    by_body (body.FileData d) is = omega arith
    by_body (body.Prompt p) is = omega arith
    by_body (body.Ack a) is = omega arith
    by_body (body.Finished f) is = omega arith
    by_body (body.Nak n) is = omega arith
    by_body (body.KeepAlive k) is = omega arith
eof_small (what.Timer kind stamp) is = omega arith
eof_small (what.Stored stamp kept) is = omega arith
eof_small what.Cancel is = omega arith
eof_small what.Suspend is = omega arith
eof_small what.Resume is = omega arith
eof_small what.Report is = omega arith
eof_small what.Abandon is = omega arith
eof_small what.Pump is = omega arith

older_small : (old new : Option Eof) → eof_size old ≤ FILE_OCTETS → eof_size new ≤ FILE_OCTETS → eof_size (older_or old new) ≤ FILE_OCTETS
older_small None new first second = second
older_small (Some e) new first second = first

pub small_now : (core : ReceiverCore) (event : What) (more : Bool) (now : ControlBlock) → refusal_at (reception_of core) (shown core) event ≡ None
    → IsWithEvent core.control event more now → IsSmall now
small_now core event more now taken is =
    rw is.eof (older_small core.control.eof _ core.sound.small (eof_small event (taken_is (reception_of core) (shown core) event taken).1))

pub sound_after : (core : ReceiverCore) (event : What) (now : ControlBlock) (response : response_type.Response) (c : FileChange) (plan : Plan) → refusal_at (reception_of core) (shown core) event ≡ None
    → IsWithEvent core.control event (adds c) now → IsResponse response (response_to (reception_of core) (shown core) (now_state core now c) event) → HoldsResponse core event now response c plan
    → core.control.ended ≡ false → IsSound plan.step.value.next
unfolding Leaves
sound_after core event now response c plan taken seen_is is planned runs =
    let next = planned.next in
    let old : AreFew core.control.entries core.control.tries = core.sound.few in
    let more : core.control.entries + 1 ≤ JOURNAL_ENTRIES = core.sound.goes_on runs in
    let entries : plan.step.value.next.entries ≡ core.control.entries + 1 = next.entries ∙ seen_is.entries in
    record {
      small = rw next.eof (small_now core event (adds c) now taken seen_is);
      few = record {
        entries = omega (arith, entries, more);
        tries = record {
          ack = rw (next.tries Ack, entries) (counted _ _ core.control.tries.ack core.control.entries old.tries.ack);
          nak = rw (next.tries Nak, entries) (counted _ _ core.control.tries.nak core.control.entries old.tries.nak);
          check = rw (next.tries Check, entries) (counted _ _ core.control.tries.check core.control.entries old.tries.check);
          inactivity = rw (next.tries Inactivity, entries) (counted _ _ core.control.tries.inactivity core.control.entries old.tries.inactivity);
        };
      };
      goes_on = λ e.
          let leaves = goes_on (reception_of core) (shown core) (now_state core now c) event response (deposit_of core response) core.control.ended taken is (core.sound.asks runs) (sym next.ended ∙ e) in
          omega (arith, entries, leaves.0);
      asks = λ e waits.
          let leaves = goes_on (reception_of core) (shown core) (now_state core now c) event response (deposit_of core response) core.control.ended taken is (core.sound.asks runs) (sym next.ended ∙ e) in
          let low : core.control.entries + 1 ≤ (JOURNAL_ENTRIES - JOURNAL_ENTRIES_KEPT) = leaves.1 (ap is_some (sym next.waiting) ∙ waits) in
          omega (arith, entries, low);
    }

pub is_plan : (core : ReceiverCore) (event : What) (now : ControlBlock) (response : response_type.Response) (c : FileChange) (plan : Plan) → refusal_at (reception_of core) (shown core) event ≡ None
    → IsWithEvent core.control event (adds c) now → IsChange core (body_of_event event) c → HasRoom core.file c
    → IsResponse response (response_to (reception_of core) (shown core) (now_state core now c) event) → HoldsResponse core event now response c plan → IsPlanOf core plan event
unfolding answer_at
is_plan core event now response c plan taken seen_is change room is planned = record {
  answered = record {
    accepted = rw taken (ap Ok (accepted_is core event now response c plan (is_with_event core event c now seen_is change) is planned));
    follows = follows core event now response c plan seen_is change planned;
  };
  fits = rw planned.change_is change.fits;
  room = rw planned.change_is room;
  sound = sound_after core event now response c plan taken seen_is is planned;
}

pub refused_is : (reception : Reception) (state : State) (event : What) (why : Refusal) → refusal_at reception state event ≡ Some why → answer_at reception state event ≡ Err why
unfolding answer_at
refused_is reception state event why is = rw is refl

pub answered_is : (reception : Reception) (state : State) (event : What) → refusal_at reception state event ≡ None → IsOk (answer_at reception state event)
unfolding answer_at
answered_is reception state event taken = rw taken refl

pub is_plan_if : (core : ReceiverCore) (event : What) (now : ControlBlock) (response : response_type.Response) (c : FileChange) (result : Result Plan AllocError) → refusal_at (reception_of core) (shown core) event ≡ None
    → IsWithEvent core.control event (adds c) now → IsChange core (body_of_event event) c → HasRoom core.file c
    → IsResponse response (response_to (reception_of core) (shown core) (now_state core now c) event) → IfOk result (λ plan. HoldsResponse core event now response c plan) → IfOk result (λ plan. IsPlanOf core plan event)
is_plan_if core event now response c (Ok plan) taken seen_is change room is planned = is_plan core event now response c plan taken seen_is change room is planned
is_plan_if core event now response c (Err e) taken seen_is change room is planned = tt
