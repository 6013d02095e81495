-- What each event that is taken is answered keeps what fits together.
use Rattle.std.proofs.Common.{◌≡◌, ℕ, ◌+◌, Bool, true, false, cond, not, ◌||◌, ◌&&◌, if◌then◌else◌, eqb, List, [], ◌∷◌, length, Option, Some, None, refl, sym, ap, subst, ◌∙◌, inl, inr}
use Rattle.std.specs.Prelude.{is_some}
use Rattle.std.specs.List.{list_any}
use Rattle.std.proofs.lemmas.Bool.{cond_both, ltb-false, not-false, true≢false}
use Rattle.std.proofs.Math.Bool.{or-false}
use Rattle.cfdp_types.specs.Condition as condition
use Rattle.cfdp_types.specs.Steps.{is_kind, newer_or}
use Rattle.cfdp_types.specs.declared.limits.TheConstants.{FILE_OCTETS}
use Rattle.cfdp_types.specs.declared.names.Class.{Class}
use Rattle.cfdp_types.specs.declared.names.Class.TheVariants.{One, Two}
use Rattle.cfdp_types.specs.declared.names.Delivery.{Delivery}
use Rattle.cfdp_types.specs.declared.names.Delivery.TheVariants.{Complete, Incomplete}
use Rattle.cfdp_types.specs.declared.names.FileStatus.{FileStatus}
use Rattle.cfdp_types.specs.declared.names.FileStatus.TheVariants.{Discarded, Retained}
use Rattle.cfdp_types.specs.declared.names.TimerKind.{TimerKind}
use Rattle.cfdp_types.specs.declared.names.TimerKind.TheVariants.{Ack, Nak, Check, Inactivity}
use Rattle.pdu_values.specs.declared.pdu.Header.{Header}
use Rattle.pdu_values.specs.declared.pdu.Body.{Body}
use Rattle.pdu_values.specs.declared.pdu.Body.TheVariants as body
use Rattle.pdu_values.specs.declared.bodies.Eof.{Eof}
use Rattle.pdu_values.specs.declared.bodies.Finished.{Finished}
use Rattle.pdu_values.specs.declared.bodies.Prompt.{Prompt}
use Rattle.pdu_values.specs.declared.bodies.Prompt.TheVariants as prompt
use Rattle.txn_events.specs.declared.event.What.{What}
use Rattle.txn_events.specs.declared.event.What.TheVariants as what
use Rattle.txn_events.specs.declared.refusal.Refusal.TheVariants as refusal
use Rattle.txn_events.specs.Events.{is_two, is_of_other_class, is_stale_timer, needs_room, body_of_event}
use Rattle.indications.specs.declared.indication.Indication.{Indication}
use Rattle.indications.specs.declared.indication.Indication.TheVariants as told
use Rattle.indications.specs.Words.{MayFinish, IsFilled}
use Rattle.receiver_table.specs.Reception.{Reception, State, step, is_closing, is_storing, is_suspended, waiting_after, metadata_of, eof_of, file_data_of}
use Rattle.receiver_table.specs.Refusals.{refusal_at, is_stale_store, waits_for_store, is_pdu_misplaced, is_misplaced, is_body_too_large, is_too_large, is_full}
use Rattle.receiver_table.specs.Answers.{nothing, tells, with_event, asks_closure, finish_response, fault_response, cancel_response, examines, acknowledges, on_eof, on_prompt, ends_as_finished, on_body, is_below, on_timer, on_stored, response_to, ◌and_then◌}
use Rattle.receiver_laws.proofs.ReceptionFacts.{Fits, Goes, RowGoes, GoodWith, IsGoodFile, BringsNothing, Still, still_goes, Announces, open_goes, good_kept, finish_kept, is_complete, reached_then}
use Rattle.receiver_laws.proofs.ReceptionLate.{late_one, plain_suspended, incomplete_late, fault_late, examined_late}
use Rattle.receiver_laws.proofs.ReceptionTelling.{metadata_goes, data_goes, eof_goes}
use Rattle.receiver_laws.proofs.ReceptionSilent.{silent_goes, incomplete_still, bodiless_brings, bodiless_announced, bodiless_goes, opened_is, suspended_is, runs_only, none_is, stamped, not_stored}

-- ---- the end that a Finished PDU said

-- what stands before it, and what it is told of
ends_by : (front : State) (before : List Indication) (f : Finished) (delivery : Delivery) → Fits front before → front.finished ≡ Some f
    → f.delivery ≡ delivery
    → MayFinish before delivery
    × (list_any is_complete (told.TransactionFinished f.condition delivery f.status ∷ []) ≡ true
    → IsGoodFile front.metadata front.eof front.received)
ends_by front before f Complete was is said = let c = was.closes f is said in (c.1, λ e. c.0)
ends_by front before f Incomplete was is said = (tt, λ e. absurd cc)

ends_still : (front : State) (before : List Indication) (f : Finished) → Fits front before → front.ended ≡ false → front.finished ≡ Some f
    → Still front before (told.TransactionFinished f.condition f.delivery f.status ∷ []) None
ends_still front before f was runs is =
    let by = ends_by front before f f.delivery was is refl in
    record {
      follows = (was.ended ∙ runs, by.0, tt);
      no_metadata = refl;
      no_eof = refl;
      no_octets = λ i. refl;
      same_finished = refl;
      same_paused = refl;
      completes = by.1;
    }

ends_none : (state : State) → state.finished ≡ None → ends_as_finished state ≡ nothing
ends_none state is = rw is refl

ends_some : (state : State) (f : Finished) → state.finished ≡ Some f
    → ends_as_finished state ≡ tells (told.TransactionFinished f.condition f.delivery f.status ∷ [])
ends_some state f is = rw is refl

ends_goes : (front : State) (event : What) (before : List Indication) (o : Option Finished) → Fits front before → front.ended ≡ false
    → BringsNothing front event
    → front.finished ≡ o → Goes front event before (ends_as_finished front)
ends_goes front event before None was runs brings is =
    subst (Goes front event before) (sym (ends_none front is)) (silent_goes front event before was brings)
ends_goes front event before (Some f) was runs brings is =
    subst (Goes front event before) (sym (ends_some front f is)) (still_goes front event before _ None was brings (ends_still front before f was runs is))

-- ---- PDUs

acknowledged_goes : (reception : Reception) (front : State) (event : What) (code : ℕ) (before : List Indication) → Fits front before
    → BringsNothing front event
    → Goes front event before (acknowledges reception code)
acknowledged_goes reception front event code before was brings =
    cond_both (is_two reception.header.class) (record nothing { ack = Some code }) nothing (Goes front event before)
    (λ two. silent_goes front event before was brings) (λ one. silent_goes front event before was brings)

-- an EOF with an error
error_goes : (reception : Reception) (front : State) (event : What) (code : ℕ) (before : List Indication) → Fits front before
    → front.ended ≡ false
    → BringsNothing front event
    → Goes front event before (tells (told.TransactionFinished code Incomplete Discarded ∷ []) and_then acknowledges reception code)
error_goes reception front event code before was runs brings =
    let first = tells (told.TransactionFinished code Incomplete Discarded ∷ []) in
    let goes = still_goes front event before _ None was brings (incomplete_still front before code Discarded (was.ended ∙ runs)) in
    cond_both (is_two reception.header.class) (record nothing { ack = Some code }) nothing (λ next. Goes front event before (first and_then next))
    (λ two. goes) (λ one. goes)

closing_brings : (front : State) (header : Header) (e : Eof) → is_closing front ≡ true
    → BringsNothing front (what.Pdu (record { header = header; body = body.Eof e }))
closing_brings front header e closing = record {
  no_metadata = refl;
  no_eof = λ opened. absurd (true≢false (sym closing ∙ ap (λ f. is_some f && not front.ended) opened));
  no_data = refl;
  waits = λ waiting. waiting;
}

error_brings : (front : State) (header : Header) (e : Eof) → eqb e.condition condition.no_error ≡ false
    → BringsNothing front (what.Pdu (record { header = header; body = body.Eof e }))
error_brings front header e error = record { no_metadata = refl; no_eof = λ opened. rw error refl; no_data = refl; waits = λ waiting. waiting }

eof_event_goes : (reception : Reception) (front : State) (header : Header) (e : Eof) (before : List Indication) → Fits front before
    → front.ended ≡ false
    → is_some front.waiting ≡ false
    → Goes front (what.Pdu (record { header = header; body = body.Eof e })) before
    (on_eof reception front (with_event front (what.Pdu (record { header = header; body = body.Eof e }))) e)
eof_event_goes reception front header e before was runs idle =
    let event = what.Pdu (record { header = header; body = body.Eof e }) in
    cond_both (is_closing front) _ _ (Goes front event before)
    (λ closing. acknowledged_goes reception front event e.condition before was (closing_brings front header e closing))
    (λ not_closing. cond_both (eqb e.condition condition.no_error) _ _ (Goes front event before)
    (λ fine. eof_goes reception front header e before was runs (opened_is front.finished front.ended runs not_closing) idle fine)
    (λ error. error_goes reception front event e.condition before was runs (error_brings front header e error)))

prompt_goes : (front : State) (event : What) (p : Prompt) (before : List Indication) → Fits front before → BringsNothing front event
    → Goes front event before (on_prompt (with_event front event) p)
prompt_goes front event prompt.Nak before was brings =
    cond_both (is_suspended (with_event front event)) nothing (record nothing { nak = true }) (Goes front event before)
    (λ suspended. silent_goes front event before was brings) (λ goes. silent_goes front event before was brings)
prompt_goes front event prompt.KeepAlive before was brings = silent_goes front event before was brings

plain_brings : (front : State) (header : Header) (b : Body) → metadata_of (Some b) ≡ None → eof_of (Some b) ≡ None
    → file_data_of (Some b) ≡ None
    → BringsNothing front (what.Pdu (record { header = header; body = b }))
plain_brings front header b metadata eof data_of = record { no_metadata = metadata; no_eof = λ opened. eof; no_data = data_of; waits = λ waiting. waiting }

body_goes : (reception : Reception) (front : State) (header : Header) (b : Body) (before : List Indication) → Fits front before
    → front.ended ≡ false
    → is_some front.waiting ≡ false → is_pdu_misplaced reception front b ≡ false → is_body_too_large b ≡ false
    → Goes front (what.Pdu (record { header = header; body = b })) before
    (on_body reception front (with_event front (what.Pdu (record { header = header; body = b }))) b)
body_goes reception front header (body.Metadata m) before was runs idle placed small =
    metadata_goes reception front header m before was runs (opened_is front.finished front.ended runs placed) idle
body_goes reception front header (body.FileData d) before was runs idle placed small =
    data_goes reception front header d before was runs (opened_is front.finished front.ended runs placed) idle
    (ltb-false FILE_OCTETS (d.offset + length d.octets) small)
body_goes reception front header (body.Eof e) before was runs idle placed small = eof_event_goes reception front header e before was runs idle
body_goes reception front header (body.Prompt p) before was runs idle placed small =
    prompt_goes front (what.Pdu (record { header = header; body = body.Prompt p })) p before was (plain_brings front header (body.Prompt p) refl refl refl)
body_goes reception front header (body.Ack a) before was runs idle placed small =
    ends_goes front (what.Pdu (record { header = header; body = body.Ack a })) before front.finished was runs
    (plain_brings front header (body.Ack a) refl refl refl) refl
body_goes reception front header (body.Finished f) before was runs idle placed small = absurd cc
body_goes reception front header (body.Nak n) before was runs idle placed small = absurd cc
body_goes reception front header (body.KeepAlive k) before was runs idle placed small = absurd cc

-- ---- timers

newer_or-same : {A : Type 0} (o : Option A) → newer_or o o ≡ o
newer_or-same None = refl
newer_or-same (Some x) = refl

again_still : (front : State) (before : List Indication) → Still front before [] front.finished
again_still front before = record {
  follows = tt;
  no_metadata = refl;
  no_eof = refl;
  no_octets = λ i. refl;
  same_finished = newer_or-same front.finished;
  same_paused = refl;
  completes = λ e. absurd cc;
}

-- a fault of a timer that runs
timer_fault : (reception : Reception) (front : State) (kind : TimerKind) (stamp code : ℕ) (before : List Indication) → Fits front before
    → front.ended ≡ false
    → is_some front.waiting ≡ false → is_some (front.armed kind) ≡ true → is_kind Ack kind ≡ false
    → Goes front (what.Timer kind stamp) before (fault_response reception (with_event front (what.Timer kind stamp)) (kind ∷ []) code)
timer_fault reception front kind stamp code before was runs idle armed apart =
    let event = what.Timer kind stamp in
    let phase = runs_only front before kind was apart armed front.paused (is_some front.finished) refl refl in
    let response = fault_response reception (with_event front event) (kind ∷ []) code in
    bodiless_goes front event before response was runs (none_is front.finished phase.1) idle refl
    (fault_late reception (with_event front event) (kind ∷ []) code (GoodWith front event) before (was.paused ∙ phase.0) (was.ended ∙ runs))

timer_goes : (reception : Reception) (front : State) (kind : TimerKind) (stamp : ℕ) (before : List Indication) → Fits front before
    → front.ended ≡ false
    → is_some front.waiting ≡ false → is_some (front.armed kind) ≡ true
    → Goes front (what.Timer kind stamp) before (on_timer reception front (with_event front (what.Timer kind stamp)) kind)
timer_goes reception front Nak stamp before was runs idle armed =
    let event = what.Timer Nak stamp in
    let brings = bodiless_brings front event refl (λ waiting. waiting) in
    cond_both (is_below front Nak reception.params.limits.nak) _ _ (Goes front event before)
    (λ below. silent_goes front event before was brings)
    (λ limit. timer_fault reception front Nak stamp condition.nak_limit before was runs idle armed refl)
timer_goes reception front Check stamp before was runs idle armed =
    let event = what.Timer Check stamp in
    let brings = bodiless_brings front event refl (λ waiting. waiting) in
    cond_both (is_below front Check reception.params.limits.check) _ _ (Goes front event before)
    (λ below. silent_goes front event before was brings)
    (λ limit. timer_fault reception front Check stamp condition.check_limit before was runs idle armed refl)
timer_goes reception front Ack stamp before was runs idle armed =
    let event = what.Timer Ack stamp in
    let brings = bodiless_brings front event refl (λ waiting. waiting) in
    cond_both (is_below front Ack reception.params.limits.ack) _ _ (Goes front event before)
    (λ below. still_goes front event before [] front.finished was brings (again_still front before))
    (λ limit. ends_goes front event before front.finished was runs brings refl)
timer_goes reception front Inactivity stamp before was runs idle armed =
    timer_fault reception front Inactivity stamp condition.inactivity before was runs idle armed refl

-- ---- the file store's answer

-- of a good file the user was told all
may_complete : (front : State) (before : List Indication) → Fits front before → front.finished ≡ None
    → IsGoodFile front.metadata front.eof front.received → MayFinish before Complete
may_complete front before was opened good =
    let filled : IsFilled before = (
      good.eof.size,
      λ i. (λ there. good.none_beyond i (sym (was.octets_told i) ∙ there), λ below. was.octets_told i ∙ good.none_missing i below),
    ) in
    (was.metadata_told ∙ ap is_some good.metadata_came, was.eof_told opened ∙ ap is_some good.eof_came, filled)

-- class 1 tells it at once
told_complete : (front : State) (before : List Indication) (code : ℕ) (status : FileStatus) → Fits front before → front.ended ≡ false
    → front.finished ≡ None
    → IsGoodFile front.metadata front.eof front.received → Still front before (told.TransactionFinished code Complete status ∷ []) None
told_complete front before code status was runs opened good = record {
  follows = (was.ended ∙ runs, may_complete front before was opened good, tt);
  no_metadata = refl;
  no_eof = refl;
  no_octets = λ i. refl;
  same_finished = refl;
  same_paused = refl;
  completes = λ e. good;
}

-- class 2 sends it first
sent_complete : (front : State) (event : What) (before : List Indication) (f : Finished) → Fits front before → front.finished ≡ None
    → BringsNothing front event
    → is_some (waiting_after front.waiting event None) ≡ false → IsGoodFile front.metadata front.eof front.received
    → RowGoes front event before [] (Some f) false
sent_complete front event before f was opened brings idle good =
    let goes = silent_goes front event before was brings in
    let b = body_of_event event in
    let kept : GoodWith front event = good_kept front.metadata (metadata_of b) front.eof (eof_of b) front.received (file_data_of b) brings.no_data good in
    record {
      follows = tt;
      metadata_told = goes.metadata_told;
      eof_told = λ none. absurd cc;
      octets_told = goes.octets_told;
      waits = λ some. elim (some) [ inl handed ↦ absurd cc | inr waiting ↦ absurd (true≢false (sym waiting ∙ idle)) ];
      closes = λ other is complete. (kept, may_complete front before was opened good);
      completes = λ e. absurd cc;
    }

-- class 1 tells it and sends it too, where the sender asks for that
both_complete : (front : State) (event : What) (before : List Indication) (code : ℕ) (status : FileStatus) (f : Finished) → Fits front before
    → front.ended ≡ false → front.finished ≡ None → BringsNothing front event
    → is_some (waiting_after front.waiting event None) ≡ false → IsGoodFile front.metadata front.eof front.received
    → RowGoes front event before (told.TransactionFinished code Complete status ∷ []) (Some f) false
both_complete front event before code status f was runs opened brings idle good =
    let goes = still_goes front event before _ None was brings (told_complete front before code status was runs opened good) in
    let b = body_of_event event in
    let kept : GoodWith front event = good_kept front.metadata (metadata_of b) front.eof (eof_of b) front.received (file_data_of b) brings.no_data good in
    record {
      follows = goes.follows;
      metadata_told = goes.metadata_told;
      eof_told = λ none. absurd cc;
      octets_told = goes.octets_told;
      waits = λ some. elim (some) [ inl handed ↦ absurd cc | inr waiting ↦ absurd (true≢false (sym waiting ∙ idle)) ];
      closes = λ other is complete. (kept, finish_kept before (told.TransactionFinished code Complete status ∷ []) (may_complete front before was opened good) (λ i. refl));
      completes = goes.completes;
    }

-- by whether it is asked for
one_complete : (front : State) (event : What) (before : List Indication) (code : ℕ) (status : FileStatus) (f : Finished) (asked : Bool) → Fits front before
    → front.ended ≡ false → front.finished ≡ None → BringsNothing front event
    → is_some (waiting_after front.waiting event None) ≡ false → IsGoodFile front.metadata front.eof front.received
    → RowGoes front event before (told.TransactionFinished code Complete status ∷ []) (if asked then Some f else None) false
one_complete front event before code status f true was runs opened brings idle good =
    both_complete front event before code status f was runs opened brings idle good
one_complete front event before code status f false was runs opened brings idle good =
    still_goes front event before _ None was brings (told_complete front before code status was runs opened good)

complete_goes : (reception : Reception) (front now : State) (event : What) (code : ℕ) (status : FileStatus) (before : List Indication) (class : Class)
    → reception.header.class ≡ class → Fits front before → front.ended ≡ false → front.finished ≡ None → BringsNothing front event
    → is_some (waiting_after front.waiting event None) ≡ false → IsGoodFile front.metadata front.eof front.received
    → Goes front event before (finish_response reception now code Complete status)
complete_goes reception front now event code status before One e was runs opened brings idle good =
    rw e (one_complete front event before code status _ (asks_closure now) was runs opened brings idle good)
complete_goes reception front now event code status before Two e was runs opened brings idle good =
    rw e (sent_complete front event before _ was opened brings idle good)

stored_goes : (reception : Reception) (front : State) (stamp : ℕ) (kept : Bool) (before : List Indication) → Fits front before
    → front.ended ≡ false
    → is_some front.waiting ≡ true
    → Goes front (what.Stored stamp kept) before (on_stored reception (with_event front (what.Stored stamp kept)) kept)
stored_goes reception front stamp true before was runs waiting =
    let event = what.Stored stamp true in
    let w = was.waits waiting in
    complete_goes reception front (with_event front event) event condition.no_error Retained before reception.header.class refl was runs (w.2)
    (bodiless_brings front event refl (λ still. waiting)) refl (w.0)
stored_goes reception front stamp false before was runs waiting =
    let event = what.Stored stamp false in
    let w = was.waits waiting in
    let response = fault_response reception (with_event front event) [] condition.filestore_rejection in
    bodiless_goes front event before response was runs (w.2) refl refl
    (fault_late reception (with_event front event) [] condition.filestore_rejection (GoodWith front event) before (was.paused ∙ w.1) (was.ended ∙ runs))

-- ---- the user's requests

cancel_goes : (reception : Reception) (front : State) (before : List Indication) → Fits front before → front.ended ≡ false
    → is_some front.waiting ≡ false
    → is_closing front ≡ false → Goes front what.Cancel before (cancel_response reception (with_event front what.Cancel) condition.cancel_request)
cancel_goes reception front before was runs idle placed =
    bodiless_goes front what.Cancel before (cancel_response reception (with_event front what.Cancel) condition.cancel_request) was runs (opened_is front.finished front.ended runs placed) idle refl
    (incomplete_late reception (with_event front what.Cancel) condition.cancel_request _ _ before (was.ended ∙ runs))

-- suspended only where it is not
may_suspend : (two paused ended : Bool) (finished : Option Finished) → ended ≡ false
    → ((not two || ((paused && not (is_some finished)) && not ended)) || (is_some finished && not ended)) ≡ false
    → (paused ≡ false) × (finished ≡ None)
may_suspend two paused true finished lives e = absurd cc
may_suspend false paused false finished lives e = absurd cc
may_suspend true true false None lives e = absurd cc
may_suspend true true false (Some f) lives e = absurd cc
may_suspend true false false None lives e = (refl, refl)
may_suspend true false false (Some f) lives e = absurd cc

suspend_goes : (reception : Reception) (front : State) (before : List Indication) → Fits front before → front.ended ≡ false
    → is_some front.waiting ≡ false
    → is_misplaced reception front what.Suspend ≡ false
    → Goes front what.Suspend before (tells (told.Suspended condition.suspend_request ∷ []))
suspend_goes reception front before was runs idle placed =
    let phase = may_suspend (is_two reception.header.class) front.paused front.ended front.finished runs placed in
    bodiless_goes front what.Suspend before (tells (told.Suspended condition.suspend_request ∷ [])) was runs (phase.1) idle refl
    (late_one _ before _ (was.ended ∙ runs) (was.paused ∙ phase.0) (plain_suspended condition.suspend_request))

resumed_announced : (front : State) (progress : ℕ) (before : List Indication) → Fits front before → front.ended ≡ false
    → front.finished ≡ None → front.paused ≡ true
    → Announces front what.Resume before (told.Resumed progress ∷ [])
resumed_announced front progress before was runs opened paused =
    let none = bodiless_announced front what.Resume before was runs opened refl in
    record {
      follows = (was.ended ∙ runs, was.paused ∙ paused, tt);
      metadata_told = none.metadata_told;
      eof_told = none.eof_told;
      octets_told = none.octets_told;
      runs = none.runs;
    }

resume_goes : (reception : Reception) (front : State) (before : List Indication) → Fits front before → front.ended ≡ false
    → is_some front.waiting ≡ false
    → is_misplaced reception front what.Resume ≡ false
    → Goes front what.Resume before (response_to reception front (with_event front what.Resume) what.Resume)
unfolding step
resume_goes reception front before was runs idle placed =
    let now = with_event front what.Resume in
    let phase = suspended_is front.paused front.finished front.ended (not-false _ placed) in
    let resumed = told.Resumed now.progress in
    let after = record now { paused = false } in
    open_goes front what.Resume before (resumed ∷ []) (examines reception after) was runs (phase.1) idle
    (resumed_announced front now.progress before was runs (phase.1) (phase.0))
    (examined_late reception after (resumed ∷ before) refl (phase.1) (or-false front.ended ∙ runs)
    (λ i there. reached_then (front.received i) front.progress None i (was.reached i) there)
    (was.ended ∙ runs))

-- what is told in any phase
report_goes : (front : State) (event : What) (before : List Indication) (x : Indication) → Fits front before → BringsNothing front event
    → Still front before (x ∷ []) None → Goes front event before (tells (x ∷ []))
report_goes front event before x was brings still = still_goes front event before (x ∷ []) None was brings still

-- ---- all events

-- what a chain of tests that finds nothing says
abbrev NoneOf : Bool → Bool → Bool → Bool → Bool → Bool → Bool → Type 0
NoneOf a b c d e f g = (a ≡ false) × (b ≡ false) × (c ≡ false) × (d ≡ false) × (e ≡ false) × (f ≡ false) × (g ≡ false)

none_of : (a b c d e f g : Bool)
    → cond a (Some refusal.ModeMismatch) (cond b (Some refusal.StaleTimer) (cond c (Some refusal.StaleStored) (cond d (Some refusal.Storing)
    (cond e (Some refusal.WrongState) (cond f (Some refusal.TooLarge) (cond g (Some refusal.JournalFull) None)))))) ≡ None
    → NoneOf a b c d e f g
none_of true b c d e f g h = absurd cc
none_of false true c d e f g h = absurd cc
none_of false false true d e f g h = absurd cc
none_of false false false true e f g h = absurd cc
none_of false false false false true f g h = absurd cc
none_of false false false false false true g h = absurd cc
none_of false false false false false false true h = absurd cc
none_of false false false false false false false h = (refl, refl, refl, refl, refl, refl, refl)

not_refused : (reception : Reception) (front : State) (event : What) → refusal_at reception front event ≡ None
    → NoneOf (is_of_other_class reception.header.class event) (is_stale_timer front.armed event) (is_stale_store front event)
    (is_storing front && waits_for_store event) (is_misplaced reception front event) (is_too_large event) (is_full front && needs_room event)
not_refused reception front event h =
    none_of (is_of_other_class reception.header.class event) (is_stale_timer front.armed event) (is_stale_store front event)
    (is_storing front && waits_for_store event) (is_misplaced reception front event) (is_too_large event) (is_full front && needs_room event) h

pub row_goes : (reception : Reception) (front : State) (event : What) (before : List Indication) → Fits front before → front.ended ≡ false
    → refusal_at reception front event ≡ None → Goes front event before (response_to reception front (with_event front event) event)
row_goes reception front (what.Pdu pdu) before was runs taken =
    let tests = not_refused reception front (what.Pdu pdu) taken in
    body_goes reception front pdu.header pdu.body before was runs (not_stored _ tests.3) tests.4 tests.5
row_goes reception front (what.Timer kind stamp) before was runs taken =
    let tests = not_refused reception front (what.Timer kind stamp) taken in
    timer_goes reception front kind stamp before was runs (not_stored _ tests.3) (stamped (front.armed kind) stamp tests.1)
row_goes reception front (what.Stored stamp kept) before was runs taken =
    let tests = not_refused reception front (what.Stored stamp kept) taken in
    stored_goes reception front stamp kept before was runs (stamped front.waiting stamp tests.2)
row_goes reception front what.Cancel before was runs taken =
    let tests = not_refused reception front what.Cancel taken in
    cancel_goes reception front before was runs (not_stored _ tests.3) tests.4
row_goes reception front what.Suspend before was runs taken =
    let tests = not_refused reception front what.Suspend taken in
    suspend_goes reception front before was runs (not_stored _ tests.3) tests.4
row_goes reception front what.Resume before was runs taken =
    let tests = not_refused reception front what.Resume taken in
    resume_goes reception front before was runs (not_stored _ tests.3) tests.4
row_goes reception front what.Report before was runs taken =
    report_goes front what.Report before _ was (bodiless_brings front what.Report refl (λ waiting. waiting)) (record {
      follows = (was.ended ∙ runs, tt, tt);
      no_metadata = refl;
      no_eof = refl;
      no_octets = λ i. refl;
      same_finished = refl;
      same_paused = refl;
      completes = λ e. absurd cc;
    })
row_goes reception front what.Abandon before was runs taken =
    report_goes front what.Abandon before _ was (bodiless_brings front what.Abandon refl (λ waiting. waiting)) (record {
      follows = (was.ended ∙ runs, tt, tt);
      no_metadata = refl;
      no_eof = refl;
      no_octets = λ i. refl;
      same_finished = refl;
      same_paused = refl;
      completes = λ e. absurd cc;
    })
row_goes reception front what.Pump before was runs taken =
    let tests = not_refused reception front what.Pump taken in
    absurd (true≢false tests.4)
