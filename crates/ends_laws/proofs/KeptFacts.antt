-- A receiver says that the delivery is complete only where its file store has kept the file.
use Rattle.std.proofs.Common.{◌≡◌, ℕ, Bool, true, false, not, ◌&&◌, List, [], ◌∷◌, take, length, nat_lt, ◌==◌, if◌then◌else◌, is_some, IfSome, Option, Some, None, refl, sym, ap, subst}
use Rattle.std.specs.List.{list_any, AllByRecursion}
use Rattle.std.proofs.lemmas.Bool.{cond_both, true≢false}
use Rattle.cfdp_types.specs.Condition as condition
use Rattle.cfdp_types.specs.Steps.{is_stamp}
use Rattle.cfdp_types.specs.declared.limits.TheConstants.{NAK_REQUESTS}
use Rattle.cfdp_types.specs.declared.names.Class.{Class}
use Rattle.cfdp_types.specs.declared.names.Class.TheVariants.{One, Two}
use Rattle.cfdp_types.specs.declared.names.Delivery.TheVariants.{Complete, Incomplete}
use Rattle.cfdp_types.specs.declared.names.FileStatus.{FileStatus}
use Rattle.cfdp_types.specs.declared.names.FileStatus.TheVariants.{Discarded, Retained}
use Rattle.cfdp_types.specs.declared.names.Handler.{Handler}
use Rattle.cfdp_types.specs.declared.names.Handler.TheVariants as handler
use Rattle.cfdp_types.specs.declared.names.TimerKind.{TimerKind}
use Rattle.cfdp_types.specs.declared.names.TimerKind.TheVariants.{Ack, Nak, Check, Inactivity}
use Rattle.pdu_values.specs.Pdu.{PduValue, is_toward_sender}
use Rattle.pdu_values.specs.declared.bodies.Eof.{Eof}
use Rattle.pdu_values.specs.declared.bodies.Finished.{Finished}
use Rattle.pdu_values.specs.declared.bodies.Prompt.TheVariants as prompt
use Rattle.pdu_values.specs.declared.pdu.Body.{Body}
use Rattle.pdu_values.specs.declared.pdu.Body.TheVariants as body
use Rattle.indications.specs.Words.{is_end}
use Rattle.indications.specs.declared.indication.Indication.TheVariants as told
use Rattle.txn_events.specs.Events.{is_two, is_of_other_class, is_stale_timer}
use Rattle.txn_events.specs.declared.answer.Answer.{Answer}
use Rattle.txn_events.specs.declared.event.What.{What}
use Rattle.txn_events.specs.declared.event.What.TheVariants as what
use Rattle.txn_events.specs.declared.refusal.Refusal.TheVariants as refusal
use Rattle.receiver_table.specs.Reception.{Reception, Entry, State, initial, step, state_of, is_suspended, is_closing, finished_in, finished_among}
use Rattle.receiver_table.specs.Refusals.{refusal_at, is_stale_store}
use Rattle.receiver_table.specs.Answers.{metadata_recv, Response, nothing, tells, ◌and_then◌, response_to, with_event, handler_of, asks_closure, finish_response, cancel_response, fault_response, status_of, is_unsupported, is_beyond, is_whole, agrees, waits_for_rest, looks_at_eof, examines, acknowledges, on_eof, ends_as_finished, on_body, is_below, on_nak_timer, on_check_timer, on_timer, on_resume, pdu_to_sender, ack_of, nak_of, requests_of, scope_of, last_end, if_there, if_so, bodies_of}
use Rattle.receiver_laws.specs.LegalReceptions.{IsLegal}
use Rattle.receiver_laws.proofs.ReceptionDeposits.{deposits_good}
use Rattle.ends_laws.specs.ReceiverLaws.{HasKept, IsSaidByReceiver, SaysWhatIsKept}
use Rattle.ends_laws.proofs.EntryFacts.{none_of, older_both, newer_both, each_map, each_append}
use Rattle.ends_laws.proofs.ReceiverFacts.{was_accepted, waits_at}

-- ---- responses whose Finished says that the delivery is not complete

abbrev Denies : Option Finished → Type 0
Denies finished = IfSome finished (λ f. f.delivery ≡ Complete → ⊥)

abbrev DeniesIn : Response → Type 0
DeniesIn response = Denies response.finished

denies_if : (b : Bool) (x y : Response) → DeniesIn x → DeniesIn y → DeniesIn (if b then x else y)
denies_if true x y first second = first
denies_if false x y first second = second

denies_both : (x y : Response) → DeniesIn x → DeniesIn y → DeniesIn (x and_then y)
denies_both x y first second = older_both (λ f. f.delivery ≡ Complete → ⊥) x.finished y.finished first second

denies_asked : (asked : Bool) (f : Finished) → (f.delivery ≡ Complete → ⊥) → Denies (if asked then Some f else None)
denies_asked true f denies = denies
denies_asked false f denies = tt

incomplete_denies : (reception : Reception) (state : State) (code : ℕ) (status : FileStatus) (class : Class) → reception.header.class ≡ class
    → DeniesIn (finish_response reception state code Incomplete status)
incomplete_denies reception state code status One is = rw is (denies_asked (asks_closure state) _ (λ complete. absurd cc))
incomplete_denies reception state code status Two is = rw is (λ complete. absurd cc)

cancel_denies : (reception : Reception) (state : State) (code : ℕ) → DeniesIn (cancel_response reception state code)
cancel_denies reception state code = incomplete_denies reception state code (status_of code) reception.header.class refl

fault_denies : (reception : Reception) (state : State) (kinds : List TimerKind) (code : ℕ) (h : Handler) → handler_of reception code ≡ h
    → DeniesIn (fault_response reception state kinds code)
fault_denies reception state kinds code handler.Cancel is = rw is (cancel_denies reception state code)
fault_denies reception state kinds code handler.Suspend is = rw is tt
fault_denies reception state kinds code handler.Ignore is = rw is tt
fault_denies reception state kinds code handler.Abandon is = rw is tt

rest_denies : (reception : Reception) (state : State) (class : Class) → reception.header.class ≡ class → DeniesIn (waits_for_rest reception state)
rest_denies reception state One is = rw is (denies_if (is_some (state.armed Check)) _ _ tt tt)
rest_denies reception state Two is = rw is (denies_if (is_some (state.armed Nak)) _ _ tt tt)

look_denies : (reception : Reception) (state : State) (eof : Option Eof) → DeniesIn (looks_at_eof reception state eof)
look_denies reception state None = tt
look_denies reception state (Some e) =
    denies_if (is_beyond state e) _ _ (fault_denies reception state [] condition.file_size_error _ refl)
    (denies_if (is_whole state e && not (agrees state e)) _ _ (fault_denies reception state [] condition.file_checksum_failure _ refl)
    (denies_if (is_whole state e) _ _ tt (rest_denies reception state reception.header.class refl)))

examine_denies : (reception : Reception) (state : State) → DeniesIn (examines reception state)
examine_denies reception state =
    denies_if (is_suspended state) _ _ tt
    (denies_if (is_unsupported state) _ _ (fault_denies reception state [] condition.unsupported_checksum_type _ refl)
    (look_denies reception state state.eof))

ends_denies : (state : State) (finished : Option Finished) → state.finished ≡ finished → DeniesIn (ends_as_finished state)
ends_denies state None is = rw is tt
ends_denies state (Some f) is = rw is tt

acknowledges_denies : (reception : Reception) (code : ℕ) → DeniesIn (acknowledges reception code)
acknowledges_denies reception code = denies_if (is_two reception.header.class) _ _ tt tt

eof_denies : (reception : Reception) (front now : State) (e : Eof) → DeniesIn (on_eof reception front now e)
eof_denies reception front now e =
    denies_if (is_closing front) _ _ (acknowledges_denies reception e.condition)
    (denies_if (e.condition == condition.no_error) _ _
    (denies_both (if is_some front.eof then nothing else tells (told.EofRecv ∷ [])) (acknowledges reception e.condition and_then examines reception now)
    (denies_if (is_some front.eof) _ _ tt tt)
    (denies_both (acknowledges reception e.condition) (examines reception now) (acknowledges_denies reception e.condition) (examine_denies reception now)))
    (denies_both (tells (told.TransactionFinished e.condition Incomplete Discarded ∷ [])) (acknowledges reception e.condition)
    tt (acknowledges_denies reception e.condition)))

body_denies : (reception : Reception) (front now : State) (b : Body) → DeniesIn (on_body reception front now b)
body_denies reception front now (body.Metadata m) =
    denies_both (if is_some front.metadata then nothing else tells (metadata_recv reception.key.source m ∷ []))
    (examines reception now) (denies_if (is_some front.metadata) _ _ tt tt) (examine_denies reception now)
body_denies reception front now (body.FileData d) = examine_denies reception now
body_denies reception front now (body.Eof e) = eof_denies reception front now e
body_denies reception front now (body.Prompt prompt.Nak) = denies_if (is_suspended now) _ _ tt tt
body_denies reception front now (body.Prompt prompt.KeepAlive) = tt
body_denies reception front now (body.Ack a) = ends_denies front front.finished refl
body_denies reception front now (body.Finished f) = tt
body_denies reception front now (body.Nak n) = tt
body_denies reception front now (body.KeepAlive k) = tt

-- ---- what the log has kept

-- a Finished says that the delivery is complete only where the file was kept
abbrev SaysKept : List Entry → Option Finished → Type 0
SaysKept log finished = IfSome finished (λ f. f.delivery ≡ Complete → HasKept log)

denied : (log : List Entry) (finished : Option Finished) → Denies finished → SaysKept log finished
denied log None denies = tt
denied log (Some f) denies = λ complete. absurd (denies complete)

pub kept_on : (entry : Entry) (front : List Entry) → HasKept front → HasKept (entry ∷ front)
kept_on entry front kept = record {
  later = entry ∷ kept.later;
  stamp = kept.stamp;
  answer = kept.answer;
  front = kept.front;
  log_is = ap (λ l. entry ∷ l) kept.log_is;
  image = kept.image;
  image_is = kept.image_is;
}

says_on : (entry : Entry) (front : List Entry) (finished : Option Finished) → SaysKept front finished → SaysKept (entry ∷ front) finished
says_on entry front None says = tt
says_on entry front (Some f) says = λ complete. kept_on entry front (says complete)

-- the file store's answer finds its deposit
store_waits : (reception : Reception) (front : State) (stamp : ℕ) (kept : Bool) → refusal_at reception front (what.Stored stamp kept) ≡ None
    → front.waiting ≡ Some stamp
store_waits reception front stamp kept taken =
    let class = none_of (is_of_other_class reception.header.class (what.Stored stamp kept)) refusal.ModeMismatch _ taken in
    let timer = none_of (is_stale_timer front.armed (what.Stored stamp kept)) refusal.StaleTimer _ class.1 in
    let store = none_of (is_stale_store front (what.Stored stamp kept)) refusal.StaleStored _ timer.1 in
    waits_at front.waiting stamp (is_true (is_stamp front.waiting stamp) store.0)
  where
    is_true : (b : Bool) → not b ≡ false → b ≡ true
    is_true true e = refl
    is_true false e = absurd (true≢false e)

kept_now : (reception : Reception) (front : List Entry) (stamp : ℕ) (answer : Answer)
    → IsLegal reception (record { event = what.Stored stamp true; answer = answer } ∷ front)
    → HasKept (record { event = what.Stored stamp true; answer = answer } ∷ front)
kept_now reception front stamp answer legal =
    let taken = was_accepted reception (state_of front) (what.Stored stamp true) answer legal.2 in
    let given = deposits_good reception front stamp legal.3 (store_waits reception (state_of front) stamp true taken.0) in
    record { later = []; stamp = stamp; answer = answer; front = front; log_is = refl; image = given.image; image_is = given.given }

asked_kept : (log : List Entry) (asked : Bool) (f : Finished) → HasKept log → SaysKept log (if asked then Some f else None)
asked_kept log true f kept = λ complete. kept
asked_kept log false f kept = tt

finish_kept : (reception : Reception) (now : State) (log : List Entry) (class : Class) → reception.header.class ≡ class → HasKept log
    → SaysKept log (finish_response reception now condition.no_error Complete Retained).finished
finish_kept reception now log One is kept = rw is (asked_kept log (asks_closure now) _ kept)
finish_kept reception now log Two is kept = rw is (λ complete. kept)

timer_says : (reception : Reception) (entry : Entry) (front : List Entry) (now : State) (kind : TimerKind) → SaysKept front (state_of front).finished
    → SaysKept (entry ∷ front) (on_timer reception (state_of front) now kind).finished
timer_says reception entry front now Nak says =
    denied (entry ∷ front) (on_nak_timer reception (state_of front) now).finished
    (denies_if (is_below (state_of front) Nak reception.params.limits.nak) _ _ tt (fault_denies reception now (Nak ∷ []) condition.nak_limit _ refl))
timer_says reception entry front now Check says =
    denied (entry ∷ front) (on_check_timer reception (state_of front) now).finished
    (denies_if (is_below (state_of front) Check reception.params.limits.check) _ _ tt (fault_denies reception now (Check ∷ []) condition.check_limit _ refl))
timer_says reception entry front now Ack says =
    cond_both (is_below (state_of front) Ack reception.params.limits.ack)
    (record nothing { finished = (state_of front).finished; arms = Ack ∷ [] }) (ends_as_finished (state_of front))
    (λ (response : Response). SaysKept (entry ∷ front) response.finished)
    (λ below. says_on entry front (state_of front).finished says)
    (λ limit. denied (entry ∷ front) (ends_as_finished (state_of front)).finished (ends_denies (state_of front) (state_of front).finished refl))
timer_says reception entry front now Inactivity says =
    denied (entry ∷ front) (fault_response reception now (Inactivity ∷ []) condition.inactivity).finished
    (fault_denies reception now (Inactivity ∷ []) condition.inactivity _ refl)

-- each response says so
row_says : (reception : Reception) (event : What) (answer : Answer) (front : List Entry) (now : State)
    → IsLegal reception (record { event = event; answer = answer } ∷ front) → SaysKept front (state_of front).finished
    → SaysKept (record { event = event; answer = answer } ∷ front) (response_to reception (state_of front) now event).finished
row_says reception (what.Pdu pdu) answer front now legal says =
    denied _ (on_body reception (state_of front) now pdu.body).finished (body_denies reception (state_of front) now pdu.body)
row_says reception (what.Timer kind stamp) answer front now legal says = timer_says reception _ front now kind says
row_says reception (what.Stored stamp true) answer front now legal says =
    finish_kept reception now _ reception.header.class refl (kept_now reception front stamp answer legal)
row_says reception (what.Stored stamp false) answer front now legal says =
    denied _ (fault_response reception now [] condition.filestore_rejection).finished (fault_denies reception now [] condition.filestore_rejection _ refl)
row_says reception what.Cancel answer front now legal says =
    denied _ (cancel_response reception now condition.cancel_request).finished (cancel_denies reception now condition.cancel_request)
row_says reception what.Resume answer front now legal says =
    denied _ (on_resume reception now).finished (examine_denies reception (record now { paused = false }))
row_says reception what.Suspend answer front now legal says = tt
row_says reception what.Report answer front now legal says = tt
row_says reception what.Abandon answer front now legal says = tt
row_says reception what.Pump answer front now legal says = tt

-- ---- the PDUs of a response

abbrev IsSaid : Type 0 → Body → Type 0
IsSaid kept b = (is_toward_sender b ≡ true) × IfSome (finished_in b) (λ f. f.delivery ≡ Complete → kept)

ack_said : (kept : Type 0) (ended : Bool) (code : Option ℕ) → AllByRecursion (IsSaid kept) (if_there (ack_of ended) code)
ack_said kept ended None = tt
ack_said kept ended (Some code) = ((refl, tt), tt)

so_said : (kept : Type 0) (so : Bool) (b : Body) → IsSaid kept b → AllByRecursion (IsSaid kept) (if_so so b)
so_said kept true b said = (said, tt)
so_said kept false b said = tt

nak_said : (kept : Type 0) (now : State) → IsSaid kept (nak_of now)
nak_said kept now =
    cond_both (nat_lt NAK_REQUESTS (length (requests_of now)))
    (body.Nak (record { start = 0; end = last_end (take NAK_REQUESTS (requests_of now)); requests = take NAK_REQUESTS (requests_of now) }))
    (body.Nak (record { start = 0; end = scope_of now; requests = requests_of now }))
    (IsSaid kept) (λ long. (refl, tt)) (λ short. (refl, tt))

finished_said : (kept : Type 0) (finished : Option Finished) → IfSome finished (λ f. f.delivery ≡ Complete → kept)
    → AllByRecursion (IsSaid kept) (if_there body.Finished finished)
finished_said kept None says = tt
finished_said kept (Some f) says = ((refl, says), tt)

bodies_said : (kept : Type 0) (now : State) (ended : Bool) (response : Response) → IfSome response.finished (λ f. f.delivery ≡ Complete → kept)
    → AllByRecursion (IsSaid kept) (bodies_of now ended response)
bodies_said kept now ended response says =
    each_append (IsSaid kept) _ (if_there body.Finished response.finished)
    (each_append (IsSaid kept) _ (if_so response.keep_alive (body.KeepAlive (record { progress = now.progress })))
    (each_append (IsSaid kept) (if_there (ack_of ended) response.ack) (if_so response.nak (nak_of now))
    (ack_said kept ended response.ack) (so_said kept response.nak (nak_of now) (nak_said kept now)))
    (so_said kept response.keep_alive (body.KeepAlive (record { progress = now.progress })) (refl, tt)))
    (finished_said kept response.finished says)

answer_says : (reception : Reception) (entry : Entry) (front : List Entry) → IsLegal reception (entry ∷ front) → SaysKept front (state_of front).finished
    → AllByRecursion (IsSaidByReceiver (HasKept (entry ∷ front))) entry.answer.pdus
answer_says reception entry front legal says =
    let state = state_of front in
    let now = with_event state entry.event in
    let response : Response = response_to reception state now entry.event in
    subst (λ (given : Answer). AllByRecursion (IsSaidByReceiver (HasKept (entry ∷ front))) given.pdus)
    (sym (was_accepted reception state entry.event entry.answer legal.2).1)
    (each_map (IsSaidByReceiver (HasKept (entry ∷ front))) (pdu_to_sender reception) (bodies_of now (list_any is_end response.inds) response)
    (bodies_said (HasKept (entry ∷ front)) now (list_any is_end response.inds) response (row_says reception entry.event entry.answer front now legal says)))

among_says : (kept : Type 0) (pdus : List PduValue) → AllByRecursion (IsSaidByReceiver kept) pdus
    → IfSome (finished_among pdus) (λ f. f.delivery ≡ Complete → kept)
among_says kept [] each = tt
among_says kept (pdu ∷ later) each =
    newer_both (λ f. f.delivery ≡ Complete → kept) (finished_among later) (finished_in pdu.body) (among_says kept later each.1) (each.0.1)

-- the last Finished that was sent says so
last_says : (reception : Reception) (log : List Entry) → IsLegal reception log → SaysKept log (state_of log).finished
unfolding initial step state_of
last_says reception [] legal = tt
last_says reception (entry ∷ front) legal =
    let before = last_says reception front legal.3 in
    newer_both (λ f. f.delivery ≡ Complete → HasKept (entry ∷ front)) (finished_among entry.answer.pdus) (state_of front).finished
    (among_says (HasKept (entry ∷ front)) entry.answer.pdus (answer_says reception entry front legal before))
    (says_on entry front (state_of front).finished before)

pub says_what_is_kept : SaysWhatIsKept
says_what_is_kept reception entry front legal = answer_says reception entry front legal (last_says reception front legal.3)
