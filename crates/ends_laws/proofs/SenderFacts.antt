-- What a sender says of its Put, row by row of its table.
use Rattle.std.proofs.Common.{◌≡◌, ℕ, ◌+◌, ◌-◌, ◌<◌, Bool, true, false, List, [], ◌∷◌, min, length, take, drop, if◌then◌else◌, nat_lt, IfSome, Option, Some, None, Ok, Contains, refl, sym, ap, ◌∙◌, subst, arith}
use Rattle.std.specs.List.{list_any, AllByRecursion}
use Rattle.std.proofs.lemmas.Bool.{false≢true}
use Rattle.std.proofs.lemmas.List.{length-take, length-drop, get_or-take, get_or-drop}
use Rattle.std.proofs.lemmas.List.Folds.{list_any-from_Any}
use Rattle.std.proofs.lemmas.Option.{slice_get-get_or}
use Rattle.cfdp_types.specs.Condition as condition
use Rattle.cfdp_types.specs.Handlers.{handler_in}
use Rattle.cfdp_types.specs.Put.{PutValue}
use Rattle.cfdp_types.specs.declared.names.Class.{Class}
use Rattle.cfdp_types.specs.declared.names.Class.TheVariants.{One, Two}
use Rattle.cfdp_types.specs.declared.names.Delivery.{Delivery}
use Rattle.cfdp_types.specs.declared.names.Delivery.TheVariants.{Complete}
use Rattle.cfdp_types.specs.declared.names.FileStatus.{FileStatus}
use Rattle.cfdp_types.specs.declared.names.Handler.{Handler}
use Rattle.cfdp_types.specs.declared.names.Handler.TheVariants as handler
use Rattle.cfdp_types.specs.declared.names.TimerKind.{TimerKind}
use Rattle.cfdp_types.specs.declared.names.TimerKind.TheVariants.{Ack, Nak, Check, Inactivity}
use Rattle.gap_list.specs.declared.run.Run.{Run}
use Rattle.pdu_values.specs.Pdu.{PduValue, is_toward_sender}
use Rattle.pdu_values.specs.declared.bodies.Eof.{Eof}
use Rattle.pdu_values.specs.declared.bodies.Finished.{Finished}
use Rattle.pdu_values.specs.declared.pdu.Body.{Body}
use Rattle.pdu_values.specs.declared.pdu.Body.TheVariants as body
use Rattle.pdu_values.specs.declared.pdu.Header.{Header}
use Rattle.indications.specs.Words.{is_complete}
use Rattle.indications.specs.declared.indication.Indication.{Indication}
use Rattle.indications.specs.declared.indication.Indication.TheVariants as told
use Rattle.txn_events.specs.declared.answer.Answer.{Answer}
use Rattle.txn_events.specs.declared.event.What.{What}
use Rattle.txn_events.specs.declared.event.What.TheVariants as what
use Rattle.sender_table.specs.Sending.{Sending, Event, put, happens, Entry, State, initial, step, state_of, is_closing, eof_in, eof_among}
use Rattle.sender_table.specs.Refusals.{refusal_at, runs_to_send}
use Rattle.sender_table.specs.Answers.{Response, response_to, with_event, header_of, cancel_response, fault_response, sends_eof, sends_next, on_pump, on_body, on_timer, last_eof, ends_unreported, condition_of, acks_of, accepted_at, answer_at}
use Rattle.sender_laws.specs.LegalSendings.{IsLegal}
use Rattle.ends_laws.specs.Agreement.{AgreesWith, HasOctetsOf, HasSizeOf}
use Rattle.ends_laws.specs.SenderLaws.{IsSaidBySender, SendsItsPut, IsFinished, TellsWhatCame}
use Rattle.ends_laws.proofs.EntryFacts.{accepted_parts, newer_both, each_map, each_contained}

-- what a body says, wherever it is from
abbrev IsSaid : PutValue → Body → Type 0
IsSaid request b = (is_toward_sender b ≡ false) × AgreesWith request b

-- every body of a response is so, and it tells of no complete delivery
abbrev Plain : PutValue → Response → Type 0
Plain request response = AllByRecursion (IsSaid request) response.bodies × (list_any is_complete response.inds ≡ false)

plain_if : (request : PutValue) (b : Bool) (x y : Response) → Plain request x → Plain request y → Plain request (if b then x else y)
plain_if request true x y first second = first
plain_if request false x y first second = second

-- ---- parts of the file

-- octets taken from an offset on are the file's
part_is : (file : List ℕ) (start n : ℕ) → HasOctetsOf file (record { offset = start; octets = take n (drop start file) })
part_is file start n i below =
    let long = length-take n (drop start file) in
    let rest = length-drop start file in
    let short : i < n = omega (arith, long, below) in
    let within : start + i < length file = omega (arith, long, rest, below) in
    slice_get-get_or file (start + i) 0 within
    ∙ ap Some (sym (get_or-take n (drop start file) i 0 short ∙ get_or-drop start file i 0))
    ∙ sym (slice_get-get_or (take n (drop start file)) i 0 below)

-- ---- the rows

cancels_plain : (sending : Sending) (state : State) (code : ℕ) (class : Class) → sending.request.class ≡ class → (code ≡ condition.no_error → ⊥)
    → Plain sending.request (cancel_response sending state code)
cancels_plain sending state code One is error = rw is (((refl, λ none. absurd (error none)), tt), refl)
cancels_plain sending state code Two is error = rw is (((refl, λ none. absurd (error none)), tt), refl)

faults_plain : (sending : Sending) (state : State) (kind : TimerKind) (code : ℕ) (h : Handler) → handler_in sending.params.tables.send code ≡ h
    → (code ≡ condition.no_error → ⊥) → Plain sending.request (fault_response sending state kind code)
faults_plain sending state kind code handler.Cancel is error = rw is (cancels_plain sending state code sending.request.class refl error)
faults_plain sending state kind code handler.Suspend is error = rw is (tt, refl)
faults_plain sending state kind code handler.Ignore is error = rw is (tt, refl)
faults_plain sending state kind code handler.Abandon is error = rw is (tt, refl)

eof_plain : (sending : Sending) (class : Class) (asked : Bool) → sending.request.class ≡ class → sending.request.closure ≡ asked → Plain sending.request (sends_eof sending)
eof_plain sending One true is asks = rw (is, asks) (((refl, λ none. refl), tt), refl)
eof_plain sending One false is asks = rw (is, asks) (((refl, λ none. refl), tt), refl)
eof_plain sending Two asked is asks = rw is (((refl, λ none. refl), tt), refl)

next_plain : (sending : Sending) (runs : List Run) → Plain sending.request (sends_next sending runs)
next_plain sending [] = eof_plain sending sending.request.class sending.request.closure refl refl
next_plain sending (run ∷ runs) =
    (((refl, part_is sending.request.file run.start (min sending.params.segment_octets (run.end - run.start))), tt), refl)

pump_plain : (sending : Sending) (front : State) → Plain sending.request (on_pump sending front)
pump_plain sending front =
    plain_if sending.request front.metadata_remains _ _
    (((refl, record { size = refl; source_name = refl; destination_name = refl }), tt), refl)
    (next_plain sending (runs_to_send sending front))

last_said : (request : PutValue) (eof : Option Eof) → IfSome eof (HasSizeOf request.file) → AllByRecursion (IsSaid request) (last_eof eof)
last_said request None agrees = tt
last_said request (Some e) agrees = ((refl, agrees), tt)

timer_plain : (sending : Sending) (front now : State) (kind : TimerKind) → IfSome front.eof (HasSizeOf sending.request.file)
    → Plain sending.request (on_timer sending front now kind)
timer_plain sending front now Ack agrees =
    plain_if sending.request (nat_lt (front.tries Ack + 1) sending.params.limits.ack) _ _
    (last_said sending.request front.eof agrees, refl)
    (plain_if sending.request (is_closing front) (ends_unreported (condition_of front.eof)) (fault_response sending now Ack condition.positive_ack_limit)
    (tt, refl)
    (faults_plain sending now Ack condition.positive_ack_limit _ refl (λ none. omega (arith, none))))
timer_plain sending front now Inactivity agrees = faults_plain sending now Inactivity condition.inactivity _ refl (λ none. omega (arith, none))
timer_plain sending front now Nak agrees = (tt, refl)
timer_plain sending front now Check agrees =
    plain_if sending.request (nat_lt (front.tries Check + 1) sending.params.limits.check) _ _ (tt, refl)
    (faults_plain sending now Check condition.check_limit _ refl (λ none. omega (arith, none)))

-- a Finished PDU alone is answered with what may tell of a complete delivery
acks_said : (request : PutValue) (class : Class) (f : Finished) → AllByRecursion (IsSaid request) (acks_of class f)
acks_said request One f = tt
acks_said request Two f = ((refl, tt), tt)

body_said : (sending : Sending) (front : State) (b : Body) → AllByRecursion (IsSaid sending.request) (on_body sending front b).bodies
body_said sending front (body.Finished f) = acks_said sending.request sending.request.class f
body_said sending front (body.Ack a) = (plain_if sending.request (is_closing front) (ends_unreported a.condition) _ (tt, refl) (tt, refl)).0
body_said sending front (body.Metadata m) = tt
body_said sending front (body.FileData d) = tt
body_said sending front (body.Eof e) = tt
body_said sending front (body.Prompt p) = tt
body_said sending front (body.Nak n) = tt
body_said sending front (body.KeepAlive k) = tt

what_plain : (sending : Sending) (front now : State) (event : What) → IfSome front.eof (HasSizeOf sending.request.file)
    → AllByRecursion (IsSaid sending.request) (response_to sending front now (happens event)).bodies
what_plain sending front now (what.Pdu pdu) agrees = body_said sending front pdu.body
what_plain sending front now (what.Timer kind stamp) agrees = (timer_plain sending front now kind agrees).0
what_plain sending front now what.Pump agrees = (pump_plain sending front).0
what_plain sending front now what.Cancel agrees =
    (cancels_plain sending now condition.cancel_request sending.request.class refl (λ none. omega (arith, none))).0
what_plain sending front now what.Suspend agrees = tt
what_plain sending front now what.Resume agrees = tt
what_plain sending front now what.Report agrees = tt
what_plain sending front now what.Abandon agrees = tt
what_plain sending front now (what.Stored stamp kept) agrees = tt

event_said : (sending : Sending) (front now : State) (event : Event) → IfSome front.eof (HasSizeOf sending.request.file)
    → AllByRecursion (IsSaid sending.request) (response_to sending front now event).bodies
event_said sending front now put agrees = tt
event_said sending front now (happens event) agrees = what_plain sending front now event agrees

-- ---- legal logs

was_accepted : (sending : Sending) (state : State) (event : Event) (answer : Answer) → answer_at sending state event ≡ Ok answer
    → answer ≡ accepted_at sending state event
unfolding answer_at
was_accepted sending state event answer e = (accepted_parts (refusal_at sending state event) (accepted_at sending state event) answer e).1

answer_said : (sending : Sending) (front : State) (event : Event) (answer : Answer) → answer_at sending front event ≡ Ok answer
    → IfSome front.eof (HasSizeOf sending.request.file) → AllByRecursion (IsSaidBySender sending.request) answer.pdus
answer_said sending front event answer accepted agrees =
    subst (λ (given : Answer). AllByRecursion (IsSaidBySender sending.request) given.pdus) (sym (was_accepted sending front event answer accepted))
    (each_map (IsSaidBySender sending.request) (λ b. record { header = header_of sending; body = b })
    (response_to sending front (with_event sending front event) event).bodies (event_said sending front (with_event sending front event) event agrees))

eof_agrees : (request : PutValue) (b : Body) → IsSaid request b → IfSome (eof_in b) (HasSizeOf request.file)
eof_agrees request (body.Eof e) said = said.1
eof_agrees request _ said = tt

among_agrees : (request : PutValue) (pdus : List PduValue) → AllByRecursion (IsSaidBySender request) pdus → IfSome (eof_among pdus) (HasSizeOf request.file)
among_agrees request [] said = tt
among_agrees request (pdu ∷ later) said =
    newer_both (HasSizeOf request.file) (eof_among later) (eof_in pdu.body) (among_agrees request later said.1) (eof_agrees request pdu.body said.0)

-- the last EOF that was sent agrees with the Put
last_agrees : (sending : Sending) (log : List Entry) → IsLegal sending log → IfSome (state_of sending log).eof (HasSizeOf sending.request.file)
unfolding initial step state_of
last_agrees sending [] legal = tt
last_agrees sending (entry ∷ front) legal =
    let before = last_agrees sending front legal.3 in
    newer_both (HasSizeOf sending.request.file) (eof_among entry.answer.pdus) (state_of sending front).eof
    (among_agrees sending.request entry.answer.pdus (answer_said sending (state_of sending front) entry.event entry.answer legal.2 before)) before

pub sends_its_put : SendsItsPut
sends_its_put sending entry front legal =
    answer_said sending (state_of sending front) entry.event entry.answer legal.2 (last_agrees sending front legal.3)

-- ---- complete deliveries

-- what is told is no complete delivery, or is told at a Finished PDU with these values
abbrev IsTold : Event → Response → ℕ → FileStatus → Type 0
IsTold event response code status = list_any is_complete response.inds ≡ true → Contains response.inds (told.TransactionFinished code Complete status)
    → IsFinished event code status

never_told : {A : Type 0} (inds : List Indication) → list_any is_complete inds ≡ false → list_any is_complete inds ≡ true → A
never_told inds none tells = absurd (false≢true (sym none ∙ tells))

-- one indication is told
only_one : (x y : Indication) → Contains (x ∷ []) y → x ≡ y
only_one x y contained = (each_contained (λ z. x ≡ z) (x ∷ []) y (refl, tt) contained)

values_are : (delivery : Delivery) (code other : ℕ) (status kept : FileStatus)
    → told.TransactionFinished other delivery kept ≡ told.TransactionFinished code Complete status
    → (other ≡ code) × (delivery ≡ Complete) × (kept ≡ status)
values_are delivery code other status kept e = (cc, cc, cc)

finished_told : (sending : Sending) (front : State) (header : Header) (f : Finished) (code : ℕ) (status : FileStatus)
    → IsTold (happens (what.Pdu (record { header = header; body = body.Finished f }))) (on_body sending front (body.Finished f)) code status
finished_told sending front header f code status tells contained =
    let values = values_are f.delivery code f.condition status f.status (only_one _ _ contained) in
    record {
      header = header;
      location = f.location;
      event_is =
          ap (λ g. happens (what.Pdu (record { header = header; body = body.Finished g })))
          (ap (λ c. record { condition = c; delivery = f.delivery; status = f.status; location = f.location }) values.0
          ∙ ap (λ d. record { condition = code; delivery = d; status = f.status; location = f.location }) values.1
          ∙ ap (λ s. record { condition = code; delivery = Complete; status = s; location = f.location }) values.2);
    }

body_told : (sending : Sending) (front : State) (header : Header) (b : Body) (code : ℕ) (status : FileStatus)
    → IsTold (happens (what.Pdu (record { header = header; body = b }))) (on_body sending front b) code status
body_told sending front header (body.Finished f) code status tells contained = finished_told sending front header f code status tells contained
body_told sending front header (body.Ack a) code status tells contained =
    never_told (on_body sending front (body.Ack a)).inds
    (plain_if sending.request (is_closing front) (ends_unreported a.condition) (record { inds = []; bodies = []; arms = [] }) (tt, refl) (tt, refl)).1 tells
body_told sending front header (body.Metadata m) code status tells contained = absurd (false≢true tells)
body_told sending front header (body.FileData d) code status tells contained = absurd (false≢true tells)
body_told sending front header (body.Eof e) code status tells contained = absurd (false≢true tells)
body_told sending front header (body.Prompt p) code status tells contained = absurd (false≢true tells)
body_told sending front header (body.Nak n) code status tells contained = absurd (false≢true tells)
body_told sending front header (body.KeepAlive k) code status tells contained = absurd (false≢true tells)

event_told : (sending : Sending) (front now : State) (event : Event) (code : ℕ) (status : FileStatus) → IfSome front.eof (HasSizeOf sending.request.file)
    → IsTold event (response_to sending front now event) code status
event_told sending front now put code status agrees tells contained = absurd (false≢true tells)
event_told sending front now (happens (what.Pdu pdu)) code status agrees tells contained =
    body_told sending front pdu.header pdu.body code status tells contained
event_told sending front now (happens (what.Timer kind stamp)) code status agrees tells contained =
    never_told (on_timer sending front now kind).inds (timer_plain sending front now kind agrees).1 tells
event_told sending front now (happens what.Pump) code status agrees tells contained =
    never_told (on_pump sending front).inds (pump_plain sending front).1 tells
event_told sending front now (happens what.Cancel) code status agrees tells contained =
    never_told (cancel_response sending now condition.cancel_request).inds
    (cancels_plain sending now condition.cancel_request sending.request.class refl (λ none. omega (arith, none))).1 tells
event_told sending front now (happens what.Suspend) code status agrees tells contained = absurd (false≢true tells)
event_told sending front now (happens what.Resume) code status agrees tells contained = absurd (false≢true tells)
event_told sending front now (happens what.Report) code status agrees tells contained = absurd (false≢true tells)
event_told sending front now (happens what.Abandon) code status agrees tells contained = absurd (false≢true tells)
event_told sending front now (happens (what.Stored stamp kept)) code status agrees tells contained = absurd (false≢true tells)

pub tells_what_came : TellsWhatCame
tells_what_came sending entry front code status legal contained =
    let told_then : Contains (accepted_at sending (state_of sending front) entry.event).inds (told.TransactionFinished code Complete status) =
    subst (λ (given : Answer). Contains given.inds (told.TransactionFinished code Complete status))
    (was_accepted sending (state_of sending front) entry.event entry.answer legal.2) contained in
    event_told sending (state_of sending front) (with_event sending (state_of sending front) entry.event) entry.event code status
    (last_agrees sending front legal.3)
    (list_any-from_Any is_complete _ (told_then.0, told.TransactionFinished code Complete status, told_then.1, told_then.2, refl))
    told_then
