-- What each response of the table tells, by where the sender stands.
use Rattle.std.proofs.Common.{◌≡◌, ℕ, Bool, true, false, not, ◌&&◌, ◌||◌, if◌then◌else◌, List, [], ◌∷◌, map, length, Option, Some, None, is_some, refl, sym, ap, ◌∙◌, nat_lt, arith}
use Rattle.std.specs.List.{list_any}
use Rattle.std.proofs.lemmas.Bool.{false≢true, true≢false}
use Rattle.cfdp_types.specs.Condition as condition
use Rattle.cfdp_types.specs.Handlers.{handler_in}
use Rattle.cfdp_types.specs.Steps.{is_stamp, is_kind}
use Rattle.cfdp_types.specs.declared.condition.Condition.{Condition}
use Rattle.cfdp_types.specs.declared.names.Class.{Class}
use Rattle.cfdp_types.specs.declared.names.Class.TheVariants.{One, Two}
use Rattle.cfdp_types.specs.declared.names.Delivery.TheVariants.{Incomplete}
use Rattle.cfdp_types.specs.declared.names.FileStatus.TheVariants.{Unreported}
use Rattle.cfdp_types.specs.declared.names.Handler.{Handler}
use Rattle.cfdp_types.specs.declared.names.Handler.TheVariants as handler
use Rattle.cfdp_types.specs.declared.names.TimerKind.{TimerKind}
use Rattle.cfdp_types.specs.declared.names.TimerKind.TheVariants.{Ack, Nak, Check, Inactivity}
use Rattle.gap_list.specs.declared.run.Run.{Run}
use Rattle.txn_events.specs.declared.event.What.{What}
use Rattle.txn_events.specs.declared.event.What.TheVariants as what
use Rattle.txn_events.specs.declared.refusal.Refusal.{Refusal}
use Rattle.txn_events.specs.declared.refusal.Refusal.TheVariants as refusal
use Rattle.txn_events.specs.Events.{is_of_other_class, is_stale_timer}
use Rattle.pdu_values.specs.declared.pdu.Header.{Header}
use Rattle.pdu_values.specs.declared.pdu.Body.{Body}
use Rattle.pdu_values.specs.declared.pdu.Body.TheVariants as body
use Rattle.indications.specs.declared.indication.Indication.{Indication}
use Rattle.indications.specs.declared.indication.Indication.TheVariants as told
use Rattle.indications.specs.declared.side.Side.TheVariants.{Sender}
use Rattle.indications.specs.Words.{is_end, is_eof_sent, is_paused, IsOpened, IsNextOfSender, MayFollowOf}
use Rattle.sender_table.specs.Sending.{Sending, happens, State, is_closing, is_suspended, is_cancel, eof_among}
use Rattle.sender_table.specs.Refusals.{refusal_of, is_stale_store, is_misplaced, runs_to_send}
use Rattle.sender_table.specs.Answers.{Response, response_to, cancel_response, fault_response, sends_eof, sends_next, on_pump, on_body, on_timer, ends_unreported, condition_of, phase_of}

-- what a response tells may follow what was told before, and it tells an EOF only where it sends one
pub record Goes (paused sent : Bool) (response : Response) : Type 0 where
  pub follows : (before : List Indication) → list_any is_end before ≡ false → IsOpened before → is_paused before ≡ paused
      → (sent ≡ false → list_any is_eof_sent before ≡ false) → MayFollowOf Sender before response.inds
  pub sends : (header : Header) → list_any is_eof_sent response.inds ≡ true → is_some (eof_among (map (λ b. record { header = header; body = b }) response.bodies)) ≡ true

-- nothing is told
silent : (paused sent : Bool) (bodies : List Body) (arms : List TimerKind) → Goes paused sent (record { inds = []; bodies = bodies; arms = arms })
silent paused sent bodies arms = record {
  follows = λ before runs begun stands eof. tt;
  sends = λ header tells. absurd (false≢true tells);
}

-- one indication is told, which is not EOF-Sent
one_told : (paused sent : Bool) (x : Indication) (bodies : List Body) (arms : List TimerKind) → is_eof_sent x ≡ false
    → ((before : List Indication) → IsOpened before → is_paused before ≡ paused → IsNextOfSender before x)
    → Goes paused sent (record { inds = x ∷ []; bodies = bodies; arms = arms })
one_told paused sent x bodies arms other next = record {
  follows = λ before runs begun stands eof. (runs, next before begun stands, tt);
  sends = λ header tells. absurd (false≢true (rw other at tells));
}

-- one of two responses
chosen : (paused sent : Bool) (b : Bool) (x y : Response) → (b ≡ true → Goes paused sent x) → (b ≡ false → Goes paused sent y)
    → Goes paused sent (if b then x else y)
chosen paused sent true x y so otherwise = so refl
chosen paused sent false x y so otherwise = otherwise refl

cancels_goes : (paused sent : Bool) (sending : Sending) (state : State) (code : Condition) (class : Class) → sending.request.class ≡ class
    → Goes paused sent (cancel_response sending state code)
cancels_goes paused sent sending state code One is =
    rw is (one_told paused sent (told.TransactionFinished code Incomplete Unreported) _ _ refl (λ before begun stands. begun))
cancels_goes paused sent sending state code Two is = rw is (silent paused sent _ _)

faults_go : (sent : Bool) (sending : Sending) (state : State) (kind : TimerKind) (code : Condition) (h : Handler)
    → handler_in sending.params.tables.send code ≡ h → Goes false sent (fault_response sending state kind code)
faults_go sent sending state kind code handler.Cancel is = rw is (cancels_goes false sent sending state code sending.request.class refl)
faults_go sent sending state kind code handler.Suspend is =
    rw is (one_told false sent (told.Suspended code) _ _ refl (λ before begun stands. (begun, stands)))
faults_go sent sending state kind code handler.Ignore is =
    rw is (one_told false sent (told.Fault code state.progress) _ _ refl (λ before begun stands. begun))
faults_go sent sending state kind code handler.Abandon is =
    rw is (one_told false sent (told.Abandoned code state.progress) _ _ refl (λ before begun stands. begun))

eof_goes : (paused : Bool) (sending : Sending) (class : Class) → sending.request.class ≡ class → Goes paused false (sends_eof sending)
eof_goes paused sending One is = rw is (chosen paused false sending.request.closure _ _
    (λ asked. record {
      follows = λ before runs begun stands eof. (runs, (begun, eof refl), tt);
      sends = λ header tells. refl;
    })
    (λ unasked. record {
      follows = λ before runs begun stands eof. (runs, (begun, eof refl), (runs, begun, tt));
      sends = λ header tells. refl;
    }))
eof_goes paused sending Two is = rw is (record {
  follows = λ before runs begun stands eof. (runs, (begun, eof refl), tt);
  sends = λ header tells. refl;
})

next_goes : (paused sent : Bool) (sending : Sending) (runs : List Run) → (runs ≡ [] → sent ≡ false) → Goes paused sent (sends_next sending runs)
next_goes paused sent sending [] last = rw (last refl) (eof_goes paused sending sending.request.class refl)
next_goes paused sent sending (run ∷ runs) last = silent paused sent _ _

-- where Pump is taken and all was sent, no EOF was
no_eof_yet : (suspended closing remains sent : Bool) (runs : List Run) → (suspended || closing || not (remains || nat_lt 0 (length runs) || not sent)) ≡ false
    → remains ≡ false → runs ≡ [] → sent ≡ false
no_eof_yet suspended closing remains false runs taken none empty = refl
no_eof_yet suspended closing remains true [] taken none empty = absurd (Prim.grind (arith, taken, none))
no_eof_yet suspended closing remains true (run ∷ runs) taken none empty = let long = ap length empty in absurd cc

pump_goes : (sending : Sending) (state : State) → is_misplaced sending state what.Pump ≡ false
    → Goes state.paused (is_some state.eof) (on_pump sending state)
pump_goes sending state taken =
    chosen state.paused (is_some state.eof) state.metadata_remains _ _
    (λ remains. silent state.paused (is_some state.eof) _ _)
    (λ none. next_goes state.paused (is_some state.eof) sending (runs_to_send sending state)
    (no_eof_yet (is_suspended state) (is_closing state) state.metadata_remains (is_some state.eof) (runs_to_send sending state) taken none))

ends_unreported_goes : (paused sent : Bool) (code : Condition)
    → Goes paused sent (record { inds = told.TransactionFinished code Incomplete Unreported ∷ []; bodies = []; arms = [] })
ends_unreported_goes paused sent code =
    one_told paused sent (told.TransactionFinished code Incomplete Unreported) [] [] refl (λ before begun stands. begun)

body_goes : (sending : Sending) (state : State) (b : Body) → Goes state.paused (is_some state.eof) (on_body sending state b)
body_goes sending state (body.Ack a) =
    chosen state.paused (is_some state.eof) (is_closing state) _ _
    (λ closes. ends_unreported_goes state.paused (is_some state.eof) a.condition) (λ goes. silent state.paused (is_some state.eof) _ _)
body_goes sending state (body.Finished f) =
    one_told state.paused (is_some state.eof) (told.TransactionFinished f.condition f.delivery f.status) _ _ refl (λ before begun stands. begun)
body_goes sending state (body.Metadata m) = silent state.paused (is_some state.eof) _ _
body_goes sending state (body.FileData d) = silent state.paused (is_some state.eof) _ _
body_goes sending state (body.Eof e) = silent state.paused (is_some state.eof) _ _
body_goes sending state (body.Prompt p) = silent state.paused (is_some state.eof) _ _
body_goes sending state (body.Nak n) = silent state.paused (is_some state.eof) _ _
body_goes sending state (body.KeepAlive k) = silent state.paused (is_some state.eof) _ _

-- ---- timers

-- no timer runs while the sender is suspended, and only Ack in the closing phase
pub record Calm (state : State) : Type 0 where
  pub suspended : is_suspended state ≡ true → (kind : TimerKind) → state.armed kind ≡ None
  pub closing : is_closing state ≡ true → (kind : TimerKind) → is_kind Ack kind ≡ false → state.armed kind ≡ None

-- a timer that expires runs
expires : (armed : Option ℕ) (stamp : ℕ) (b : Bool) → not (is_stamp armed stamp) ≡ false → (b ≡ true → armed ≡ None) → b ≡ false
expires armed stamp false fresh none = refl
expires armed stamp true fresh none = let stale : not (is_stamp armed stamp) ≡ true = rw (none refl) refl in absurd (false≢true (sym fresh ∙ stale))

runs_on : (paused cancel_response ended : Bool) → (paused && not cancel_response && not ended) ≡ false → (cancel_response && not ended) ≡ false → ended ≡ false → paused ≡ false
runs_on false cancel_response ended unsuspended unclosed goes = refl
runs_on true false false unsuspended unclosed goes = absurd (true≢false unsuspended)
runs_on true true false unsuspended unclosed goes = absurd (true≢false unclosed)
runs_on true cancel_response true unsuspended unclosed goes = absurd (true≢false goes)

-- a timer that is not Ack expires only where the sender is not suspended
runs_freely : (state : State) (kind : TimerKind) (stamp : ℕ) → is_kind Ack kind ≡ false → state.ended ≡ false → Calm state
    → not (is_stamp (state.armed kind) stamp) ≡ false → state.paused ≡ false
runs_freely state kind stamp apart goes calm fresh =
    let unsuspended : is_suspended state ≡ false = expires (state.armed kind) stamp (is_suspended state) fresh (λ is. calm.suspended is kind) in
    let unclosed : is_closing state ≡ false = expires (state.armed kind) stamp (is_closing state) fresh (λ is. calm.closing is kind apart) in
    runs_on state.paused (is_cancel state.eof) state.ended unsuspended unclosed goes

timer_goes : (sending : Sending) (state now : State) (kind : TimerKind) (stamp : ℕ) → state.ended ≡ false → Calm state
    → not (is_stamp (state.armed kind) stamp) ≡ false → Goes state.paused (is_some state.eof) (on_timer sending state now kind)
timer_goes sending state now Ack stamp goes calm fresh =
    let unsuspended : is_suspended state ≡ false = expires (state.armed Ack) stamp (is_suspended state) fresh (λ is. calm.suspended is Ack) in
    chosen state.paused (is_some state.eof) _ _ _
    (λ below. silent state.paused (is_some state.eof) _ _)
    (λ limit. chosen state.paused (is_some state.eof) (is_closing state)
    (ends_unreported (condition_of state.eof)) (fault_response sending now Ack condition.positive_ack_limit)
    (λ closes. ends_unreported_goes state.paused (is_some state.eof) (condition_of state.eof))
    (λ unclosed. rw (runs_on state.paused (is_cancel state.eof) state.ended unsuspended unclosed goes)
    (faults_go (is_some state.eof) sending now Ack condition.positive_ack_limit _ refl)))
timer_goes sending state now Inactivity stamp goes calm fresh =
    rw (runs_freely state Inactivity stamp refl goes calm fresh)
    (faults_go (is_some state.eof) sending now Inactivity condition.inactivity _ refl)
timer_goes sending state now Check stamp goes calm fresh =
    chosen state.paused (is_some state.eof) _ (record { inds = []; bodies = []; arms = Check ∷ [] }) (fault_response sending now Check condition.check_limit)
    (λ below. silent state.paused (is_some state.eof) _ _)
    (λ limit. rw (runs_freely state Check stamp refl goes calm fresh)
    (faults_go (is_some state.eof) sending now Check condition.check_limit _ refl))
timer_goes sending state now Nak stamp goes calm fresh = silent state.paused (is_some state.eof) _ _

-- ---- requests of the user

-- Suspend is taken only where the sender is neither suspended nor closing
may_suspend : (paused cancel_response ended : Bool) → ((paused && not cancel_response && not ended) || (cancel_response && not ended)) ≡ false → ended ≡ false → paused ≡ false
may_suspend false cancel_response ended taken goes = refl
may_suspend true false false taken goes = absurd (true≢false taken)
may_suspend true true false taken goes = absurd (true≢false taken)
may_suspend true cancel_response true taken goes = absurd (true≢false goes)

-- and Resume only where it is suspended
may_resume : (paused cancel_response ended : Bool) → not (paused && not cancel_response && not ended) ≡ false → paused ≡ true
may_resume true cancel_response ended taken = refl
may_resume false cancel_response ended taken = absurd (true≢false taken)

suspend_goes : (paused sent : Bool) (code : Condition) (arms : List TimerKind) → paused ≡ false
    → Goes paused sent (record { inds = told.Suspended code ∷ []; bodies = []; arms = arms })
suspend_goes paused sent code arms runs =
    one_told paused sent (told.Suspended code) [] arms refl (λ before begun stands. (begun, stands ∙ runs))

resume_goes : (paused sent : Bool) (progress : ℕ) (arms : List TimerKind) → paused ≡ true
    → Goes paused sent (record { inds = told.Resumed progress ∷ []; bodies = []; arms = arms })
resume_goes paused sent progress arms stopped =
    one_told paused sent (told.Resumed progress) [] arms refl (λ before begun stands. (begun, stands ∙ stopped))

-- ---- the response of each event that is taken

-- no refusal of a chain applies
pub none_of : (test : Bool) (why : Refusal) (rest : Option Refusal) → (if test then Some why else rest) ≡ None → (test ≡ false) × (rest ≡ None)
none_of true why rest taken = absurd cc
none_of false why rest taken = (refl, taken)

taken_what : (sending : Sending) (state now : State) (event : What) → is_stale_timer state.armed event ≡ false → is_stale_store event ≡ false
    → is_misplaced sending state event ≡ false → state.ended ≡ false → Calm state
    → Goes state.paused (is_some state.eof) (response_to sending state now (happens event))
taken_what sending state now (what.Pdu pdu) fresh kept placed goes calm = body_goes sending state pdu.body
taken_what sending state now (what.Timer kind stamp) fresh kept placed goes calm = timer_goes sending state now kind stamp goes calm fresh
taken_what sending state now (what.Stored stamp stored) fresh kept placed goes calm = absurd (true≢false kept)
taken_what sending state now what.Pump fresh kept placed goes calm = pump_goes sending state placed
taken_what sending state now what.Cancel fresh kept placed goes calm =
    cancels_goes state.paused (is_some state.eof) sending now condition.cancel_request sending.request.class refl
taken_what sending state now what.Suspend fresh kept placed goes calm =
    suspend_goes state.paused (is_some state.eof) condition.suspend_request [] (may_suspend state.paused (is_cancel state.eof) state.ended placed goes)
taken_what sending state now what.Resume fresh kept placed goes calm =
    resume_goes state.paused (is_some state.eof) now.progress _ (may_resume state.paused (is_cancel state.eof) state.ended placed)
taken_what sending state now what.Report fresh kept placed goes calm =
    one_told state.paused (is_some state.eof) (told.Report (phase_of now) now.progress) _ _ refl (λ before begun stands. begun)
taken_what sending state now what.Abandon fresh kept placed goes calm =
    one_told state.paused (is_some state.eof) (told.Abandoned condition.cancel_request now.progress) _ _ refl (λ before begun stands. begun)

pub row_goes : (sending : Sending) (state now : State) (event : What) → refusal_of sending state event ≡ None → state.ended ≡ false → Calm state
    → Goes state.paused (is_some state.eof) (response_to sending state now (happens event))
row_goes sending state now event taken goes calm =
    let class = none_of (is_of_other_class sending.request.class event) refusal.ModeMismatch _ taken in
    let timer = none_of (is_stale_timer state.armed event) refusal.StaleTimer _ class.1 in
    let store = none_of (is_stale_store event) refusal.StaleStored _ timer.1 in
    let entries = none_of (is_misplaced sending state event) refusal.WrongState _ store.1 in
    taken_what sending state now event timer.0 store.0 entries.0 goes calm
