-- What the responses of the table send of the file.
use Rattle.std.proofs.Common.{◌≡◌, ℕ, ◌+◌, ◌-◌, ◌<◌, ◌≤◌, min, max, Bool, true, false, not, ◌&&◌, ◌||◌, nat_lt, if◌then◌else◌, List, [], ◌∷◌, map, length, take, drop, Option, Some, None, eqb, refl, sym, ap, ◌∙◌, arith, inl, inr, cond}
use Rattle.std.specs.List.{list_any}
use Rattle.std.proofs.lemmas.List.{length-take, length-drop}
use Rattle.std.proofs.lemmas.Bool.{cases_Bool, ltb-true}
use Rattle.std.proofs.lemmas.Bool.Decides.{nat_tests}
use Rattle.cfdp_types.specs.Handlers.{handler_in}
use Rattle.cfdp_types.specs.Condition as condition
use Rattle.cfdp_types.specs.declared.condition.Condition.{Condition}
use Rattle.cfdp_types.specs.declared.names.Class.{Class}
use Rattle.cfdp_types.specs.declared.names.Class.TheVariants.{One, Two}
use Rattle.cfdp_types.specs.declared.names.Handler.{Handler}
use Rattle.cfdp_types.specs.declared.names.Handler.TheVariants as handler
use Rattle.cfdp_types.specs.declared.names.TimerKind.{TimerKind}
use Rattle.cfdp_types.specs.declared.names.TimerKind.TheVariants.{Ack, Nak, Check, Inactivity}
use Rattle.gap_list.specs.declared.run.Run.{Run}
use Rattle.gap_list.specs.Runs.{is_within, without_range}
use Rattle.txn_events.specs.declared.event.What.{What}
use Rattle.txn_events.specs.declared.event.What.TheVariants as what
use Rattle.pdu_values.specs.Pdu.{PduValue}
use Rattle.pdu_values.specs.declared.pdu.Body.{Body}
use Rattle.pdu_values.specs.declared.pdu.Body.TheVariants as body
use Rattle.pdu_values.specs.declared.bodies.Eof.{Eof}
use Rattle.pdu_values.specs.declared.bodies.Finished.{Finished}
use Rattle.sender_table.specs.Sending.{Sending, State, happens, covers, extent_of, eof_among, asks_for, requests_of, is_closing}
use Rattle.sender_table.specs.Refusals.{runs_to_send}
use Rattle.sender_table.specs.Answers.{Response, cancel_response, fault_response, sends_eof, sends_next, on_pump, on_body, on_timer, response_to, last_eof, ends_unreported, nothing, acks_of, header_of}
use Rattle.sender_core.specs.Remaining.{with_requests}
use Rattle.sender_core.specs.ControlBlock.{eof_size}
use Rattle.sender_core.specs.Core.{pdus_of_response, remains_after}
use Rattle.sender_core.proofs.CoreLemmas.{IsLowest, lowest}

-- no octet of the file is sent
pub record NoData (pdus : List PduValue) : Type 0 where
  pub covers : (i : ℕ) → list_any (covers i) pdus ≡ false
  pub extent : extent_of pdus ≡ 0

chosen : (sending : Sending) (b : Bool) (x y : Response) → NoData (pdus_of_response sending x) → NoData (pdus_of_response sending y) → NoData (pdus_of_response sending (if b then x else y))
chosen sending true x y p q = p
chosen sending false x y p q = q

no_data_cancels : (sending : Sending) (state : State) (code : Condition) (class : Class) → sending.request.class ≡ class → NoData (pdus_of_response sending (cancel_response sending state code))
no_data_cancels sending state code One is = rw is (record { covers = λ i. refl; extent = refl })
no_data_cancels sending state code Two is = rw is (record { covers = λ i. refl; extent = refl })

no_data_faults : (sending : Sending) (state : State) (kind : TimerKind) (code : Condition) (h : Handler) → handler_in sending.params.tables.send code ≡ h
    → NoData (pdus_of_response sending (fault_response sending state kind code))
no_data_faults sending state kind code handler.Cancel is = rw is (no_data_cancels sending state code sending.request.class refl)
no_data_faults sending state kind code handler.Suspend is = rw is (record { covers = λ i. refl; extent = refl })
no_data_faults sending state kind code handler.Ignore is = rw is (record { covers = λ i. refl; extent = refl })
no_data_faults sending state kind code handler.Abandon is = rw is (record { covers = λ i. refl; extent = refl })

no_data_eof : (sending : Sending) (class : Class) (asked : Bool) → sending.request.class ≡ class → sending.request.closure ≡ asked → NoData (pdus_of_response sending (sends_eof sending))
no_data_eof sending One true is asks = rw (is, asks) (record { covers = λ i. refl; extent = refl })
no_data_eof sending One false is asks = rw (is, asks) (record { covers = λ i. refl; extent = refl })
no_data_eof sending Two asked is asks = rw is (record { covers = λ i. refl; extent = refl })

no_data_again : (sending : Sending) (o : Option Eof) → NoData (pdus_of_response sending (record nothing { bodies = last_eof o; arms = Ack ∷ [] }))
no_data_again sending None = record { covers = λ i. refl; extent = refl }
no_data_again sending (Some e) = record { covers = λ i. refl; extent = refl }

no_data_acks : (sending : Sending) (f : Finished) (class : Class) → NoData (map (λ b. record { header = header_of sending; body = b }) (acks_of class f))
no_data_acks sending f One = record { covers = λ i. refl; extent = refl }
no_data_acks sending f Two = record { covers = λ i. refl; extent = refl }

no_data_body : (sending : Sending) (state : State) (b : Body) → NoData (pdus_of_response sending (on_body sending state b))
no_data_body sending state (body.Ack a) = chosen sending (is_closing state) (ends_unreported a.condition) nothing (record { covers = λ i. refl; extent = refl }) (record { covers = λ i. refl; extent = refl })
no_data_body sending state (body.Finished f) = no_data_acks sending f sending.request.class
no_data_body sending state (body.Metadata m) = record { covers = λ i. refl; extent = refl }
no_data_body sending state (body.FileData d) = record { covers = λ i. refl; extent = refl }
no_data_body sending state (body.Eof e) = record { covers = λ i. refl; extent = refl }
no_data_body sending state (body.Nak n) = record { covers = λ i. refl; extent = refl }
no_data_body sending state (body.Prompt p) = record { covers = λ i. refl; extent = refl }
no_data_body sending state (body.KeepAlive k) = record { covers = λ i. refl; extent = refl }

no_data_timer : (sending : Sending) (state : State) (kind : TimerKind) → NoData (pdus_of_response sending (on_timer sending state state kind))
no_data_timer sending state Ack =
    chosen sending (nat_lt (state.tries Ack + 1) sending.params.limits.ack) _ _ (no_data_again sending state.eof)
    (chosen sending (is_closing state) _ _ (record { covers = λ i. refl; extent = refl })
    (no_data_faults sending state Ack condition.positive_ack_limit _ refl))
no_data_timer sending state Inactivity = no_data_faults sending state Inactivity condition.inactivity _ refl
no_data_timer sending state Nak = record { covers = λ i. refl; extent = refl }
no_data_timer sending state Check =
    chosen sending (nat_lt (state.tries Check + 1) sending.params.limits.check) _ _ (record { covers = λ i. refl; extent = refl })
    (no_data_faults sending state Check condition.check_limit _ refl)

abbrev pub is_pump : What → Bool
is_pump what.Pump = true
is_pump _ = false

-- no response but that of Pump sends octets of the file
pub no_data : (sending : Sending) (state : State) (event : What) → is_pump event ≡ false → NoData (pdus_of_response sending (response_to sending state state (happens event)))
no_data sending state (what.Pdu pdu) other = no_data_body sending state pdu.body
no_data sending state (what.Timer kind stamp) other = no_data_timer sending state kind
no_data sending state what.Cancel other = no_data_cancels sending state condition.cancel_request _ refl
no_data sending state what.Suspend other = record { covers = λ i. refl; extent = refl }
no_data sending state what.Resume other = record { covers = λ i. refl; extent = refl }
no_data sending state what.Report other = record { covers = λ i. refl; extent = refl }
no_data sending state what.Abandon other = record { covers = λ i. refl; extent = refl }
no_data sending state (what.Stored stamp kept) other = record { covers = λ i. refl; extent = refl }
no_data sending state what.Pump other = absurd cc

part_extent : (file : List ℕ) (start n : ℕ) → max (cond (eqb (length (take n (drop start file))) 0) 0 (start + length (take n (drop start file)))) 0 ≤ length file
part_extent file start n =
    elim (cases_Bool (eqb (length (take n (drop start file))) 0)) [
      | inl none ↦ rw none (omega arith)
      | inr some ↦ rw some (grind (arith, nat_tests, some, length-take n (drop start file), length-drop start file))
    ]

next_extent : (sending : Sending) (runs : List Run) → extent_of (pdus_of_response sending (sends_next sending runs)) ≤ length sending.request.file
next_extent sending [] = rw (no_data_eof sending _ _ refl refl).extent (omega arith)
next_extent sending (run ∷ runs) = part_extent sending.request.file run.start (min sending.params.segment_octets (run.end - run.start))

pump_extent : (sending : Sending) (state : State) (b : Bool) → state.metadata_remains ≡ b → extent_of (pdus_of_response sending (on_pump sending state)) ≤ length sending.request.file
pump_extent sending state true is = rw is (omega arith)
pump_extent sending state false is = rw is (next_extent sending (runs_to_send sending state))

-- nothing is sent that is not in the file
pub extent_inside : (sending : Sending) (state : State) (event : What) → extent_of (pdus_of_response sending (response_to sending state state (happens event))) ≤ length sending.request.file
extent_inside sending state event =
    elim (cases_Bool (is_pump event)) [
      | inl is ↦ at_pump event is
      | inr other ↦ rw (no_data sending state event other).extent (omega arith)
    ]
  where
    at_pump : (event : What) → is_pump event ≡ true → extent_of (pdus_of_response sending (response_to sending state state (happens event))) ≤ length sending.request.file
    at_pump what.Pump is = pump_extent sending state state.metadata_remains refl
    at_pump (what.Pdu pdu) is = absurd cc
    at_pump (what.Timer kind stamp) is = absurd cc
    at_pump what.Cancel is = absurd cc
    at_pump what.Suspend is = absurd cc
    at_pump what.Resume is = absurd cc
    at_pump what.Report is = absurd cc
    at_pump what.Abandon is = absurd cc
    at_pump (what.Stored stamp kept) is = absurd cc

-- ---- the size in an EOF

abbrev IsShort : Sending → Option Eof → Type 0
IsShort sending eof = eof_size eof ≤ length sending.request.file

abbrev EofShort : Sending → Response → Type 0
EofShort sending response = IsShort sending (eof_among (pdus_of_response sending response))

short_if : (sending : Sending) (b : Bool) (x y : Response) → EofShort sending x → EofShort sending y → EofShort sending (if b then x else y)
short_if sending true x y p q = p
short_if sending false x y p q = q

short_cancels : (sending : Sending) (state : State) (code : Condition) (class : Class) → sending.request.class ≡ class → state.progress ≤ length sending.request.file
    → EofShort sending (cancel_response sending state code)
short_cancels sending state code One is inside = rw is inside
short_cancels sending state code Two is inside = rw is inside

short_faults : (sending : Sending) (state : State) (kind : TimerKind) (code : Condition) (h : Handler) → handler_in sending.params.tables.send code ≡ h
    → state.progress ≤ length sending.request.file → EofShort sending (fault_response sending state kind code)
short_faults sending state kind code handler.Cancel is inside = rw is (short_cancels sending state code sending.request.class refl inside)
short_faults sending state kind code handler.Suspend is inside = rw is (omega arith)
short_faults sending state kind code handler.Ignore is inside = rw is (omega arith)
short_faults sending state kind code handler.Abandon is inside = rw is (omega arith)

short_eof : (sending : Sending) (class : Class) (asked : Bool) → sending.request.class ≡ class → sending.request.closure ≡ asked → EofShort sending (sends_eof sending)
short_eof sending One true is asks = rw (is, asks) (omega arith)
short_eof sending One false is asks = rw (is, asks) (omega arith)
short_eof sending Two asked is asks = rw is (omega arith)

short_next : (sending : Sending) (runs : List Run) → EofShort sending (sends_next sending runs)
short_next sending [] = short_eof sending _ _ refl refl
short_next sending (run ∷ runs) = omega arith

short_again : (sending : Sending) (o : Option Eof) → IsShort sending o → EofShort sending (record nothing { bodies = last_eof o; arms = Ack ∷ [] })
short_again sending None short = omega arith
short_again sending (Some e) short = short

short_acks : (sending : Sending) (f : Finished) (class : Class) → IsShort sending (eof_among (map (λ b. record { header = header_of sending; body = b }) (acks_of class f)))
short_acks sending f One = omega arith
short_acks sending f Two = omega arith

short_body : (sending : Sending) (state : State) (b : Body) → EofShort sending (on_body sending state b)
short_body sending state (body.Ack a) = short_if sending (is_closing state) (ends_unreported a.condition) nothing (omega arith) (omega arith)
short_body sending state (body.Finished f) = short_acks sending f sending.request.class
short_body sending state (body.Metadata m) = omega arith
short_body sending state (body.FileData d) = omega arith
short_body sending state (body.Eof e) = omega arith
short_body sending state (body.Nak n) = omega arith
short_body sending state (body.Prompt p) = omega arith
short_body sending state (body.KeepAlive k) = omega arith

short_timer : (sending : Sending) (state : State) (kind : TimerKind) → IsShort sending state.eof → state.progress ≤ length sending.request.file
    → EofShort sending (on_timer sending state state kind)
short_timer sending state Ack short inside =
    short_if sending (nat_lt (state.tries Ack + 1) sending.params.limits.ack) _ _ (short_again sending state.eof short)
    (short_if sending (is_closing state) _ (fault_response sending state Ack condition.positive_ack_limit) (omega arith)
    (short_faults sending state Ack condition.positive_ack_limit _ refl inside))
short_timer sending state Inactivity short inside = short_faults sending state Inactivity condition.inactivity _ refl inside
short_timer sending state Nak short inside = omega arith
short_timer sending state Check short inside =
    short_if sending (nat_lt (state.tries Check + 1) sending.params.limits.check) _ (fault_response sending state Check condition.check_limit) (omega arith)
    (short_faults sending state Check condition.check_limit _ refl inside)

-- no EOF says more than the file has
pub eof_short : (sending : Sending) (state : State) (event : What) → IsShort sending state.eof → state.progress ≤ length sending.request.file
    → EofShort sending (response_to sending state state (happens event))
eof_short sending state (what.Pdu pdu) short inside = short_body sending state pdu.body
eof_short sending state (what.Timer kind stamp) short inside = short_timer sending state kind short inside
eof_short sending state what.Pump short inside = short_if sending state.metadata_remains _ (sends_next sending (runs_to_send sending state)) (omega arith) (short_next sending (runs_to_send sending state))
eof_short sending state what.Cancel short inside = short_cancels sending state condition.cancel_request _ refl inside
eof_short sending state what.Suspend short inside = omega arith
eof_short sending state what.Resume short inside = omega arith
eof_short sending state what.Report short inside = omega arith
eof_short sending state what.Abandon short inside = omega arith
eof_short sending state (what.Stored stamp kept) short inside = omega arith

-- ---- what is left to send

nothing_new : (set covered below asked : Bool) → covered ≡ false → asked ≡ false → set ≡ ((set && not covered) || (below && asked))
nothing_new true covered below asked none nor = rw none refl
nothing_new false covered true asked none nor = sym nor
nothing_new false covered false asked none nor = refl

pub left_same : (sending : Sending) (state : State) (event : What) (i : ℕ) → is_pump event ≡ false → requests_of (happens event) ≡ []
    → state.remains i ≡ remains_after sending state event i
left_same sending state event i other none =
    nothing_new (state.remains i) _ (nat_lt i (length sending.request.file)) (list_any (asks_for i) (requests_of (happens event)))
    ((no_data sending state event other).covers i) (rw none refl)

new_asked : (set covered more : Bool) → covered ≡ false → (set || more) ≡ ((set && not covered) || more)
new_asked true covered more none = rw none refl
new_asked false covered more none = refl

pub left_anew : (sending : Sending) (state : State) (event : What) (i : ℕ) → is_pump event ≡ false
    → with_requests state.remains (requests_of (happens event)) (length sending.request.file) i ≡ remains_after sending state event i
left_anew sending state event i other =
    new_asked (state.remains i) _ (nat_lt i (length sending.request.file) && list_any (asks_for i) (requests_of (happens event)))
    ((no_data sending state event other).covers i)

pub left_by_metadata : (sending : Sending) (state : State) (i : ℕ) → state.metadata_remains ≡ true → state.remains i ≡ remains_after sending state what.Pump i
left_by_metadata sending state i remains =
    nothing_new (state.remains i) _ (nat_lt i (length sending.request.file)) false (rw remains refl) refl

pub left_by_eof : (sending : Sending) (state : State) (i : ℕ) → state.metadata_remains ≡ false → runs_to_send sending state ≡ [] → state.remains i ≡ remains_after sending state what.Pump i
left_by_eof sending state i remains none =
    nothing_new (state.remains i) _ (nat_lt i (length sending.request.file)) false (rw (remains, none) ((no_data_eof sending _ _ refl refl).covers i)) refl

and_false : (b : Bool) → (b && false) ≡ false
and_false true = refl
and_false false = refl

or_false : (b : Bool) → (b || false) ≡ b
or_false true = refl
or_false false = refl

-- without what lies below the end of a range, where nothing lies below its start
without_front : (set : ℕ → Bool) (start end i : ℕ) → ((i : ℕ) → i < start → set i ≡ false)
    → without_range set 0 end i ≡ (set i && not (is_within start end i))
without_front set start end i front =
    elim (cases_Bool (nat_lt i start)) [
      | inl below ↦ rw (front i (ltb-true i start below)) refl
      | inr above ↦
          let same : is_within 0 end i ≡ is_within start end i = grind (arith, nat_tests, above) in
          ap (λ b. set i && not b) same
    ]

part_taken : (set within covered below : Bool) → covered ≡ within → (set && not within) ≡ ((set && not covered) || (below && false))
part_taken set within covered below is =
    rw is (sym (ap (λ b. (set && not within) || b) (and_false below) ∙ or_false (set && not within)))

-- the first octets of the lowest run are sent
pub left_by_part : (sending : Sending) (state : State) (n : ℕ) (run : Run) (later : List Run) (i : ℕ) → state.metadata_remains ≡ false → runs_to_send sending state ≡ run ∷ later
    → n ≡ min sending.params.segment_octets (run.end - run.start)
    → without_range state.remains 0 (run.start + n) i ≡ remains_after sending state what.Pump i
left_by_part sending state n run later i remains runs part =
    let file : List ℕ = sending.request.file in
    let m : ℕ = min sending.params.segment_octets (run.end - run.start) in
    let first : IsLowest state.remains (length file) run = lowest state.remains (length file) run later runs in
    let long : length (take m (drop run.start file)) ≡ n = omega (arith, length-take m (drop run.start file), length-drop run.start file, part, first.filled, first.within) in
    let covered : list_any (covers i) (pdus_of_response sending (response_to sending state state (happens what.Pump))) ≡ is_within run.start (run.start + n) i =
    rw (remains, runs) (or_false (is_within run.start (run.start + length (take m (drop run.start file))) i) ∙ ap (λ k. is_within run.start (run.start + k) i) long) in
    without_front state.remains run.start (run.start + n) i first.front
    ∙ part_taken (state.remains i) _ _ (nat_lt i (length file)) covered
