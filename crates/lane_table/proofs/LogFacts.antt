-- What holds of logs of both ends: one event more, and the words that they tell.
use Rattle.std.proofs.Common.{◌≡◌, ℕ, ◌+◌, Bool, true, false, List, [], ◌∷◌, ◌++◌, map, Option, Some, None, Ok, Err, if◌then◌else◌, refl, sym, ap, ◌∙◌, subst, arith}
use Rattle.std.proofs.lemmas.Bool.{false≢true}
use Rattle.std.proofs.lemmas.List.{map-append}
use Rattle.cfdp_types.specs.declared.key.TxnKey.{TxnKey}
use Rattle.txn_events.specs.Refusal.{unless_refused}
use Rattle.txn_events.specs.declared.answer.Answer.{Answer}
use Rattle.txn_events.specs.declared.refusal.Refusal.{Refusal}
use Rattle.txn_events.specs.declared.event.What.{What}
use Rattle.txn_events.specs.declared.event.What.TheVariants as what
use Rattle.indications.specs.declared.indication.Indication.{Indication}
use Rattle.indications.specs.declared.side.Side.{Side}
use Rattle.indications.specs.declared.side.Side.TheVariants.{Sender, Receiver}
use Rattle.indications.specs.Words.{IsBegunOf, IsWordOf}
use Rattle.indications.specs.LaneLists.{side_by, IsBegunGroup, IsWordGroup}
use Rattle.indications.proofs.LaneLemmas.{sender_side, receiver_side}
use Rattle.indications.proofs.WordLemmas.{opens_sender}
use Rattle.sender_table.specs.Sending as sender
use Rattle.sender_table.specs.Sending.{initial, state_of}
use Rattle.sender_table.specs.Answers as sender_answers
use Rattle.sender_table.specs.Answers.{answer_at}
use Rattle.sender_laws.specs.LegalSendings as sender_logs
use Rattle.sender_laws.proofs.SendingLegal as sender_laws
use Rattle.receiver_table.specs.Reception as receiver
use Rattle.receiver_table.specs.Answers as receiver_answers
use Rattle.receiver_laws.specs.LegalReceptions as receiver_logs
use Rattle.receiver_laws.proofs.ReceptionLegal as receiver_laws
use Rattle.txn_events.specs.declared.event.Event.{Event}
use Rattle.txn_events.specs.declared.event.Event.TheVariants.{Put, On}
use Rattle.lane_table.specs.declared.lane_side.LaneSide.{LaneSide}
use Rattle.lane_table.specs.declared.lane_side.LaneSide.TheVariants.{Sending, Receiving}
use Rattle.std.specs.Option.{option_map}
use Rattle.cfdp_types.specs.declared.key.EntityId.{EntityId}
use Rattle.lane_table.specs.Keeping.{IsOfSide}
use Rattle.lane_table.specs.Lane.{key_at, log_from}
use Rattle.lane_table.specs.Logs.{Transaction, sends, receives, Log, sent, received, body_opens, IsOfKey, answered_behind, extended, opened_by, end_of, side_of, to_sender, to_receiver, log_by, issued, has_ended, entries_of, IsLegal, refused_behind, last_answer}
use Rattle.txn_events.proofs.AnswerLemmas.{log_after-append, log_after-rest}
use Rattle.lane_table.specs.LaneLaws.{TellsWords}

-- ---- one event more

-- a log with an event that its end answers by its table
abbrev pub log_with : Log → Event → Log
log_with (sent sending log) event =
    sent sending (record { event = to_sender event; answer = sender_answers.accepted_at sending (sender.state_of sending log) (to_sender event) } ∷ log)
log_with (received reception log) (On key event) =
    received reception (record { event = event; answer = receiver_answers.accepted_at reception (receiver.state_of log) event } ∷ log)
log_with (received reception log) (Put request params) = received reception log

to_receiver-more : (events : List Event) (key : TxnKey) (event : What) → to_receiver (events ++ On key event ∷ []) ≡ to_receiver events ++ event ∷ []
to_receiver-more [] key event = refl
to_receiver-more (Put request params ∷ later) key event = to_receiver-more later key event
to_receiver-more (On other first ∷ later) key event = ap (λ l. first ∷ l) (to_receiver-more later key event)

to_receiver-put : (events : List Event) (request : _) (params : _) → to_receiver (events ++ Put request params ∷ []) ≡ to_receiver events
to_receiver-put [] request params = refl
to_receiver-put (Put other others ∷ later) request params = to_receiver-put later request params
to_receiver-put (On other first ∷ later) request params = ap (λ l. first ∷ l) (to_receiver-put later request params)

pub log_by-more : (transaction : Transaction) (events : List Event) (event : Event)
    → log_by transaction (events ++ event ∷ []) ≡ log_with (log_by transaction events) event
log_by-more (sends sending) events event =
    ap (λ l. sent sending (sender_logs.log_of sending l)) (map-append to_sender events (event ∷ []))
    ∙ ap (sent sending) (log_after-append (sender_logs.answer_behind sending) [] (map to_sender events) (to_sender event))
log_by-more (receives reception) events (On key event) =
    ap (λ l. received reception (receiver_logs.log_of reception l)) (to_receiver-more events key event)
    ∙ ap (received reception) (log_after-append (receiver_logs.answer_behind reception) [] (to_receiver events) event)
log_by-more (receives reception) events (Put request params) =
    ap (λ l. received reception (receiver_logs.log_of reception l)) (to_receiver-put events request params)

-- ---- its place

-- an event may stand behind a log
abbrev pub HasPlace : Log → Event → Type 0
HasPlace (sent sending log) event = sender_logs.HasItsPlace log (to_sender event)
HasPlace (received reception log) (On key event) = receiver_logs.HasItsPlace reception log event
HasPlace (received reception log) (Put request params) = ⊥

pub issued_with : (log : Log) (event : Event) → HasPlace log event
    → issued (log_with log event) ≡ issued log ++ (last_answer (log_with log event)).inds
issued_with (sent sending log) event place = refl
issued_with (received reception log) (On key event) place = refl
issued_with (received reception log) (Put request params) place = absurd place

pub entries_with : (log : Log) (event : Event) → HasPlace log event → entries_of (log_with log event) ≡ entries_of log + 1
entries_with (sent sending log) event place = omega arith
entries_with (received reception log) (On key event) place = omega arith
entries_with (received reception log) (Put request params) place = absurd place

pub legal_with : (log : Log) (event : Event) → IsLegal log → has_ended log ≡ false → HasPlace log event → refused_behind log event ≡ None
    → IsLegal (log_with log event)
unfolding answer_at receiver_answers.answer_at
legal_with (sent sending log) event legal goes place taken =
    (goes, place, ap (λ why. unless_refused why (sender_answers.accepted_at sending (sender.state_of sending log) (to_sender event))) taken, legal)
legal_with (received reception log) (On key event) legal goes place taken =
    (goes, place, ap (λ why. unless_refused why (receiver_answers.accepted_at reception (receiver.state_of log) event)) taken, legal)
legal_with (received reception log) (Put request params) legal goes place taken = absurd place

-- ---- an event that its end answers

accepted_is : (why : Option Refusal) (answer given : Answer) → unless_refused why answer ≡ Ok given → (why ≡ None) × (answer ≡ given)
accepted_is None answer given e = (refl, cc)
accepted_is (Some r) answer given e = absurd cc

refused_is : (why : Option Refusal) (answer : Answer) (r : Refusal) → unless_refused why answer ≡ Err r → why ≡ Some r
refused_is None answer r e = absurd cc
refused_is (Some w) answer r e = cc

-- it is not refused
pub taken_behind : (log : Log) (event : Event) (answer : Answer) → answered_behind log event ≡ Ok answer → refused_behind log event ≡ None
unfolding answer_at receiver_answers.answer_at
taken_behind (sent sending log) event answer is = (accepted_is _ _ answer is).0
taken_behind (received reception log) (On key event) answer is = (accepted_is _ _ answer is).0
taken_behind (received reception log) (Put request params) answer is = absurd cc

-- one that it does not answer is refused so
pub refused_so : (log : Log) (event : Event) (why : Refusal) → answered_behind log event ≡ Err why → refused_behind log event ≡ Some why
unfolding answer_at receiver_answers.answer_at
refused_so (sent sending log) event why is = refused_is _ _ why is
refused_so (received reception log) (On key event) why is = refused_is _ _ why is
refused_so (received reception log) (Put request params) why is = cc

-- the log with it
pub with_answer : (log : Log) (event : Event) (answer : Answer) → answered_behind log event ≡ Ok answer → log_with log event ≡ extended log event answer
unfolding answer_at receiver_answers.answer_at
with_answer (sent sending log) event answer is =
    ap (λ given. sent sending (record { event = to_sender event; answer = given } ∷ log)) (accepted_is _ _ answer is).1
with_answer (received reception log) (On key event) answer is =
    ap (λ given. received reception (record { event = event; answer = given } ∷ log)) (accepted_is _ _ answer is).1
with_answer (received reception log) (Put request params) answer is = absurd cc

pub last_is : (log : Log) (event : Event) (answer : Answer) → answered_behind log event ≡ Ok answer → last_answer (extended log event answer) ≡ answer
last_is (sent sending log) event answer is = refl
last_is (received reception log) (On key event) answer is = refl
last_is (received reception log) (Put request params) answer is = absurd cc

pub issued_is : (log : Log) (event : Event) (answer : Answer) → answered_behind log event ≡ Ok answer
    → issued (extended log event answer) ≡ issued log ++ answer.inds
issued_is (sent sending log) event answer is = refl
issued_is (received reception log) (On key event) answer is = refl
issued_is (received reception log) (Put request params) answer is = absurd cc

-- ---- the first event, and those behind it

pub nothing_legal : (transaction : Transaction) → IsLegal (log_by transaction [])
nothing_legal (sends sending) = tt
nothing_legal (receives reception) = tt

pub nothing_ended : (transaction : Transaction) → has_ended (log_by transaction []) ≡ false
unfolding initial state_of receiver.initial receiver.state_of
nothing_ended (sends sending) = refl
nothing_ended (receives reception) = refl

pub nothing_issued : (transaction : Transaction) → issued (log_by transaction []) ≡ []
nothing_issued (sends sending) = refl
nothing_issued (receives reception) = refl

pub nothing_counted : (transaction : Transaction) → entries_of (log_by transaction []) ≡ 0
nothing_counted (sends sending) = refl
nothing_counted (receives reception) = refl

-- of a transaction, if there is one
abbrev pub IfOpened : Option Transaction → (Transaction → Type 0) → Type 0
IfOpened None P = Unit {0}
IfOpened (Some transaction) P = P transaction

if_opens : (b : Bool) (transaction : Transaction) (P : Transaction → Type 0) → (b ≡ true → P transaction)
    → IfOpened (if b then Some transaction else None) P
if_opens true transaction P holds = holds refl
if_opens false transaction P holds = tt

pub first_place : (side : LaneSide) (key : TxnKey) (event : Event) → IsOfKey event key
    → IfOpened (opened_by side key event) (λ transaction. HasPlace (log_by transaction []) event)
first_place (Sending numbers greatest) key (Put request params) keyed = tt
first_place (Receiving params) key (On named (what.Pdu pdu)) keyed =
    if_opens (body_opens pdu.body) (receives (record { key = key; params = params; header = pdu.header }))
    (λ transaction. HasPlace (log_by transaction []) (On named (what.Pdu pdu)))
    (λ opens. (opens, refl, keyed.0, keyed.1))
first_place (Sending numbers greatest) key (On named event) keyed = tt
first_place (Receiving params) key (Put request others) keyed = tt
first_place (Receiving params) key (On named what.Cancel) keyed = tt
first_place (Receiving params) key (On named what.Suspend) keyed = tt
first_place (Receiving params) key (On named what.Resume) keyed = tt
first_place (Receiving params) key (On named what.Report) keyed = tt
first_place (Receiving params) key (On named what.Abandon) keyed = tt
first_place (Receiving params) key (On named what.Pump) keyed = tt
first_place (Receiving params) key (On named (what.Timer kind stamp)) keyed = tt
first_place (Receiving params) key (On named (what.Stored stamp kept)) keyed = tt

place_in_sent : (sending : sender.Sending) (first : sender.Event) (later : List sender.Event) (event : What)
    → sender_logs.HasItsPlace (sender_logs.log_of sending (first ∷ later)) (sender.happens event)
place_in_sent sending first later event =
    log_after-rest (λ log. sender_logs.HasItsPlace log (sender.happens event)) (sender_logs.answer_behind sending) (record { event = first; answer = sender_logs.answer_behind sending [] first } ∷ []) later tt (λ entry rest. tt)

place_in_received : (reception : receiver.Reception) (first : What) (later : List What) (event : What)
    → receiver_logs.HasItsPlace reception (receiver_logs.log_of reception (first ∷ later)) event
place_in_received reception first later event =
    log_after-rest (λ log. receiver_logs.HasItsPlace reception log event) (receiver_logs.answer_behind reception) (record { event = first; answer = receiver_logs.answer_behind reception [] first } ∷ []) later tt (λ entry rest. tt)

pub later_place : (side : LaneSide) (key named : TxnKey) (first : Event) (later : List Event) (event : What)
    → IfOpened (opened_by side key first) (λ transaction. HasPlace (log_by transaction (first ∷ later)) (On named event))
later_place (Sending numbers greatest) key named (Put request params) later event = place_in_sent (record { key = key; params = params; request = request }) sender.put (map to_sender later) event
later_place (Receiving params) key named (On other (what.Pdu pdu)) later event =
    if_opens (body_opens pdu.body) (receives (record { key = key; params = params; header = pdu.header }))
    (λ transaction. HasPlace (log_by transaction (On other (what.Pdu pdu) ∷ later)) (On named event))
    (λ opens. place_in_received (record { key = key; params = params; header = pdu.header }) (what.Pdu pdu) (to_receiver later) event)
later_place (Sending numbers greatest) key named (On other first) later event = tt
later_place (Receiving params) key named (Put request others) later event = tt
later_place (Receiving params) key named (On other what.Cancel) later event = tt
later_place (Receiving params) key named (On other what.Suspend) later event = tt
later_place (Receiving params) key named (On other what.Resume) later event = tt
later_place (Receiving params) key named (On other what.Report) later event = tt
later_place (Receiving params) key named (On other what.Abandon) later event = tt
later_place (Receiving params) key named (On other what.Pump) later event = tt
later_place (Receiving params) key named (On other (what.Timer kind stamp)) later event = tt
later_place (Receiving params) key named (On other (what.Stored stamp kept)) later event = tt

-- ---- words

pub lane_words : TellsWords
lane_words (sent sending log) legal = sender_laws.tells_words sending log legal
lane_words (received reception log) legal = receiver_laws.tells_words reception log legal

side_shown : (side : Side) (first : Indication) (rest : List Indication) → IsBegunOf side (first ∷ rest) → side ≡ side_by first
side_shown Sender first rest begun = sym (sender_side first (opens_sender first rest begun))
side_shown Receiver first rest begun = sym (receiver_side first rest begun)

-- the beginning of a word is of its side
pub begun_side : (side : Side) (word : List Indication) → IsBegunOf side word → IsOfSide side word
begun_side side [] begun = tt
begun_side side (first ∷ rest) begun = side_shown side first rest begun

-- the transaction that an event opens at a lane is of the lane's end
opened_side : (side : LaneSide) (key : TxnKey) (event : Event) (events : List Event)
    → IfOpened (opened_by side key event) (λ transaction. end_of side ≡ side_of (log_by transaction events))
opened_side (Sending numbers greatest) key (Put request params) events = refl
opened_side (Receiving params) key (On named (what.Pdu pdu)) events =
    if_opens (body_opens pdu.body) (receives (record { key = key; params = params; header = pdu.header }))
    (λ transaction. Receiver ≡ side_of (log_by transaction events)) (λ opens. refl)
opened_side (Sending numbers greatest) key (On named event) events = tt
opened_side (Receiving params) key (Put request others) events = tt
opened_side (Receiving params) key (On named what.Cancel) events = tt
opened_side (Receiving params) key (On named what.Suspend) events = tt
opened_side (Receiving params) key (On named what.Resume) events = tt
opened_side (Receiving params) key (On named what.Report) events = tt
opened_side (Receiving params) key (On named what.Abandon) events = tt
opened_side (Receiving params) key (On named what.Pump) events = tt
opened_side (Receiving params) key (On named (what.Timer kind stamp)) events = tt
opened_side (Receiving params) key (On named (what.Stored stamp kept)) events = tt

side_by_opened : (side : Side) (opened : Option Transaction) (events : List Event) (log : Log)
    → option_map (λ transaction. log_by transaction events) opened ≡ Some log
    → IfOpened opened (λ transaction. side ≡ side_of (log_by transaction events)) → side ≡ side_of log
side_by_opened side None events log is same = absurd cc
side_by_opened side (Some transaction) events log is same = same ∙ ap side_of (log_is (log_by transaction events) log is)
  where
    log_is : (one other : Log) → Some one ≡ Some other → one ≡ other
    log_is one other is = cc

-- the log of a lane's transaction is of the lane's end
pub log_side : (side : LaneSide) (source : EntityId) (last : Option ℕ) (journal : List Event) (log : Log)
    → log_from side source last journal ≡ Some log → end_of side ≡ side_of log
log_side side source None journal log is = absurd cc
log_side side source (Some number) [] log is = absurd cc
log_side side source (Some number) (first ∷ later) log is =
    side_by_opened (end_of side) (opened_by side (key_at source number) first) (first ∷ later) log is
    (opened_side side (key_at source number) first (first ∷ later))

-- the beginning of a word of a side shows its side
pub begun_group : (side : Side) (word : List Indication) → IsBegunOf side word → IsBegunGroup word
begun_group side [] begun = tt
begun_group side (first ∷ rest) begun = subst (λ s. IsBegunOf s (first ∷ rest)) (side_shown side first rest begun) begun

pub word_group : (side : Side) (word : List Indication) → IsWordOf side word → IsWordGroup word
word_group side [] is = absurd (false≢true is.1)
word_group side (first ∷ rest) is = subst (λ s. IsWordOf s (first ∷ rest)) (side_shown side first rest is.0) is
