-- Rows. Worked transactions of a sender in both classes: whole transactions, with proof that their logs are
-- legal, and the definitions that the other files of rows share.
use Rattle.std.specs.Prelude.{◌≡◌, false, ℕ, List, [], ◌∷◌, ◌++◌, map, Option, Some, None, Result, Ok, Err, refl}
use Rattle.std.proofs.Common.{ap}
use Rattle.std.proofs.lemmas.Bool.{true≢false}
use Rattle.cfdp_types.specs.Handlers.{with_handler}
use Rattle.cfdp_types.specs.Reference.{all_cancel, reference}
use Rattle.cfdp_types.specs.declared.names.Class.{Class}
use Rattle.cfdp_types.specs.declared.names.Class.TheVariants.{One, Two}
use Rattle.cfdp_types.specs.declared.names.Delivery.TheVariants.{Complete, Incomplete}
use Rattle.cfdp_types.specs.declared.names.FileStatus.TheVariants.{Retained, Unreported}
use Rattle.cfdp_types.specs.declared.names.Handler.{Handler}
use Rattle.cfdp_types.specs.declared.names.Role.TheVariants.{Send}
use Rattle.cfdp_types.specs.declared.names.TimerKind.TheVariants.{Ack}
use Rattle.cfdp_types.specs.declared.timer_op.TimerOp.{TimerOp}
use Rattle.txn_events.specs.declared.event.What.TheVariants as what
use Rattle.txn_events.specs.declared.refusal.Refusal.{Refusal}
use Rattle.pdu_values.specs.Spelling.{written}
use Rattle.pdu_values.specs.declared.pdu.Direction.TheVariants.{TowardSender}
use Rattle.pdu_values.specs.declared.pdu.Body.{Body}
use Rattle.pdu_values.specs.declared.pdu.Body.TheVariants as body
use Rattle.pdu_values.specs.declared.bodies.Acknowledged.TheVariants as acknowledged
use Rattle.pdu_values.specs.declared.bodies.TransactionStatus.TheVariants.{Active}
use Rattle.pdu_values.specs.declared.requests.SegmentRequest.{SegmentRequest}
use Rattle.indications.specs.declared.indication.Indication.{Indication}
use Rattle.indications.specs.declared.indication.Indication.TheVariants as told
use Rattle.gap_list.specs.Runs.{runs_of, runs_from}
use Rattle.txn_events.specs.declared.answer.Answer.{Answer}
use Rattle.sender_table.specs.Sending.{Sending, Event, put, happens, Entry, initial, step, state_of, issued}
use Rattle.sender_table.specs.Answers.{empty_answer, answer_at}
pub use Rattle.txn_events.specs.Examples.{abc}
use Rattle.txn_events.specs.Examples.{put_value}
use Rattle.sender_laws.specs.LegalSendings.{log_of, IsLegal}

-- ---- the transaction

-- a file "a" from entity 2, to be stored as "b" at entity 1
abbrev pub sending : Class → ℕ → List ℕ → Sending
sending class seq file = record {
  key = record { source = record { 0 = 2 }; seq = seq };
  params = reference;
  request = put_value class file;
}

-- the file "abc" in class 1
abbrev pub one : Sending
one = sending One 4 abc

-- the file "abc" in class 2
abbrev pub two : Sending
two = sending Two 4 abc

-- the reference with another handler of a sender for a condition
abbrev pub two_with : ℕ → Handler → Sending
two_with code handler =
    record two { params = record reference { tables = record (reference.tables) { send = with_handler (all_cancel Send) code handler } } }

-- the reference with limits and timer lengths that all differ
abbrev pub unequal_two : Sending
unequal_two = record two {
  params = record reference {
    timers = record { ack = 1000; nak = 1001; check = 1002; inactivity = 1003 };
    limits = record { ack = 2; nak = 3; check = 4 };
  };
}

-- five octets, in segments of two
abbrev pub small_parts : Sending
small_parts =
    record two { params = record reference { segment_octets = 2 }; request = record (two.request) { file = 97 ∷ 98 ∷ 99 ∷ 100 ∷ 101 ∷ [] } }

-- ---- events

-- the next PDU is due to be sent
abbrev pub pump : Event
pump = happens what.Pump

-- the user asks for a report
abbrev pub report : Event
report = happens what.Report

-- a PDU from the receiver, in a class
abbrev pub pdu_in : Class → Body → Event
pdu_in class b = happens (what.Pdu (record {
  header = record {
    direction = TowardSender;
    class = class;
    large = false;
    entity_octets = 1;
    sequence_octets = 1;
    source = record { 0 = 2 };
    sequence = 4;
    destination = record { 0 = 1 };
  };
  body = b;
}))

-- a PDU from the receiver, in class 2
abbrev pub pdu : Body → Event
pdu b = pdu_in Two b

-- the ACK of an EOF with this condition
abbrev pub eof_acknowledged : ℕ → Event
eof_acknowledged code = pdu (body.Ack (record { of = acknowledged.Eof; condition = code; status = Active }))

-- a NAK with these requests
abbrev pub asks : List SegmentRequest → Event
asks requests = pdu (body.Nak (record { start = 0; end = 3; requests = requests }))

-- a NAK for the octet in the middle
abbrev pub nak : Event
nak = asks (record { start = 1; end = 2 } ∷ [])

-- the Finished PDU of a file that is kept
abbrev pub finished : Event
finished = pdu (body.Finished (record { condition = 0; delivery = Complete; status = Retained; location = None }))

-- the Put, and then everything is sent
abbrev pub sent_all : List Event
sent_all = put ∷ pump ∷ pump ∷ pump ∷ []

-- the Put, everything is sent, and the EOF is acknowledged
abbrev pub acknowledged_all : List Event
acknowledged_all = sent_all ++ eof_acknowledged 0 ∷ []

-- ---- logs

-- the log of these events in order, each answered by the table
abbrev pub after : Sending → List Event → List Entry
after s events = log_of s events

-- the answer to the last event
abbrev pub last : Sending → List Event → Event → Result Answer Refusal
last s events event = answer_at s (state_of s (after s events)) event

-- ---- what an answer shows: None where the event is refused

-- the indications to the user
abbrev pub tells : Result Answer Refusal → Option (List Indication)
tells (Ok answer) = Some answer.inds
tells (Err why) = None

-- the PDUs that are sent, as octets
abbrev pub sends : Result Answer Refusal → Option (List (List ℕ))
sends (Ok answer) = Some (map written answer.pdus)
sends (Err why) = None

-- the timer operations
abbrev pub operates : Result Answer Refusal → Option (List TimerOp)
operates (Ok answer) = Some answer.timers
operates (Err why) = None

-- ---- whole transactions, with all indications

-- class 1: Metadata, the file, and the EOF, which ends the transaction
abbrev pub whole_in_one : List Event
whole_in_one = put ∷ pump ∷ pump ∷ pump ∷ []

pub whole_in_one_told : issued (after one whole_in_one)
    ≡ told.Transaction ∷ told.EofSent ∷ told.TransactionFinished 0 Incomplete Unreported ∷ []
unfolding initial step state_of runs_of runs_from
whole_in_one_told = refl

pub whole_in_one_legal : IsLegal one (after one whole_in_one)
unfolding initial step state_of answer_at runs_of runs_from
whole_in_one_legal = (refl, tt, refl, (refl, tt, refl, (refl, tt, refl, (refl, tt, refl, tt))))

-- class 1: the user cancels
abbrev pub cancelled_in_one : List Event
cancelled_in_one = put ∷ pump ∷ happens what.Cancel ∷ []

pub cancelled_in_one_told : issued (after one cancelled_in_one) ≡ told.Transaction ∷ told.TransactionFinished 15 Incomplete Unreported ∷ []
unfolding initial step state_of runs_of runs_from
cancelled_in_one_told = refl

pub cancelled_in_one_legal : IsLegal one (after one cancelled_in_one)
unfolding initial step state_of answer_at runs_of runs_from
cancelled_in_one_legal = (refl, tt, refl, (refl, tt, refl, (refl, tt, refl, tt)))

-- class 2, with one octet requested again
abbrev pub whole_in_two : List Event
whole_in_two = put ∷ pump ∷ pump ∷ pump ∷ nak ∷ pump ∷ eof_acknowledged 0 ∷ finished ∷ []

pub whole_in_two_told : issued (after two whole_in_two)
    ≡ told.Transaction ∷ told.EofSent ∷ told.TransactionFinished 0 Complete Retained ∷ []
unfolding initial step state_of runs_of runs_from
whole_in_two_told = refl

pub whole_in_two_legal : IsLegal two (after two whole_in_two)
unfolding initial step state_of answer_at runs_of runs_from
whole_in_two_legal = (refl, tt, refl, (refl, tt, refl, (refl, tt, refl, (refl, tt, refl, (refl, tt, refl, (refl, tt, refl, (refl, tt, refl, (refl, tt, refl, tt))))))))

-- class 2: the user cancels, and no ACK is received
abbrev pub cancelled_in_vain : List Event
cancelled_in_vain = put ∷ pump ∷ pump ∷ happens what.Cancel ∷ happens (what.Timer Ack 3) ∷ happens (what.Timer Ack 4) ∷ []

pub cancelled_in_vain_told : issued (after two cancelled_in_vain)
    ≡ told.Transaction ∷ told.TransactionFinished 15 Incomplete Unreported ∷ []
unfolding initial step state_of runs_of runs_from
cancelled_in_vain_told = refl

pub cancelled_in_vain_legal : IsLegal two (after two cancelled_in_vain)
unfolding initial step state_of answer_at runs_of runs_from
cancelled_in_vain_legal = (refl, tt, refl, (refl, tt, refl, (refl, tt, refl, (refl, tt, refl, (refl, tt, refl, (refl, tt, refl, tt))))))

-- class 2: the user cancels, and the ACK is received
abbrev pub cancel_acknowledged : List Event
cancel_acknowledged = put ∷ pump ∷ happens what.Cancel ∷ eof_acknowledged 15 ∷ []

pub cancel_acknowledged_told : issued (after two cancel_acknowledged)
    ≡ told.Transaction ∷ told.TransactionFinished 15 Incomplete Unreported ∷ []
unfolding initial step state_of runs_of runs_from
cancel_acknowledged_told = refl

pub cancel_acknowledged_legal : IsLegal two (after two cancel_acknowledged)
unfolding initial step state_of answer_at runs_of runs_from
cancel_acknowledged_legal = (refl, tt, refl, (refl, tt, refl, (refl, tt, refl, (refl, tt, refl, tt))))

-- class 2: no ACK is received, neither for the EOF nor for the EOF that cancels
abbrev pub unacknowledged_in_vain : List Event
unacknowledged_in_vain = put ∷ pump ∷ pump ∷ pump ∷ happens (what.Timer Ack 3) ∷ happens (what.Timer Ack 4) ∷ happens (what.Timer Ack 5) ∷ happens (what.Timer Ack 6) ∷ []

pub unacknowledged_in_vain_told : issued (after two unacknowledged_in_vain)
    ≡ told.Transaction ∷ told.EofSent ∷ told.TransactionFinished 1 Incomplete Unreported ∷ []
unfolding initial step state_of runs_of runs_from
unacknowledged_in_vain_told = refl

pub unacknowledged_in_vain_legal : IsLegal two (after two unacknowledged_in_vain)
unfolding initial step state_of answer_at runs_of runs_from
unacknowledged_in_vain_legal = (refl, tt, refl, (refl, tt, refl, (refl, tt, refl, (refl, tt, refl, (refl, tt, refl, (refl, tt, refl, (refl, tt, refl, (refl, tt, refl, tt))))))))

-- class 2: suspended before anything was sent
abbrev pub suspended_and_resumed : List Event
suspended_and_resumed = put ∷ happens what.Suspend ∷ happens what.Resume ∷ pump ∷ pump ∷ pump ∷ eof_acknowledged 0 ∷ finished ∷ []

pub suspended_and_resumed_told : issued (after two suspended_and_resumed)
    ≡ told.Transaction ∷ told.Suspended 14 ∷ told.Resumed 0 ∷ told.EofSent ∷ told.TransactionFinished 0 Complete Retained ∷ []
unfolding initial step state_of runs_of runs_from
suspended_and_resumed_told = refl

pub suspended_and_resumed_legal : IsLegal two (after two suspended_and_resumed)
unfolding initial step state_of answer_at runs_of runs_from
suspended_and_resumed_legal = (refl, tt, refl, (refl, tt, refl, (refl, tt, refl, (refl, tt, refl, (refl, tt, refl, (refl, tt, refl, (refl, tt, refl, (refl, tt, refl, tt))))))))

-- what is requested beyond the size does not remain to be sent, and the ACK of an EOF that cancels is not one of the
-- EOF without an error
pub beyond_the_size_remains_not : (state_of two (after two (sent_all ++ asks (record { start = 2; end = 9 } ∷ []) ∷ []))).remains 5 ≡ false
unfolding initial step state_of runs_of runs_from
beyond_the_size_remains_not = refl

pub cancelled_not_acknowledged : (state_of two (after two cancel_acknowledged)).acknowledged ≡ false
unfolding initial step state_of runs_of runs_from
cancelled_not_acknowledged = refl

-- ---- logs that are not legal

-- an event after an end
pub not_after_an_end : IsLegal one (after one (put ∷ happens what.Cancel ∷ report ∷ [])) → ⊥
unfolding initial step state_of answer_at runs_of runs_from
not_after_an_end legal = true≢false legal.0

-- a first event that is not a Put, and a Put that is not the first event
pub not_without_put : IsLegal one (after one (report ∷ [])) → ⊥
unfolding initial step state_of answer_at runs_of runs_from
not_without_put legal = legal.1

pub not_put_twice : IsLegal one (after one (put ∷ put ∷ [])) → ⊥
unfolding initial step state_of answer_at runs_of runs_from
not_put_twice legal = legal.1

-- an event that is refused
pub not_refused : IsLegal one (after one (put ∷ happens what.Resume ∷ [])) → ⊥
unfolding initial step state_of answer_at runs_of runs_from
not_refused legal = let e : None ≡ Some (told.Resumed 0 ∷ []) = ap tells legal.2 in absurd cc

-- an answer that is not the table's
pub not_another_answer : IsLegal one (record { event = put; answer = empty_answer } ∷ []) → ⊥
unfolding initial step state_of answer_at runs_of runs_from
not_another_answer legal = let e : Some (told.Transaction ∷ []) ≡ Some [] = ap tells legal.2 in absurd cc
