-- Rows. Worked receptions of both classes: whole transactions, with proof that their logs are legal, and the
-- definitions that the other files of rows share.
use Rattle.std.specs.Prelude.{◌≡◌, ℕ, zero, suc, ◌+◌, ◌-◌, ◌<◌, ◌≤◌, nat_le, Bool, true, false, if◌then◌else◌, is_some, List, [], ◌∷◌, map, Option, Some, None, IsSome, Result, Ok, Err, refl, ◌++◌}
use Rattle.std.specs.List.{slice_get}
use Rattle.std.proofs.Common.{ap, sym, ◌∙◌, arith, inl}
use Rattle.std.proofs.lemmas.Bool.{true≢false, false≢true}
use Rattle.std.proofs.lemmas.Option.{slice_get_past}
use Rattle.cfdp_types.specs.Handlers.{with_handler}
use Rattle.cfdp_types.specs.declared.params.ParamsParts.{ParamsParts}
use Rattle.cfdp_types.specs.Steps.{older_or}
use Rattle.cfdp_types.specs.Reference.{all_cancel, reference}
use Rattle.cfdp_types.specs.declared.key.Deposit.{Deposit}
use Rattle.cfdp_types.specs.declared.names.Class.{Class}
use Rattle.cfdp_types.specs.declared.names.Class.TheVariants.{One, Two}
use Rattle.cfdp_types.specs.declared.names.Delivery.TheVariants.{Complete, Incomplete}
use Rattle.cfdp_types.specs.declared.names.FileStatus.TheVariants.{Discarded, Rejected, Retained}
use Rattle.cfdp_types.specs.declared.names.Handler.{Handler}
use Rattle.cfdp_types.specs.declared.names.Handler.TheVariants.{Ignore}
use Rattle.cfdp_types.specs.declared.names.Role.TheVariants.{RecvOne, RecvTwo}
use Rattle.cfdp_types.specs.declared.names.TimerKind.TheVariants.{Ack, Nak, Check}
use Rattle.cfdp_types.specs.declared.timer_op.TimerOp.{TimerOp}
use Rattle.txn_events.specs.Events.{echo_of}
use Rattle.txn_events.specs.declared.event.What.{What}
use Rattle.txn_events.specs.declared.event.What.TheVariants as what
use Rattle.txn_events.specs.declared.refusal.Refusal.{Refusal}
use Rattle.pdu_values.specs.Numbers.{digits}
use Rattle.pdu_values.specs.Pdu.{PduValue}
use Rattle.pdu_values.specs.Spelling.{written}
use Rattle.pdu_values.specs.declared.pdu.Header.{Header}
use Rattle.pdu_values.specs.declared.pdu.Body.{Body}
use Rattle.pdu_values.specs.declared.pdu.Body.TheVariants as body
use Rattle.pdu_values.specs.declared.bodies.Eof.{Eof}
use Rattle.pdu_values.specs.declared.bodies.Prompt.{Prompt}
use Rattle.pdu_values.specs.declared.bodies.Prompt.TheVariants as prompt
use Rattle.indications.specs.declared.indication.Indication.{Indication}
use Rattle.indications.specs.declared.indication.Indication.TheVariants as told
use Rattle.gap_list.specs.Runs.{runs_of, runs_from}
use Rattle.txn_events.specs.declared.answer.Answer.{Answer}
use Rattle.receiver_table.specs.Reception.{Reception, Entry, State, initial, step, state_of, issued, octet_at, is_closing, is_suspended}
use Rattle.receiver_table.specs.Answers.{empty_answer, answer_at}
pub use Rattle.txn_events.specs.Examples.{header, metadata_value, eof_value, abc, finished_acknowledged}
use Rattle.receiver_laws.specs.LegalReceptions.{log_of, IsLegal, IsGood}

-- ---- the transaction

-- with the reference parameters
abbrev pub reception : Class → Reception
reception class = record { key = record { source = record { 0 = 1 }; seq = 5 }; params = reference; header = header class }

-- in class 1
abbrev pub class_one : Reception
class_one = reception One

-- in class 2
abbrev pub class_two : Reception
class_two = reception Two

-- the reference with another handler of a class 1 receiver for a condition
abbrev pub one_with : ℕ → Handler → Reception
one_with code handler =
    record class_one { params = record reference { tables = record (reference.tables) { receive_one = with_handler (all_cancel RecvOne) code handler } } }

-- the same for a class 2 receiver
abbrev pub two_with : ℕ → Handler → Reception
two_with code handler =
    record class_two { params = record reference { tables = record (reference.tables) { receive_two = with_handler (all_cancel RecvTwo) code handler } } }

-- the reference with limits and timer lengths that all differ
abbrev pub unequal : ParamsParts
unequal = record reference {
  timers = record { ack = 1000; nak = 1001; check = 1002; inactivity = 1003 };
  limits = record { ack = 2; nak = 3; check = 4 };
}

-- the class 1 reception with these parameters
abbrev pub unequal_one : Reception
unequal_one = record class_one { params = unequal }

-- the class 2 reception with these parameters
abbrev pub unequal_two : Reception
unequal_two = record class_two { params = unequal }

-- the class 2 reception at an entity with another ID
abbrev pub two_at : ℕ → Reception
two_at local = record class_two { params = record reference { local = record { 0 = local } } }

-- a header with entity IDs of two octets and a sequence number of three
abbrev pub wide_header : Header
wide_header = record (header Two) { entity_octets = 2; sequence_octets = 3 }

-- the class 2 reception opened with such a header
abbrev pub wide_two : Reception
wide_two = record class_two { header = wide_header }

-- ---- events

-- a PDU of the transaction
abbrev pub pdu : Class → Body → What
pdu class b = what.Pdu (record { header = header class; body = b })

-- a PDU with the wide header
abbrev pub wide : Body → What
wide b = what.Pdu (record { header = wide_header; body = b })

-- Metadata with a checksum type and a size
abbrev pub metadata_of : Class → ℕ → ℕ → What
metadata_of class kind size = pdu class (body.Metadata (metadata_value kind size))

-- File Data with octets at an offset
abbrev pub file_data : Class → ℕ → List ℕ → What
file_data class offset octets = pdu class (body.FileData (record { offset = offset; octets = octets }))

-- an EOF with a condition, a checksum and a size
abbrev pub eof_of : Class → ℕ → ℕ → ℕ → What
eof_of class condition checksum size = pdu class (body.Eof (eof_value condition checksum size))

-- the Metadata of "abc"
abbrev pub metadata : Class → What
metadata class = metadata_of class 0 3

-- the octets of "abc", in one segment
abbrev pub part : Class → What
part class = file_data class 0 abc

-- the EOF of "abc"
abbrev pub eof : Class → What
eof class = eof_of class 0 0x6162_6300 3

-- a Prompt
abbrev pub prompted : Prompt → What
prompted p = pdu Two (body.Prompt p)

-- this many arbitrary octets
abbrev pub some_octets : ℕ → List ℕ
some_octets n = digits n 0

-- this many segments of one octet, at every second offset
abbrev pub every_second : ℕ → ℕ → List What
every_second zero offset = []
every_second (suc count) offset = file_data Two offset (0 ∷ []) ∷ every_second count (offset + 2)

-- ---- logs

-- the log of these events in order, each answered by the table
abbrev pub after : Reception → List What → List Entry
after r events = log_of r events

-- the answer to the last event
abbrev pub last : Reception → List What → What → Result Answer Refusal
last r events event = answer_at r (state_of (after r events)) event

-- ---- what an answer shows: None where the event is refused

-- the indications to the user
abbrev pub tells : Result Answer Refusal → Option (List Indication)
tells (Ok answer) = Some answer.inds
tells (Err why) = None

-- the PDUs that are sent, as octets
abbrev pub sends : Result Answer Refusal → Option (List (List ℕ))
sends (Ok answer) = Some (map written answer.pdus)
sends (Err why) = None

-- the stamp of the file that is handed to the file store
abbrev pub hands_out : Result Answer Refusal → Option (List ℕ)
hands_out (Ok answer) = Some (stamp_of answer.deposit)
  where
    stamp_of : Option Deposit → List ℕ
    stamp_of None = []
    stamp_of (Some deposit) = deposit.stamp ∷ []
hands_out (Err why) = None

-- the deposit, with its key and its stamp, if there is one
abbrev pub deposits : Result Answer Refusal → Option (Option Deposit)
deposits (Ok answer) = Some answer.deposit
deposits (Err why) = None

-- the timer operations
abbrev pub operates : Result Answer Refusal → Option (List TimerOp)
operates (Ok answer) = Some answer.timers
operates (Err why) = None

-- the echo of a PDU of a terminated transaction; None where the event is not a PDU
abbrev pub echoes : What → Option (List (List ℕ))
echoes (what.Pdu pdu) = Some (spelled (echo_of pdu))
  where
    spelled : Option PduValue → List (List ℕ)
    spelled None = []
    spelled (Some echo) = written echo ∷ []
echoes _ = None

-- ---- class 1: whole transactions, with all indications

-- the file is received and kept
abbrev pub complete_one : List What
complete_one = metadata One ∷ part One ∷ eof One ∷ what.Stored 2 true ∷ []

pub complete_one_told : issued (after class_one complete_one)
    ≡ told.MetadataRecv (record { source = record { 0 = 1 }; size = 3; source_name = 97 ∷ []; destination_name = 98 ∷ []; messages = [] }) ∷ told.FileSegmentRecv 0 3 ∷ told.EofRecv ∷ told.TransactionFinished 0 Complete Retained ∷ []
unfolding initial step state_of runs_of runs_from
complete_one_told = refl

pub complete_one_legal : IsLegal class_one (after class_one complete_one)
unfolding initial step state_of answer_at runs_of runs_from
complete_one_legal = (refl, tt, refl, (refl, tt, refl, (refl, tt, refl, (refl, (refl, refl, refl, refl), refl, tt))))

-- an empty file: no octets are indicated, and it is kept
abbrev pub empty_one : List What
empty_one = metadata_of One 0 0 ∷ eof_of One 0 0 0 ∷ what.Stored 1 true ∷ []

pub empty_one_told : issued (after class_one empty_one)
    ≡ told.MetadataRecv (record { source = record { 0 = 1 }; size = 0; source_name = 97 ∷ []; destination_name = 98 ∷ []; messages = [] }) ∷ told.EofRecv ∷ told.TransactionFinished 0 Complete Retained ∷ []
unfolding initial step state_of runs_of runs_from
empty_one_told = refl

pub empty_one_legal : IsLegal class_one (after class_one empty_one)
unfolding initial step state_of answer_at runs_of runs_from
empty_one_legal = (refl, tt, refl, (refl, tt, refl, (refl, (refl, refl, refl, refl), refl, tt)))

-- the file store rejects the file
abbrev pub rejected_one : List What
rejected_one = metadata One ∷ part One ∷ eof One ∷ what.Stored 2 false ∷ []

pub rejected_one_told : issued (after class_one rejected_one)
    ≡ told.MetadataRecv (record { source = record { 0 = 1 }; size = 3; source_name = 97 ∷ []; destination_name = 98 ∷ []; messages = [] }) ∷ told.FileSegmentRecv 0 3 ∷ told.EofRecv ∷ told.TransactionFinished 4 Incomplete Rejected ∷ []
unfolding initial step state_of runs_of runs_from
rejected_one_told = refl

pub rejected_one_legal : IsLegal class_one (after class_one rejected_one)
unfolding initial step state_of answer_at runs_of runs_from
rejected_one_legal = (refl, tt, refl, (refl, tt, refl, (refl, tt, refl, (refl, (refl, refl, refl, refl), refl, tt))))

-- a receiver that ignores the fault of the check limit
abbrev pub check_ignored : Reception
check_ignored = one_with 10 Ignore

-- the file is never received: each second expiration is a fault
abbrev pub checked_in_vain : List What
checked_in_vain = eof One ∷ what.Timer Check 0 ∷ what.Timer Check 1 ∷ what.Timer Check 2 ∷ what.Timer Check 3 ∷ []

pub checked_in_vain_told : issued (after check_ignored checked_in_vain) ≡ told.EofRecv ∷ told.Fault 10 0 ∷ told.Fault 10 0 ∷ []
unfolding initial step state_of runs_of runs_from
checked_in_vain_told = refl

pub checked_in_vain_legal : IsLegal check_ignored (after check_ignored checked_in_vain)
unfolding initial step state_of answer_at runs_of runs_from
checked_in_vain_legal = (refl, tt, refl, (refl, tt, refl, (refl, tt, refl, (refl, tt, refl, (refl, (refl, refl, refl, refl), refl, tt)))))

-- ---- class 2: whole transactions

-- the file is received and kept, and the Finished PDU is acknowledged
abbrev pub complete_two : List What
complete_two = metadata Two ∷ part Two ∷ eof Two ∷ what.Stored 2 true ∷ finished_acknowledged 0 ∷ []

pub complete_two_told : issued (after class_two complete_two)
    ≡ told.MetadataRecv (record { source = record { 0 = 1 }; size = 3; source_name = 97 ∷ []; destination_name = 98 ∷ []; messages = [] }) ∷ told.FileSegmentRecv 0 3 ∷ told.EofRecv ∷ told.TransactionFinished 0 Complete Retained ∷ []
unfolding initial step state_of runs_of runs_from
complete_two_told = refl

pub complete_two_legal : IsLegal class_two (after class_two complete_two)
unfolding initial step state_of answer_at runs_of runs_from
complete_two_legal = (refl, tt, refl, (refl, tt, refl, (refl, tt, refl, (refl, tt, refl, (refl, (refl, refl, refl, refl), refl, tt)))))

-- the Metadata is received last
abbrev pub metadata_last_two : List What
metadata_last_two = part Two ∷ eof Two ∷ metadata Two ∷ what.Stored 2 true ∷ finished_acknowledged 0 ∷ []

pub metadata_last_two_told : issued (after class_two metadata_last_two)
    ≡ told.FileSegmentRecv 0 3 ∷ told.EofRecv ∷ told.MetadataRecv (record { source = record { 0 = 1 }; size = 3; source_name = 97 ∷ []; destination_name = 98 ∷ []; messages = [] }) ∷ told.TransactionFinished 0 Complete Retained ∷ []
unfolding initial step state_of runs_of runs_from
metadata_last_two_told = refl

pub metadata_last_two_legal : IsLegal class_two (after class_two metadata_last_two)
unfolding initial step state_of answer_at runs_of runs_from
metadata_last_two_legal = (refl, tt, refl, (refl, tt, refl, (refl, tt, refl, (refl, tt, refl, (refl, (refl, refl, refl, refl), refl, tt)))))

-- the Finished PDU is never acknowledged
abbrev pub finished_in_vain : List What
finished_in_vain = metadata Two ∷ part Two ∷ eof Two ∷ what.Stored 2 true ∷ what.Timer Ack 3 ∷ what.Timer Ack 4 ∷ []

pub finished_in_vain_told : issued (after class_two finished_in_vain)
    ≡ told.MetadataRecv (record { source = record { 0 = 1 }; size = 3; source_name = 97 ∷ []; destination_name = 98 ∷ []; messages = [] }) ∷ told.FileSegmentRecv 0 3 ∷ told.EofRecv ∷ told.TransactionFinished 0 Complete Retained ∷ []
unfolding initial step state_of runs_of runs_from
finished_in_vain_told = refl

pub finished_in_vain_legal : IsLegal class_two (after class_two finished_in_vain)
unfolding initial step state_of answer_at runs_of runs_from
finished_in_vain_legal = (refl, tt, refl, (refl, tt, refl, (refl, tt, refl, (refl, tt, refl, (refl, tt, refl, (refl, (refl, refl, refl, refl), refl, tt))))))

-- the transaction has then ended
pub over_in_the_end : (state_of (after class_two finished_in_vain)).ended ≡ true
unfolding initial step state_of runs_of runs_from
over_in_the_end = refl

pub not_closing_in_the_end : is_closing (state_of (after class_two finished_in_vain)) ≡ false
unfolding initial step state_of runs_of runs_from
not_closing_in_the_end = refl

-- the Metadata is never received: at the limit of NAKs the reception ends
abbrev pub asked_in_vain : List What
asked_in_vain = part Two ∷ eof Two ∷ what.Timer Nak 1 ∷ what.Timer Nak 2 ∷ what.Timer Ack 3 ∷ what.Timer Ack 4 ∷ []

pub asked_in_vain_told : issued (after class_two asked_in_vain)
    ≡ told.FileSegmentRecv 0 3 ∷ told.EofRecv ∷ told.TransactionFinished 7 Incomplete Discarded ∷ []
unfolding initial step state_of runs_of runs_from
asked_in_vain_told = refl

pub asked_in_vain_legal : IsLegal class_two (after class_two asked_in_vain)
unfolding initial step state_of answer_at runs_of runs_from
asked_in_vain_legal = (refl, tt, refl, (refl, tt, refl, (refl, tt, refl, (refl, tt, refl, (refl, tt, refl, (refl, (refl, refl, refl, refl), refl, tt))))))

-- the file is received while the reception is suspended
abbrev pub suspended_and_resumed : List What
suspended_and_resumed = metadata Two ∷ eof Two ∷ what.Suspend ∷ part Two ∷ what.Resume ∷ what.Stored 4 true ∷ finished_acknowledged 0 ∷ []

pub suspended_and_resumed_told : issued (after class_two suspended_and_resumed)
    ≡ told.MetadataRecv (record { source = record { 0 = 1 }; size = 3; source_name = 97 ∷ []; destination_name = 98 ∷ []; messages = [] }) ∷ told.EofRecv ∷ told.Suspended 14 ∷ told.FileSegmentRecv 0 3
    ∷ told.Resumed 3 ∷ told.TransactionFinished 0 Complete Retained ∷ []
unfolding initial step state_of runs_of runs_from
suspended_and_resumed_told = refl

pub suspended_and_resumed_legal : IsLegal class_two (after class_two suspended_and_resumed)
unfolding initial step state_of answer_at runs_of runs_from
suspended_and_resumed_legal = (refl, tt, refl, (refl, tt, refl, (refl, tt, refl, (refl, tt, refl, (refl, tt, refl, (refl, tt, refl, (refl, (refl, refl, refl, refl), refl, tt)))))))

-- an EOF with an error is received first and ends the reception
abbrev pub cancelled_by_sender : List What
cancelled_by_sender = eof_of Two 15 0 0 ∷ []

pub cancelled_by_sender_told : issued (after class_two cancelled_by_sender) ≡ told.TransactionFinished 15 Incomplete Discarded ∷ []
unfolding initial step state_of runs_of runs_from
cancelled_by_sender_told = refl

pub cancelled_by_sender_legal : IsLegal class_two (after class_two cancelled_by_sender)
unfolding initial step state_of answer_at runs_of runs_from
cancelled_by_sender_legal = (refl, (refl, refl, refl, refl), refl, tt)

-- the user cancels: an EOF is still acknowledged, and the ACK ends the reception
abbrev pub cancelled_by_user : List What
cancelled_by_user = metadata Two ∷ what.Cancel ∷ eof Two ∷ finished_acknowledged 15 ∷ []

pub cancelled_by_user_told : issued (after class_two cancelled_by_user)
    ≡ told.MetadataRecv (record { source = record { 0 = 1 }; size = 3; source_name = 97 ∷ []; destination_name = 98 ∷ []; messages = [] }) ∷ told.TransactionFinished 15 Incomplete Discarded ∷ []
unfolding initial step state_of runs_of runs_from
cancelled_by_user_told = refl

pub cancelled_by_user_legal : IsLegal class_two (after class_two cancelled_by_user)
unfolding initial step state_of answer_at runs_of runs_from
cancelled_by_user_legal = (refl, tt, refl, (refl, tt, refl, (refl, tt, refl, (refl, (refl, refl, refl, refl), refl, tt))))

-- in the closing phase an EOF with an error is not kept
pub cancelling_eof_not_kept : (state_of (after class_two (metadata Two ∷ what.Cancel ∷ eof_of Two 15 0 0 ∷ []))).eof ≡ None
unfolding initial step state_of runs_of runs_from
cancelling_eof_not_kept = refl

-- a reception that is abandoned while suspended is no longer suspended
pub not_suspended_in_the_end : is_suspended (state_of (after class_two (metadata Two ∷ what.Suspend ∷ what.Abandon ∷ []))) ≡ false
unfolding initial step state_of runs_of runs_from
not_suspended_in_the_end = refl

-- ---- logs that are not legal

-- an event after an end
pub not_after_an_end : IsLegal class_one (after class_one (metadata One ∷ what.Cancel ∷ what.Report ∷ [])) → ⊥
unfolding initial step state_of answer_at runs_of runs_from
not_after_an_end legal = true≢false legal.0

-- a first event that opens nothing
pub not_opened_by_report : IsLegal class_one (after class_one (what.Report ∷ [])) → ⊥
unfolding initial step state_of answer_at runs_of runs_from
not_opened_by_report legal = legal.1

pub not_opened_by_prompt : IsLegal class_two (after class_two (prompted prompt.KeepAlive ∷ [])) → ⊥
unfolding initial step state_of answer_at runs_of runs_from
not_opened_by_prompt legal = let e : false ≡ true = legal.1.0 in absurd cc

-- Metadata of another transaction
abbrev pub of_another : What
of_another = what.Pdu (record { header = record (header Two) { sequence = 6 }; body = body.Metadata (metadata_value 0 3) })

pub not_opened_by_another : IsLegal class_two (after class_two (of_another ∷ [])) → ⊥
unfolding initial step state_of answer_at runs_of runs_from
not_opened_by_another legal = let e : suc 5 ≡ 5 = legal.1.3 in absurd cc

-- Metadata whose sequence number has another length
abbrev pub of_another_length : What
of_another_length = what.Pdu (record { header = record (header Two) { sequence_octets = 2 }; body = body.Metadata (metadata_value 0 3) })

pub not_opened_by_another_length : IsLegal class_two (after class_two (of_another_length ∷ [])) → ⊥
unfolding initial step state_of answer_at runs_of runs_from
not_opened_by_another_length legal = let e : suc 1 ≡ 1 = ap (λ (h : Header). h.sequence_octets) legal.1.1 in absurd cc

-- an event that is refused
pub not_refused : IsLegal class_one (after class_one (metadata One ∷ what.Suspend ∷ [])) → ⊥
unfolding initial step state_of answer_at runs_of runs_from
not_refused legal = let e : None ≡ Some (told.Suspended 14 ∷ []) = ap tells legal.2 in absurd cc

-- an answer that is not the table's
pub not_another_answer : IsLegal class_one (record { event = metadata One; answer = empty_answer } ∷ []) → ⊥
unfolding initial step state_of answer_at runs_of runs_from
not_another_answer legal = let e : tells (last class_one [] (metadata One)) ≡ Some [] = ap tells legal.2 in absurd cc

-- ---- when the file is good

-- the state after these events and the EOF of "abc"
abbrev pub with_eof : List What → State
with_eof events = state_of (after class_one (events ++ eof One ∷ []))

-- the file is good once all of it was received
pub all_below : (i : ℕ) → i < 3 → IsSome ((with_eof (metadata One ∷ part One ∷ [])).received i)
unfolding initial step state_of
all_below zero below = refl
all_below (suc zero) below = refl
all_below (suc (suc zero)) below = refl
all_below (suc (suc (suc i))) below = absurd (omega arith)

same_either_way : (b : Bool) (o : Option ℕ) → (if b then o else o) ≡ o
same_either_way true o = refl
same_either_way false o = refl

octet_above : (i : ℕ) → 3 ≤ i → octet_at (Some (record { offset = 0; octets = abc })) i ≡ None
octet_above i above =
    let minus : i - 0 ≡ i = omega arith in
    let past : slice_get abc i ≡ None = slice_get_past abc i above in
    rw (minus, past) (same_either_way (nat_le 0 i) None)

pub none_above : (i : ℕ) → IsSome ((with_eof (metadata One ∷ part One ∷ [])).received i) → i < 3
unfolding initial step state_of
none_above zero there = omega arith
none_above (suc zero) there = omega arith
none_above (suc (suc zero)) there = omega arith
none_above (suc (suc (suc i))) there =
    absurd (false≢true (sym (ap (λ o. is_some (older_or o None)) (octet_above (suc (suc (suc i))) (omega arith))) ∙ there))

pub whole_is_good : IsGood (with_eof (metadata One ∷ part One ∷ []))
unfolding initial step state_of
whole_is_good = record {
  metadata = metadata_value 0 3;
  eof = eof_value 0 0x6162_6300 3;
  metadata_came = refl;
  eof_came = refl;
  supported = inl refl;
  none_missing = all_below;
  none_beyond = none_above;
  agrees = λ modular. refl;
}

-- the size of an EOF, 0 if there is none
abbrev pub size_of : Option Eof → ℕ
size_of None = 0
size_of (Some e) = e.size

-- the file is not good with an octet missing, or with one beyond the size
pub one_missing_is_not_good : IsGood (with_eof (metadata One ∷ file_data One 0 (97 ∷ 98 ∷ []) ∷ [])) → ⊥
unfolding initial step state_of
one_missing_is_not_good good =
    let size : 3 ≡ good.eof.size = ap size_of good.eof_came in false≢true (good.none_missing 2 (omega arith))

pub one_beyond_is_not_good : IsGood (with_eof (metadata One ∷ part One ∷ file_data One 3 (0 ∷ []) ∷ [])) → ⊥
unfolding initial step state_of
one_beyond_is_not_good good =
    let below : 3 < good.eof.size = good.none_beyond 3 refl in
    let size : 3 ≡ good.eof.size = ap size_of good.eof_came in absurd (omega arith)
