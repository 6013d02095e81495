-- Rows. Rows on a class 1 sender that requests transaction closure.
use Rattle.std.specs.Prelude.{◌≡◌, true, ℕ, List, [], ◌∷◌, ◌++◌, Some, None, Err, refl}
use Rattle.cfdp_types.specs.Handlers.{with_handler}
use Rattle.cfdp_types.specs.Reference.{all_cancel, reference}
use Rattle.cfdp_types.specs.declared.names.Class.TheVariants.{One}
use Rattle.cfdp_types.specs.declared.names.Delivery.TheVariants.{Complete, Incomplete}
use Rattle.cfdp_types.specs.declared.names.FileStatus.TheVariants.{Retained, Unreported}
use Rattle.cfdp_types.specs.declared.names.Handler.{Handler}
use Rattle.cfdp_types.specs.declared.names.Handler.TheVariants.{Suspend, Ignore, Abandon}
use Rattle.cfdp_types.specs.declared.names.Role.TheVariants.{Send}
use Rattle.cfdp_types.specs.declared.names.TimerKind.TheVariants.{Check}
use Rattle.cfdp_types.specs.declared.timer_op.TimerOp.TheVariants as op
use Rattle.txn_events.specs.declared.event.What.TheVariants as what
use Rattle.txn_events.specs.declared.refusal.Refusal.TheVariants as refusal
use Rattle.pdu_values.specs.Numbers.{digits}
use Rattle.pdu_values.specs.Spelling.{spelling, written}
use Rattle.pdu_values.specs.Tlvs.{width_from}
use Rattle.pdu_values.specs.declared.pdu.Body.TheVariants as body
use Rattle.indications.specs.declared.indication.Indication.TheVariants as told
use Rattle.indications.specs.declared.indication.Phase.TheVariants as phase
use Rattle.gap_list.specs.Runs.{runs_of, runs_from}
use Rattle.sender_table.specs.Sending.{Sending, Event, put, happens, initial, step, state_of, issued}
use Rattle.sender_table.specs.Answers.{answer_at}
use Rattle.sender_laws.specs.LegalSendings.{IsLegal}
use Rattle.sender_rows.specs.SendingRows.{one, two, unequal_two, pump, report, pdu_in, finished, after, last, tells, sends, operates, sent_all}

-- the file in class 1, with closure
abbrev pub closed : Sending
closed = record one { request = record (one.request) { closure = true } }

-- the file in class 1, with closure and this handler for the check limit
abbrev pub closed_with : Handler → Sending
closed_with handler =
    record closed { params = record reference { tables = record (reference.tables) { send = with_handler (all_cancel Send) 10 handler } } }

-- the receiver's Finished PDU
abbrev pub finished_in_one : Event
finished_in_one = pdu_in One (body.Finished (record { condition = 0; delivery = Complete; status = Retained; location = None }))

-- Check expires
abbrev pub checked : ℕ → Event
checked stamp = happens (what.Timer Check stamp)

pub asks_in_metadata : sends (last closed (put ∷ []) pump) ≡ Some (digits 17 0x24000a000204010740000000030161_0162 ∷ [])
unfolding initial step state_of answer_at runs_of runs_from written spelling digits width_from
asks_in_metadata = refl

pub eof_of_closed : sends (last closed (put ∷ pump ∷ pump ∷ []) pump) ≡ Some (digits 17 0x24000a0002040104006162630000000003 ∷ [])
unfolding initial step state_of answer_at runs_of runs_from written spelling digits width_from
eof_of_closed = refl

pub eof_told_alone : tells (last closed (put ∷ pump ∷ pump ∷ []) pump) ≡ Some (told.EofSent ∷ [])
unfolding initial step state_of answer_at runs_of runs_from digits
eof_told_alone = refl

pub check_armed : operates (last closed (put ∷ pump ∷ pump ∷ []) pump) ≡ Some (op.Arm closed.key Check 3 1000 ∷ [])
unfolding initial step state_of answer_at runs_of runs_from
check_armed = refl

-- one expiration, and then the Finished PDU, for which no ACK is sent
pub checked_once : operates (last closed sent_all (checked 3)) ≡ Some (op.Arm closed.key Check 4 1000 ∷ [])
unfolding initial step state_of answer_at runs_of runs_from
checked_once = refl

abbrev pub closed_whole : List Event
closed_whole = sent_all ++ checked 3 ∷ finished_in_one ∷ []

pub closed_whole_told : issued (after closed closed_whole) ≡ told.Transaction ∷ told.EofSent ∷ told.TransactionFinished 0 Complete Retained ∷ []
unfolding initial step state_of runs_of runs_from
closed_whole_told = refl

pub closed_whole_sends : sends (last closed (sent_all ++ checked 3 ∷ []) finished_in_one) ≡ Some []
unfolding initial step state_of answer_at runs_of runs_from written spelling digits width_from
closed_whole_sends = refl

pub closed_whole_legal : IsLegal closed (after closed closed_whole)
unfolding initial step state_of answer_at runs_of runs_from
closed_whole_legal = (refl, tt, refl, (refl, tt, refl, (refl, tt, refl, (refl, tt, refl, (refl, tt, refl, (refl, tt, refl, tt))))))

-- the second expiration is a fault
pub checked_in_vain_sends : sends (last closed (sent_all ++ checked 3 ∷ []) (checked 4)) ≡ Some (digits 20 0x24000d0002040104a06162630000000003060102 ∷ [])
unfolding initial step state_of answer_at runs_of runs_from written spelling digits width_from
checked_in_vain_sends = refl

pub checked_in_vain_told : tells (last closed (sent_all ++ checked 3 ∷ []) (checked 4)) ≡ Some (told.TransactionFinished 10 Incomplete Unreported ∷ [])
unfolding initial step state_of answer_at runs_of runs_from digits
checked_in_vain_told = refl

-- a report while it waits, a Pump where nothing remains, and a Finished that was not requested
pub waiting_report : tells (last closed sent_all report) ≡ Some (told.Report phase.Active 3 ∷ [])
unfolding initial step state_of answer_at runs_of runs_from
waiting_report = refl

pub no_pump_while_waiting : last closed sent_all pump ≡ Err refusal.WrongState
unfolding initial step state_of answer_at runs_of runs_from
no_pump_while_waiting = refl

pub no_finished_unasked : last one (put ∷ pump ∷ []) finished_in_one ≡ Err refusal.WrongState
unfolding initial step state_of answer_at runs_of runs_from
no_finished_unasked = refl

-- a Finished is received before the EOF was sent
pub finished_early : tells (last closed (put ∷ pump ∷ []) finished_in_one) ≡ Some (told.TransactionFinished 0 Complete Retained ∷ [])
unfolding initial step state_of answer_at runs_of runs_from
finished_early = refl

-- suspended while it waits: a report says so, Check does not run, and a Finished still ends it
abbrev pub suspended_waiting : List Event
suspended_waiting = sent_all ++ happens what.Suspend ∷ []

pub suspended_report : tells (last closed suspended_waiting report) ≡ Some (told.Report phase.Suspended 3 ∷ [])
unfolding initial step state_of answer_at runs_of runs_from
suspended_report = refl

pub no_check_while_suspended : last closed suspended_waiting (checked 3) ≡ Err refusal.StaleTimer
unfolding initial step state_of answer_at runs_of runs_from
no_check_while_suspended = refl

pub finished_while_suspended : tells (last closed suspended_waiting finished_in_one) ≡ Some (told.TransactionFinished 0 Complete Retained ∷ [])
unfolding initial step state_of answer_at runs_of runs_from
finished_while_suspended = refl

-- cancelled while it waits: an EOF informs the receiver, and the sender waits for nothing more
pub cancelled_waiting_sends : sends (last closed sent_all (happens what.Cancel)) ≡ Some (digits 20 0x24000d0002040104f06162630000000003060102 ∷ [])
unfolding initial step state_of answer_at runs_of runs_from written spelling digits width_from
cancelled_waiting_sends = refl

pub cancelled_waiting_told : tells (last closed sent_all (happens what.Cancel)) ≡ Some (told.TransactionFinished 15 Incomplete Unreported ∷ [])
unfolding initial step state_of answer_at runs_of runs_from digits
cancelled_waiting_told = refl

-- the check limit's fault is ignored: it is indicated, Check runs again, and its count begins again
abbrev pub closed_ignoring : Sending
closed_ignoring = closed_with Ignore

abbrev pub checked_in_vain : List Event
checked_in_vain = sent_all ++ checked 3 ∷ checked 4 ∷ []

pub ignored_told : issued (after closed_ignoring checked_in_vain) ≡ told.Transaction ∷ told.EofSent ∷ told.Fault 10 3 ∷ []
unfolding initial step state_of runs_of runs_from
ignored_told = refl

pub ignored_goes_on : operates (last closed_ignoring (sent_all ++ checked 3 ∷ []) (checked 4)) ≡ Some (op.Arm closed.key Check 5 1000 ∷ [])
unfolding initial step state_of answer_at runs_of runs_from
ignored_goes_on = refl

pub ignored_counts_anew : tells (last closed_ignoring checked_in_vain (checked 5)) ≡ Some []
unfolding initial step state_of answer_at runs_of runs_from
ignored_counts_anew = refl

-- suspended while it waits, then resumed: Check runs again
pub resumed_check : operates (last closed suspended_waiting (happens what.Resume)) ≡ Some (op.Arm closed.key Check 5 1000 ∷ [])
unfolding initial step state_of answer_at runs_of runs_from
resumed_check = refl

-- in class 2 closure changes nothing
pub unasked_in_two : sends (last (record two { request = record (two.request) { closure = true } }) (put ∷ []) pump) ≡ Some (digits 17 0x20000a0002040107000000000301610162 ∷ [])
unfolding initial step state_of answer_at runs_of runs_from written spelling digits width_from
unasked_in_two = refl

-- ---- timers

-- Check stops when a Finished is received, and when the transaction is suspended or cancelled
pub disarmed_by_finished : operates (last closed sent_all finished_in_one) ≡ Some (op.Disarm closed.key Check 4 ∷ [])
unfolding initial step state_of answer_at runs_of runs_from
disarmed_by_finished = refl

pub disarmed_by_suspend : operates (last closed sent_all (happens what.Suspend)) ≡ Some (op.Disarm closed.key Check 4 ∷ [])
unfolding initial step state_of answer_at runs_of runs_from
disarmed_by_suspend = refl

pub disarmed_by_cancel : operates (last closed sent_all (happens what.Cancel)) ≡ Some (op.Disarm closed.key Check 4 ∷ [])
unfolding initial step state_of answer_at runs_of runs_from
disarmed_by_cancel = refl

-- before the EOF was sent, Resume arms nothing
pub resumed_before_eof : operates (last closed (put ∷ happens what.Suspend ∷ []) (happens what.Resume)) ≡ Some []
unfolding initial step state_of answer_at runs_of runs_from
resumed_before_eof = refl

-- Resume begins the count of Check again
pub resumed_counts_anew : tells (last closed (sent_all ++ checked 3 ∷ happens what.Suspend ∷ happens what.Resume ∷ []) (checked 6)) ≡ Some []
unfolding initial step state_of answer_at runs_of runs_from
resumed_counts_anew = refl

-- where all limits and lengths differ, those of Check are used: the fourth expiration is the fault
abbrev pub unequal_closed : Sending
unequal_closed = record closed { params = unequal_two.params }

abbrev pub checked_thrice : List Event
checked_thrice = sent_all ++ checked 3 ∷ checked 4 ∷ checked 5 ∷ []

pub unequal_goes_on : operates (last unequal_closed (sent_all ++ checked 3 ∷ checked 4 ∷ []) (checked 5)) ≡ Some (op.Arm closed.key Check 6 1002 ∷ [])
unfolding initial step state_of answer_at runs_of runs_from
unequal_goes_on = refl

pub unequal_fault : tells (last unequal_closed checked_thrice (checked 6)) ≡ Some (told.TransactionFinished 10 Incomplete Unreported ∷ [])
unfolding initial step state_of answer_at runs_of runs_from digits
unequal_fault = refl

-- a sender that suspends, and one that abandons, at the check limit
pub limit_suspends : tells (last (closed_with Suspend) (sent_all ++ checked 3 ∷ []) (checked 4)) ≡ Some (told.Suspended 10 ∷ [])
unfolding initial step state_of answer_at runs_of runs_from
limit_suspends = refl

pub limit_abandons : tells (last (closed_with Abandon) (sent_all ++ checked 3 ∷ []) (checked 4)) ≡ Some (told.Abandoned 10 3 ∷ [])
unfolding initial step state_of answer_at runs_of runs_from
limit_abandons = refl

-- a Finished in the other class
pub other_class_refused : last closed sent_all finished ≡ Err refusal.ModeMismatch
unfolding initial step state_of answer_at runs_of runs_from
other_class_refused = refl
