-- Rows. Rows on the user's requests: Cancel, Suspend, Resume, Report and Abandon.
use Rattle.std.specs.Prelude.{◌≡◌, [], ◌∷◌, Some, refl}
use Rattle.cfdp_types.specs.declared.names.Class.TheVariants.{One, Two}
use Rattle.cfdp_types.specs.declared.names.Delivery.TheVariants.{Incomplete}
use Rattle.cfdp_types.specs.declared.names.FileStatus.TheVariants.{Discarded}
use Rattle.cfdp_types.specs.declared.names.TimerKind.TheVariants.{Nak}
use Rattle.txn_events.specs.declared.event.What.TheVariants as what
use Rattle.pdu_values.specs.Numbers.{digits}
use Rattle.pdu_values.specs.Spelling.{spelling, written}
use Rattle.pdu_values.specs.Tlvs.{width_from}
use Rattle.indications.specs.declared.indication.Indication.TheVariants as told
use Rattle.indications.specs.declared.indication.Phase.TheVariants as phase
use Rattle.gap_list.specs.Runs.{runs_of, runs_from}
use Rattle.receiver_table.specs.Reception.{initial, step, state_of}
use Rattle.receiver_table.specs.Answers.{answer_at}
use Rattle.receiver_rows.specs.ReceptionRows.{metadata, part, eof, last, tells, sends, class_one, class_two}

-- class 1 is cancelled at once
pub cancelled_in_class_one : tells (last class_one (metadata One ∷ []) what.Cancel)
    ≡ Some (told.TransactionFinished 15 Incomplete Discarded ∷ [])
unfolding initial step state_of answer_at runs_of runs_from digits
cancelled_in_class_one = refl

pub cancel_sends_nothing_in_class_one : sends (last class_one (metadata One ∷ []) what.Cancel) ≡ Some []
unfolding initial step state_of answer_at runs_of runs_from written spelling digits width_from
cancel_sends_nothing_in_class_one = refl

-- class 2 sends a Finished PDU first, also where it is suspended
pub cancelled_in_class_two : sends (last class_two (metadata Two ∷ []) what.Cancel) ≡ Some (digits 12 0x2800050001050205f4060102 ∷ [])
unfolding initial step state_of answer_at runs_of runs_from written spelling digits width_from
cancelled_in_class_two = refl

pub cancelled_while_suspended : sends (last class_two (metadata Two ∷ what.Suspend ∷ []) what.Cancel)
    ≡ Some (digits 12 0x2800050001050205f4060102 ∷ [])
unfolding initial step state_of answer_at runs_of runs_from written spelling digits width_from
cancelled_while_suspended = refl

-- Suspend and Resume are indicated, Resume with the progress
pub suspended : tells (last class_two (metadata Two ∷ []) what.Suspend) ≡ Some (told.Suspended 14 ∷ [])
unfolding initial step state_of answer_at runs_of runs_from digits
suspended = refl

pub resumed : tells (last class_two (part Two ∷ what.Suspend ∷ []) what.Resume) ≡ Some (told.Resumed 3 ∷ [])
unfolding initial step state_of answer_at runs_of runs_from digits
resumed = refl

-- a report gives the phase of the transaction
pub reported_while_suspended : tells (last class_two (metadata Two ∷ what.Suspend ∷ []) what.Report)
    ≡ Some (told.Report phase.Suspended 0 ∷ [])
unfolding initial step state_of answer_at runs_of runs_from digits
reported_while_suspended = refl

pub reported_after_resume : tells (last class_two (metadata Two ∷ what.Suspend ∷ what.Resume ∷ []) what.Report)
    ≡ Some (told.Report phase.Active 0 ∷ [])
unfolding initial step state_of answer_at runs_of runs_from digits
reported_after_resume = refl

pub reported_while_closing : tells (last class_two (part Two ∷ eof Two ∷ what.Timer Nak 1 ∷ what.Timer Nak 2 ∷ []) what.Report)
    ≡ Some (told.Report phase.Closing 3 ∷ [])
unfolding initial step state_of answer_at runs_of runs_from digits
reported_while_closing = refl

pub reported_closing_from_suspension : tells (last class_two (metadata Two ∷ what.Suspend ∷ what.Cancel ∷ []) what.Report)
    ≡ Some (told.Report phase.Closing 0 ∷ [])
unfolding initial step state_of answer_at runs_of runs_from digits
reported_closing_from_suspension = refl

-- Abandon ends the reception and sends nothing
pub abandoned : tells (last class_two (metadata Two ∷ part Two ∷ []) what.Abandon) ≡ Some (told.Abandoned 15 3 ∷ [])
unfolding initial step state_of answer_at runs_of runs_from digits
abandoned = refl

pub abandon_sends_nothing : sends (last class_two (metadata Two ∷ part Two ∷ []) what.Abandon) ≡ Some []
unfolding initial step state_of answer_at runs_of runs_from written spelling digits width_from
abandon_sends_nothing = refl

pub abandoned_in_class_one : tells (last class_one (metadata One ∷ part One ∷ []) what.Abandon) ≡ Some (told.Abandoned 15 3 ∷ [])
unfolding initial step state_of answer_at runs_of runs_from digits
abandoned_in_class_one = refl
