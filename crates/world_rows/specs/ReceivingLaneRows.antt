-- Rows. Worked steps of a receiving lane.
use Rattle.std.specs.Prelude.{◌≡◌, ℕ, nat_lt, Bool, true, not, ◌&&◌, is_some, List, [], ◌∷◌, ◌++◌, length, map, Option, Some, None, Err, Ok, refl}
use Rattle.std.specs.Option.{option_to_list}
use Rattle.cfdp_types.specs.Reference.{reference}
use Rattle.cfdp_types.specs.declared.image.Image.{Image}
use Rattle.cfdp_types.specs.declared.key.TxnKey.{TxnKey}
use Rattle.cfdp_types.specs.declared.limits.TheConstants.{FILE_OCTETS}
use Rattle.cfdp_types.specs.declared.names.Class.{Class}
use Rattle.cfdp_types.specs.declared.names.Class.TheVariants.{One, Two}
use Rattle.cfdp_types.specs.declared.names.Delivery.TheVariants.{Complete, Incomplete}
use Rattle.cfdp_types.specs.declared.names.FileStatus.TheVariants.{Discarded, Retained}
use Rattle.cfdp_types.specs.declared.names.TimerKind.TheVariants.{Inactivity}
use Rattle.cfdp_types.specs.declared.timer_op.TimerOp.TheVariants as op
use Rattle.gap_list.specs.Runs.{runs_of, runs_from}
use Rattle.txn_events.specs.declared.event.What.{What}
use Rattle.txn_events.specs.declared.event.What.TheVariants as what
use Rattle.txn_events.specs.declared.refusal.Refusal.{Refusal}
use Rattle.txn_events.specs.declared.refusal.Refusal.TheVariants as refusal
use Rattle.pdu_values.specs.Numbers.{digits}
use Rattle.pdu_values.specs.Spelling.{spelling, written}
use Rattle.pdu_values.specs.Tlvs.{width_from}
use Rattle.pdu_values.specs.declared.pdu.Body.{Body}
use Rattle.pdu_values.specs.declared.pdu.Direction.TheVariants.{TowardSender}
use Rattle.pdu_values.specs.declared.pdu.Body.TheVariants as body
use Rattle.pdu_values.specs.declared.bodies.Prompt.TheVariants as prompt
use Rattle.indications.specs.declared.indication.Indication.TheVariants as told
use Rattle.receiver_table.specs.Reception.{initial, step, state_of}
use Rattle.txn_events.specs.Examples.{header, metadata_value, eof_value, abc, finished_acknowledged, put_value}
use Rattle.txn_events.specs.declared.event.Event.{Event}
use Rattle.txn_events.specs.declared.event.Event.TheVariants.{Put, On}
use Rattle.lane_table.specs.declared.lane_side.LaneSide.TheVariants.{Receiving}
use Rattle.lane_table.specs.declared.refused.Refused.{Refused}
use Rattle.lane_table.specs.Lane.{State, idle, key_of, is_running, issued_by}
use Rattle.lane_table.specs.Steps.{refusal_at, stepped, answer_of, image_of}

-- ---- the lane

-- lane 2 of user 0, for transactions from entity 1
abbrev pub fresh : State
fresh = idle (Receiving reference) 0 2 (record { 0 = 1 })

-- the key with a number
abbrev pub key : ℕ → TxnKey
key number = record { source = record { 0 = 1 }; seq = number }

-- a received PDU
abbrev pub pdu : Class → ℕ → Body → Event
pdu class number b = On (key number) (what.Pdu (record { header = record (header class) { sequence = number }; body = b }))

-- the Metadata of "abc"
abbrev pub metadata : Class → ℕ → Event
metadata class number = pdu class number (body.Metadata (metadata_value 0 3))

-- the octets of "abc"
abbrev pub part : Class → ℕ → Event
part class number = pdu class number (body.FileData (record { offset = 0; octets = abc }))

-- the EOF of "abc"
abbrev pub eof : Class → ℕ → Event
eof class number = pdu class number (body.Eof (eof_value 0 0x6162_6300 3))

-- another event of a transaction
abbrev pub on : ℕ → What → Event
on number event = On (key number) event

-- ---- what a step shows

-- the lane after these events
abbrev pub after : State → List Event → State
after state [] = state
after state (event ∷ events) = after (stepped state event) events

-- whether each of these events is accepted
abbrev pub are_taken : State → List Event → Bool
are_taken state [] = true
are_taken state (event ∷ events) = not (is_some (refusal_at state event)) && are_taken (stepped state event) events

-- the echo of a refusal, as octets
abbrev pub echoed : Option Refused → List (List ℕ)
echoed None = []
echoed (Some refused) = map written (option_to_list refused.echo)

-- a refusal without an echo
abbrev pub plain : Refusal → Option Refused
plain why = Some (record { why = why; echo = None })

-- ---- the first transaction

-- its Metadata opens a transaction
pub metadata_opens : refusal_at fresh (metadata One 5) ≡ None
unfolding initial step state_of
metadata_opens = refl

pub metadata_opens_key : key_of (after fresh (metadata One 5 ∷ [])) ≡ Some (key 5)
metadata_opens_key = refl

pub metadata_told : (answer_of (after fresh (metadata One 5 ∷ []))).inds ≡ told.MetadataRecv (record { source = record { 0 = 1 }; size = 3; source_name = 97 ∷ []; destination_name = 98 ∷ []; messages = [] }) ∷ []
unfolding initial step state_of runs_of runs_from
metadata_told = refl

-- so do File Data and EOF, but nothing else
pub part_opens : refusal_at fresh (part Two 5) ≡ None
unfolding initial step state_of
part_opens = refl

pub eof_opens : refusal_at fresh (eof Two 5) ≡ None
unfolding initial step state_of
eof_opens = refl

pub prompt_opens_not : refusal_at fresh (pdu Two 5 (body.Prompt prompt.Nak)) ≡ plain refusal.NoTransaction
prompt_opens_not = refl

pub report_opens_not : refusal_at fresh (on 5 what.Report) ≡ plain refusal.NoTransaction
report_opens_not = refl

-- a Put is not possible here
pub put_opens_not : refusal_at fresh (Put (put_value Two abc) reference) ≡ plain refusal.WrongState
put_opens_not = refl

-- whatever the size of its file
pub large_put_opens_not : (file : List ℕ) → nat_lt FILE_OCTETS (length file) ≡ true
    → refusal_at fresh (Put (put_value Two file) reference) ≡ plain refusal.WrongState
large_put_opens_not file large = refl

-- Metadata of a file that is too large is refused
pub too_large_opens_not : refusal_at fresh (pdu One 5 (body.Metadata (metadata_value 0 16777217))) ≡ plain refusal.TooLarge
unfolding initial step state_of
too_large_opens_not = refl

-- an event from another source is unknown
pub other_source : refusal_at fresh (On (record { source = record { 0 = 3 }; seq = 5 }) what.Report) ≡ plain refusal.NoTransaction
other_source = refl

-- ---- while a transaction runs

-- the lane that runs number 5
abbrev pub running : Class → State
running class = after fresh (metadata class 5 ∷ [])

-- an event that would open a higher number has to wait; any other with a higher number is unknown
pub higher_is_busy : refusal_at (running One) (metadata One 7) ≡ plain refusal.LaneBusy
unfolding initial step state_of runs_of runs_from
higher_is_busy = refl

-- a Put has to wait too
pub put_is_busy : refusal_at (running One) (Put (put_value Two abc) reference) ≡ plain refusal.LaneBusy
unfolding initial step state_of runs_of runs_from
put_is_busy = refl

-- even if the file is too large
pub higher_is_busy_before_too_large : refusal_at (running One) (pdu One 7 (body.Metadata (metadata_value 0 16777217))) ≡ plain refusal.LaneBusy
unfolding initial step state_of runs_of runs_from
higher_is_busy_before_too_large = refl

pub higher_is_unknown : refusal_at (running One) (on 7 what.Report) ≡ plain refusal.NoTransaction
unfolding initial step state_of runs_of runs_from
higher_is_unknown = refl

-- a lower number is old, even if it was never opened; a class 2 EOF gets its echo, Metadata does not
pub lower_is_old : refusal_at (running One) (metadata Two 3) ≡ plain refusal.OldTransaction
unfolding initial step state_of runs_of runs_from
lower_is_old = refl

pub lower_eof_is_echoed : echoed (refusal_at (running One) (eof Two 3)) ≡ digits 10 0x28000300010302064002 ∷ []
unfolding initial step state_of runs_of runs_from written spelling digits width_from
lower_eof_is_echoed = refl

pub lower_class_one_eof_is_not : refusal_at (running One) (eof One 3) ≡ plain refusal.OldTransaction
unfolding initial step state_of runs_of runs_from
lower_class_one_eof_is_not = refl

pub lower_report_is_old : refusal_at (running One) (on 3 what.Report) ≡ plain refusal.OldTransaction
unfolding initial step state_of runs_of runs_from
lower_report_is_old = refl

-- an EOF from another source
abbrev pub foreign_eof : Class → ℕ → Event
foreign_eof class number = On (record { source = record { 0 = 3 }; seq = number }) (what.Pdu (record {
  header = record (header class) { source = record { 0 = 3 }; sequence = number };
  body = body.Eof (eof_value 0 0x6162_6300 3);
}))

-- it is unknown and gets no echo, even with the number that runs
pub foreign_running_eof : refusal_at (running Two) (foreign_eof Two 5) ≡ plain refusal.NoTransaction
unfolding initial step state_of runs_of runs_from
foreign_running_eof = refl

-- the same with a lower number
pub foreign_lower_eof : refusal_at (running Two) (foreign_eof Two 3) ≡ plain refusal.NoTransaction
unfolding initial step state_of runs_of runs_from
foreign_lower_eof = refl

-- refusals of the transaction's end
pub other_mode : refusal_at (running One) (part Two 5) ≡ plain refusal.ModeMismatch
unfolding initial step state_of runs_of runs_from
other_mode = refl

pub nothing_stored : refusal_at (running One) (on 5 (what.Stored 0 true)) ≡ plain refusal.StaleStored
unfolding initial step state_of runs_of runs_from
nothing_stored = refl

-- ---- transactions in sequence

-- number 5 is cancelled
abbrev pub cancelled : List Event
cancelled = metadata One 5 ∷ on 5 what.Cancel ∷ []

pub cancelled_told : issued_by (after fresh cancelled)
    ≡ told.MetadataRecv (record { source = record { 0 = 1 }; size = 3; source_name = 97 ∷ []; destination_name = 98 ∷ []; messages = [] }) ∷ told.TransactionFinished 15 Incomplete Discarded ∷ []
unfolding initial step state_of runs_of runs_from
cancelled_told = refl

pub cancelled_runs_not : not (is_running (after fresh cancelled)) ≡ true
unfolding initial step state_of runs_of runs_from
cancelled_runs_not = refl

-- then number 7 opens; number 5 is old, and so is 6, which was never opened
pub next_opens : are_taken fresh (cancelled ++ metadata One 7 ∷ part One 7 ∷ []) ≡ true
unfolding initial step state_of runs_of runs_from
next_opens = refl

-- class 2 may follow class 1
pub other_class_opens : are_taken fresh (cancelled ++ metadata Two 7 ∷ part Two 7 ∷ []) ≡ true
unfolding initial step state_of runs_of runs_from
other_class_opens = refl

-- then the new class counts
pub first_class_then_mismatches : refusal_at (after fresh (cancelled ++ metadata Two 7 ∷ [])) (part One 7) ≡ plain refusal.ModeMismatch
unfolding initial step state_of runs_of runs_from
first_class_then_mismatches = refl

pub next_key : key_of (after fresh (cancelled ++ metadata One 7 ∷ [])) ≡ Some (key 7)
unfolding initial step state_of runs_of runs_from
next_key = refl

pub next_before : (after fresh (cancelled ++ metadata One 7 ∷ [])).before ≡ Some 5
unfolding initial step state_of runs_of runs_from
next_before = refl

pub next_journal : (after fresh (cancelled ++ metadata One 7 ∷ part One 7 ∷ [])).journal ≡ metadata One 7 ∷ part One 7 ∷ []
unfolding initial step state_of runs_of runs_from
next_journal = refl

pub first_is_old : refusal_at (after fresh (cancelled ++ metadata One 7 ∷ [])) (metadata One 5) ≡ plain refusal.OldTransaction
unfolding initial step state_of runs_of runs_from
first_is_old = refl

pub never_opened_is_old : refusal_at (after fresh (cancelled ++ metadata One 7 ∷ [])) (metadata One 6) ≡ plain refusal.OldTransaction
unfolding initial step state_of runs_of runs_from
never_opened_is_old = refl

-- an ended transaction is not opened again
pub ended_is_old : refusal_at (after fresh cancelled) (metadata One 5) ≡ plain refusal.OldTransaction
unfolding initial step state_of runs_of runs_from
ended_is_old = refl

-- ---- a whole transaction of class 2

-- the file is received and kept, and the Finished PDU is acknowledged
abbrev pub whole : List Event
whole = metadata Two 5 ∷ part Two 5 ∷ eof Two 5 ∷ on 5 (what.Stored 2 true) ∷ on 5 (finished_acknowledged 0) ∷ []

pub whole_taken : are_taken fresh whole ≡ true
unfolding initial step state_of runs_of runs_from
whole_taken = refl

pub whole_told : issued_by (after fresh whole)
    ≡ told.MetadataRecv (record { source = record { 0 = 1 }; size = 3; source_name = 97 ∷ []; destination_name = 98 ∷ []; messages = [] }) ∷ told.FileSegmentRecv 0 3 ∷ told.EofRecv ∷ told.TransactionFinished 0 Complete Retained ∷ []
unfolding initial step state_of runs_of runs_from
whole_told = refl

-- afterwards its EOF gets an echo, and its Metadata does not
pub eof_again_is_echoed : echoed (refusal_at (after fresh whole) (eof Two 5)) ≡ digits 10 0x28000300010502064002 ∷ []
unfolding initial step state_of runs_of runs_from written spelling digits width_from
eof_again_is_echoed = refl

-- the echo depends on the PDU alone: a Finished PDU gets its echo here too
abbrev pub finished : Event
finished = on 5 (what.Pdu (record {
  header = record (header Two) { direction = TowardSender };
  body = body.Finished (record { condition = 0; delivery = Complete; status = Retained; location = None });
}))

pub finished_is_echoed : echoed (refusal_at (after fresh whole) finished) ≡ digits 10 0x20000300010502065102 ∷ []
unfolding initial step state_of runs_of runs_from written spelling digits width_from
finished_is_echoed = refl

pub metadata_again_is_not : refusal_at (after fresh whole) (metadata Two 5) ≡ plain refusal.OldTransaction
unfolding initial step state_of runs_of runs_from
metadata_again_is_not = refl

-- ---- what a step gives

-- Metadata arms Inactivity, stamped with its number in the journal
pub metadata_timers : (answer_of (running Two)).timers ≡ op.Arm (key 5) Inactivity 0 1000 ∷ []
unfolding initial step state_of runs_of runs_from
metadata_timers = refl

-- the EOF of class 2 is acknowledged
pub eof_pdus : map written (answer_of (after (running Two) (part Two 5 ∷ eof Two 5 ∷ []))).pdus ≡ digits 10 0x28000300010502064001 ∷ []
unfolding initial step state_of runs_of runs_from written spelling digits width_from
eof_pdus = refl

-- ---- the file of a waiting deposit

-- a lane that is waiting for the file store
abbrev pub storing : State
storing = after fresh (metadata One 5 ∷ part One 5 ∷ eof One 5 ∷ [])

-- its deposit has the transaction's key and the EOF's number in the journal
pub deposit_given : (answer_of storing).deposit ≡ Some (record { key = key 5; stamp = 2 })
unfolding initial step state_of runs_of runs_from
deposit_given = refl

abbrev pub image : Image
image = record { source_name = 97 ∷ []; destination_name = 98 ∷ []; octets = abc }

pub image_waits : image_of storing (key 5) 2 ≡ Ok image
unfolding initial step state_of runs_of runs_from
image_waits = refl

pub other_stamp : image_of storing (key 5) 1 ≡ Err refusal.StaleStored
unfolding initial step state_of runs_of runs_from
other_stamp = refl

pub other_key : image_of storing (key 6) 2 ≡ Err refusal.StaleStored
unfolding initial step state_of runs_of runs_from
other_key = refl

-- with the right number and stamp but another source there is no file
pub other_source_of_image : image_of storing (record { source = record { 0 = 3 }; seq = 5 }) 2 ≡ Err refusal.StaleStored
unfolding initial step state_of runs_of runs_from
other_source_of_image = refl

pub nothing_waits : image_of fresh (key 5) 0 ≡ Err refusal.StaleStored
nothing_waits = refl
