-- Rows. Worked steps of a sending lane.
use Rattle.std.specs.Prelude.{◌≡◌, ℕ, nat_lt, true, false, List, [], ◌∷◌, length, map, Some, None, Err, refl}
use Rattle.cfdp_types.specs.Reference.{reference}
use Rattle.cfdp_types.specs.declared.key.TxnKey.{TxnKey}
use Rattle.cfdp_types.specs.declared.limits.TheConstants.{FILE_OCTETS}
use Rattle.cfdp_types.specs.declared.names.Class.{Class}
use Rattle.cfdp_types.specs.declared.names.Class.TheVariants.{One, Two}
use Rattle.cfdp_types.specs.declared.names.Delivery.TheVariants.{Complete}
use Rattle.cfdp_types.specs.declared.names.FileStatus.TheVariants.{Retained}
use Rattle.cfdp_types.specs.declared.names.TimerKind.TheVariants.{Ack}
use Rattle.cfdp_types.specs.declared.timer_op.TimerOp.TheVariants as op
use Rattle.gap_list.specs.Runs.{runs_of, runs_from}
use Rattle.txn_events.specs.declared.event.What.{What}
use Rattle.txn_events.specs.declared.event.What.TheVariants as what
use Rattle.txn_events.specs.declared.refusal.Refusal.TheVariants as refusal
use Rattle.pdu_values.specs.Numbers.{digits}
use Rattle.pdu_values.specs.Spelling.{spelling, written}
use Rattle.pdu_values.specs.Tlvs.{width_from}
use Rattle.pdu_values.specs.Pdu.{PduValue}
use Rattle.pdu_values.specs.declared.pdu.Body.{Body}
use Rattle.pdu_values.specs.declared.pdu.Body.TheVariants as body
use Rattle.pdu_values.specs.declared.pdu.Direction.TheVariants.{TowardSender}
use Rattle.indications.specs.declared.indication.Indication.TheVariants as told
use Rattle.sender_table.specs.Sending.{initial, step, state_of}
use Rattle.txn_events.specs.Examples.{abc, eof_value, header, metadata_value, put_value}
use Rattle.txn_events.specs.declared.event.Event.{Event}
use Rattle.txn_events.specs.declared.event.Event.TheVariants.{Put, On}
use Rattle.lane_table.specs.declared.lane_side.LaneSide.TheVariants.{Sending}
use Rattle.lane_table.specs.Lane.{State, idle, key_of, issued_by}
use Rattle.lane_table.specs.Steps.{refusal_at, next_number, answer_of, image_of}
use Rattle.world_rows.specs.ReceivingLaneRows.{after, are_taken, echoed, plain}

-- ---- the lane

-- a lane of entity 2, where two users have two lanes each, and sequence numbers have one octet
abbrev pub sending_lane : ℕ → ℕ → ℕ → State
sending_lane first user lane = idle (Sending (record { first = first; lanes = 2; users = 2 }) 255) user lane (record { 0 = 2 })

-- lane 0 of user 0, which counts from one
abbrev pub fresh : State
fresh = sending_lane 1 0 0

-- the key with a number
abbrev pub key : ℕ → TxnKey
key number = record { source = record { 0 = 2 }; seq = number }

-- a Put of a file
abbrev pub puts : Class → List ℕ → Event
puts class file = Put (put_value class file) reference

-- a Put of "abc"
abbrev pub put : Class → Event
put class = puts class abc

-- another event of a transaction
abbrev pub on : ℕ → What → Event
on number event = On (key number) event

-- ---- numbers

pub number_of_alice : next_number fresh ≡ 4
number_of_alice = refl

pub number_of_bob : next_number (sending_lane 1 1 0) ≡ 5
number_of_bob = refl

pub number_of_second_lane : next_number (sending_lane 1 0 1) ≡ 6
number_of_second_lane = refl

-- the lane's next numbers
pub next_numbers : next_number (after fresh (put One ∷ on 4 what.Cancel ∷ [])) ≡ 8
unfolding initial step state_of runs_of runs_from
next_numbers = refl

pub next_numbers_again : next_number (after fresh (put One ∷ on 4 what.Cancel ∷ put One ∷ on 8 what.Cancel ∷ [])) ≡ 12
unfolding initial step state_of runs_of runs_from
next_numbers_again = refl

-- ---- opening by a Put

pub put_taken : refusal_at fresh (put One) ≡ None
unfolding initial step state_of runs_of runs_from
put_taken = refl

pub put_key : key_of (after fresh (put One ∷ [])) ≡ Some (key 4)
put_key = refl

pub put_told : (answer_of (after fresh (put One ∷ []))).inds ≡ told.Transaction ∷ []
unfolding initial step state_of runs_of runs_from
put_told = refl

-- another Put has to wait
pub put_is_busy : refusal_at (after fresh (put One ∷ [])) (puts One []) ≡ plain refusal.LaneBusy
unfolding initial step state_of runs_of runs_from
put_is_busy = refl

-- nothing else opens a transaction
pub nothing_else_opens : refusal_at fresh (on 4 what.Pump) ≡ plain refusal.NoTransaction
nothing_else_opens = refl

pub number_above_is_unknown : refusal_at (after fresh (put One ∷ [])) (on 8 what.Pump) ≡ plain refusal.NoTransaction
unfolding initial step state_of runs_of runs_from
number_above_is_unknown = refl

-- a PDU toward the receiver, of one of this entity's own transactions
abbrev pub sent_back : ℕ → Body → Event
sent_back number b = on number (what.Pdu (record {
  header = record (header Two) { source = record { 0 = 2 }; sequence = number; destination = record { 0 = 1 } };
  body = b;
}))

-- such Metadata opens nothing here, even with a higher number while a transaction runs
pub metadata_opens_not : refusal_at fresh (sent_back 4 (body.Metadata (metadata_value 0 3))) ≡ plain refusal.NoTransaction
metadata_opens_not = refl

pub metadata_above_is_unknown : refusal_at (after fresh (put One ∷ [])) (sent_back 8 (body.Metadata (metadata_value 0 3))) ≡ plain refusal.NoTransaction
unfolding initial step state_of runs_of runs_from
metadata_above_is_unknown = refl

-- a transaction of another source is unknown, even with the number that runs
pub other_source : refusal_at (after fresh (put One ∷ [])) (On (record { source = record { 0 = 1 }; seq = 4 }) what.Pump) ≡ plain refusal.NoTransaction
unfolding initial step state_of runs_of runs_from
other_source = refl

-- ---- a whole transaction of class 2

-- the receiver's Finished PDU
abbrev pub finished : ℕ → PduValue
finished number = record {
  header = record {
    direction = TowardSender;
    class = Two;
    large = false;
    entity_octets = 1;
    sequence_octets = 1;
    source = record { 0 = 2 };
    sequence = number;
    destination = record { 0 = 1 };
  };
  body = body.Finished (record { condition = 0; delivery = Complete; status = Retained; location = None });
}

abbrev pub whole : List Event
whole = put Two ∷ on 4 what.Pump ∷ on 4 what.Pump ∷ on 4 what.Pump ∷ on 4 (what.Pdu (finished 4)) ∷ []

pub whole_taken : are_taken fresh whole ≡ true
unfolding initial step state_of runs_of runs_from
whole_taken = refl

pub whole_told : issued_by (after fresh whole) ≡ told.Transaction ∷ told.EofSent ∷ told.TransactionFinished 0 Complete Retained ∷ []
unfolding initial step state_of runs_of runs_from
whole_told = refl

-- afterwards the Finished PDU gets an echo
pub finished_again_is_echoed : echoed (refusal_at (after fresh whole) (on 4 (what.Pdu (finished 4)))) ≡ digits 10 0x20000300020401065102 ∷ []
unfolding initial step state_of runs_of runs_from written spelling digits width_from
finished_again_is_echoed = refl

-- the echo depends on the PDU alone: an EOF gets its echo here too
pub eof_is_echoed : echoed (refusal_at (after fresh whole) (sent_back 4 (body.Eof (eof_value 0 0x6162_6300 3)))) ≡ digits 10 0x28000300020401064002 ∷ []
unfolding initial step state_of runs_of runs_from written spelling digits width_from
eof_is_echoed = refl

-- a PDU with a number above the last is unknown and gets no echo
pub finished_above_is_unknown : refusal_at (after fresh whole) (on 8 (what.Pdu (finished 8))) ≡ plain refusal.NoTransaction
unfolding initial step state_of runs_of runs_from
finished_above_is_unknown = refl

-- the same while a transaction runs
pub finished_above_is_unknown_before : refusal_at (after fresh (put Two ∷ [])) (on 8 (what.Pdu (finished 8))) ≡ plain refusal.NoTransaction
unfolding initial step state_of runs_of runs_from
finished_above_is_unknown_before = refl

pub pump_is_old : refusal_at (after fresh whole) (on 4 what.Pump) ≡ plain refusal.OldTransaction
unfolding initial step state_of runs_of runs_from
pump_is_old = refl

-- a sender has no file for a file store
pub no_image : image_of (after fresh (put One ∷ [])) (key 4) 0 ≡ Err refusal.StaleStored
unfolding initial step state_of runs_of runs_from
no_image = refl

-- ---- what a step gives

-- the first Pump sends the Metadata
pub metadata_sent : map written (answer_of (after fresh (put One ∷ on 4 what.Pump ∷ []))).pdus ≡ digits 17 0x24000a000204010700000000030161_0162 ∷ []
unfolding initial step state_of runs_of runs_from written spelling digits width_from
metadata_sent = refl

-- the third one sends the EOF, which in class 2 arms Ack, stamped with its number in the journal
pub eof_timers : (answer_of (after fresh (put Two ∷ on 4 what.Pump ∷ on 4 what.Pump ∷ on 4 what.Pump ∷ []))).timers ≡ op.Arm (key 4) Ack 3 1000 ∷ []
unfolding initial step state_of runs_of runs_from
eof_timers = refl

-- ---- running out of numbers

-- a lane that counts from 63 has one number left
abbrev pub last_number : State
last_number = sending_lane 63 0 0

pub last_is_taken : refusal_at last_number (puts One []) ≡ None
unfolding initial step state_of runs_of runs_from
last_is_taken = refl

pub last_key : key_of (after last_number (puts One [] ∷ [])) ≡ Some (key 252)
last_key = refl

pub then_exhausted : refusal_at (after last_number (puts One [] ∷ on 252 what.Cancel ∷ [])) (puts One []) ≡ plain refusal.SeqExhausted
unfolding initial step state_of runs_of runs_from
then_exhausted = refl

-- while the transaction with the last number runs, the lane is busy
pub busy_before_exhausted : refusal_at (after last_number (puts One [] ∷ [])) (puts One []) ≡ plain refusal.LaneBusy
unfolding initial step state_of runs_of runs_from
busy_before_exhausted = refl

-- both come before TooLarge, whatever the size of the file
pub exhausted_before_large : (file : List ℕ) → nat_lt FILE_OCTETS (length file) ≡ true
    → refusal_at (after last_number (puts One [] ∷ on 252 what.Cancel ∷ [])) (puts One file) ≡ plain refusal.SeqExhausted
unfolding initial step state_of runs_of runs_from
exhausted_before_large file large = refl

pub busy_before_large : (file : List ℕ) → nat_lt FILE_OCTETS (length file) ≡ true
    → refusal_at (after last_number (puts One [] ∷ [])) (puts One file) ≡ plain refusal.LaneBusy
unfolding initial step state_of runs_of runs_from
busy_before_large file large = refl

-- where there is a number, a file that is too large is refused as TooLarge
pub large_is_refused : (file : List ℕ) → nat_lt FILE_OCTETS (length file) ≡ true → refusal_at last_number (puts One file) ≡ plain refusal.TooLarge
unfolding initial step state_of runs_of runs_from
large_is_refused file large = rw large refl

-- lane 1 of user 1, which has only the greatest number left
abbrev pub greatest_number : State
greatest_number = sending_lane 63 1 1

-- that number is the greatest of one octet
pub greatest_is_next : next_number greatest_number ≡ 255
greatest_is_next = refl

-- a Put is accepted
pub greatest_is_taken : refusal_at greatest_number (puts One []) ≡ None
unfolding initial step state_of runs_of runs_from
greatest_is_taken = refl

-- it gets that number
pub greatest_key : key_of (after greatest_number (puts One [] ∷ [])) ≡ Some (key 255)
greatest_key = refl

-- the next Put gets no number
pub exhausted_after_greatest : refusal_at (after greatest_number (puts One [] ∷ on 255 what.Cancel ∷ [])) (puts One []) ≡ plain refusal.SeqExhausted
unfolding initial step state_of runs_of runs_from
exhausted_after_greatest = refl
