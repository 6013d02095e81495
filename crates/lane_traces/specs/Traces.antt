-- Meaning. The progress of a lane's transaction.
use Rattle.std.specs.Prelude.{◌≡◌, ◌↔◌, ◌-◌, ◌==◌, ◌&&◌, Bool, true, false, nat_lt, if◌then◌else◌, List, length, slice_get, Option, Some, None, Result, Ok, Err}
use Rattle.cfdp_types.specs.declared.key.TxnKey.{TxnKey}
use Rattle.indications.specs.declared.indication.Indication.{Indication}
use Rattle.indications.specs.Words.{is_end, IsBegunOf, IsWordOf}
use Rattle.txn_events.specs.declared.event.Event.{Event}
use Rattle.txn_events.specs.declared.refusal.Refusal.{Refusal}
use Rattle.txn_events.specs.declared.refusal.Refusal.TheVariants.{NoTransaction, OldTransaction}
use Rattle.lane_table.specs.Logs.{Log, side_of, issued, entries_of, IsLegal}
use Rattle.lane_table.specs.Lane.{State, IsSound, key_of, log_of, issued_by}
use Rattle.lane_traces.specs.declared.traced.Traced.{Traced}

-- there is an indication, and it is an end
abbrev pub is_end_told : Option Indication → Bool
is_end_told None = false
is_end_told (Some indication) = is_end indication

-- the last indication is an end
abbrev pub is_over : List Indication → Bool
is_over told = is_end_told (slice_get told (length told - 1))

-- the progress of a transaction, from its events and its indications
abbrev pub traced_by : List Event → List Indication → Traced
traced_by journal told = record { entries = length journal; ended = is_over told }

-- two keys are the same
abbrev pub is_same_key : TxnKey → TxnKey → Bool
is_same_key one other = one.source.0 == other.source.0 && one.seq == other.seq

-- the key is of the last one's source, with a lower number
abbrev pub is_older_than : TxnKey → TxnKey → Bool
is_older_than last key = last.source.0 == key.source.0 && nat_lt key.seq last.seq

-- the progress of the transaction with a key, from the lane's last key and that transaction's events and indications
abbrev pub how_far_by : Option TxnKey → List Event → List Indication → TxnKey → Result Traced Refusal
how_far_by None journal told key = Err NoTransaction
how_far_by (Some last) journal told key =
    if is_same_key last key then Ok (traced_by journal told)
    else if is_older_than last key then Err OldTransaction
    else Err NoTransaction

-- the progress of the transaction with a key at a lane, or the refusal
abbrev pub how_far : State → TxnKey → Result Traced Refusal
how_far state key = how_far_by (key_of state) state.journal (issued_by state) key

-- the events of the transaction with a key, likewise
abbrev pub events_by : Option TxnKey → List Event → TxnKey → Result (List Event) Refusal
events_by None journal key = Err NoTransaction
events_by (Some last) journal key =
    if is_same_key last key then Ok journal
    else if is_older_than last key then Err OldTransaction
    else Err NoTransaction

-- the events of the transaction with a key at a lane, or the refusal
abbrev pub events_of : State → TxnKey → Result (List Event) Refusal
events_of state key = events_by (key_of state) state.journal key

-- the reported progress is true of the lane's log, which is legal and has the key
pub record IsHowFar (state : State) (key : TxnKey) (traced : Traced) : Type 0 where
  pub log : Log
  pub log_is : log_of state ≡ Some log
  pub key_is : key_of state ≡ Some key
  pub legal : IsLegal log
  pub entries : traced.entries ≡ entries_of log
  pub begun : IsBegunOf (side_of log) (issued log)
  pub ended : (traced.ended ≡ true) ↔ IsWordOf (side_of log) (issued log)

-- the progress that a sound lane reports is true
abbrev pub TellsHowFar : Type 0
TellsHowFar = (state : State) (key : TxnKey) (traced : Traced) → IsSound state → how_far state key ≡ Ok traced → IsHowFar state key traced
