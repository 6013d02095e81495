-- Meaning. The state of a lane: the transaction that it runs or ran last, and the number of the one before.
use Rattle.std.specs.Prelude.{◌≡◌, ℕ, ◌+◌, ◌*◌, ◌/◌, ◌%◌, ◌<◌, Bool, true, false, not, nat_lt, List, [], ◌∷◌, length, Option, Some, None}
use Rattle.std.specs.Option.{option_map}
use Rattle.cfdp_types.specs.declared.key.EntityId.{EntityId}
use Rattle.cfdp_types.specs.declared.key.TxnKey.{TxnKey}
use Rattle.indications.specs.declared.indication.Indication.{Indication}
use Rattle.txn_events.specs.declared.event.Event.{Event}
use Rattle.lane_table.specs.declared.lane_side.LaneSide.{LaneSide}
use Rattle.lane_table.specs.declared.lane_side.LaneSide.TheVariants.{Sending, Receiving}
use Rattle.lane_table.specs.declared.lane_side.Numbers.{Numbers}
use Rattle.lane_table.specs.Logs.{Log, log_by, opened_by, issued, has_ended, entries_of, IsLegal}

pub record State : Type 0 where
  -- what it runs: sending transactions, or receptions from one source
  pub side : LaneSide
  pub user : ℕ
  pub lane : ℕ
  -- the entity that sends the files of its transactions
  pub source : EntityId
  -- the number of the transaction that it opened last, and of the one opened before that
  pub last : Option ℕ
  pub before : Option ℕ
  -- the accepted events of the last transaction, oldest first
  pub journal : List Event

-- a lane that has opened no transaction
abbrev pub idle : LaneSide → ℕ → ℕ → EntityId → State
idle side user lane source = record { side = side; user = user; lane = lane; source = source; last = None; before = None; journal = [] }

-- ---- numbers

-- the key with this number, at this source
abbrev pub key_at : EntityId → ℕ → TxnKey
key_at source number = record { source = source; seq = number }

-- the key of the last transaction
abbrev pub key_of : State → Option TxnKey
key_of state = option_map (key_at state.source) state.last

-- a number is above the last, or there is no last
abbrev pub is_above : ℕ → Option ℕ → Bool
is_above number None = true
is_above number (Some last) = nat_lt last number

-- the number of the n-th transaction of a sending lane
abbrev pub number_at : Numbers → ℕ → ℕ → ℕ → ℕ
number_at numbers user lane n = (n * numbers.lanes + lane) * numbers.users + user

-- the number after a lane's last one
abbrev pub number_after : Numbers → ℕ → ℕ → Option ℕ → ℕ
number_after numbers user lane None = number_at numbers user lane numbers.first
number_after numbers user lane (Some last) = last + numbers.lanes * numbers.users

-- the number gives back its user and its lane
pub record IsNumberOf (numbers : Numbers) (user lane number : ℕ) : Type 0 where
  pub of_user : number % numbers.users ≡ user
  pub of_lane : number / numbers.users % numbers.lanes ≡ lane

-- a sending lane has users and lanes to count, so that its numbers rise
abbrev pub IsNumbered : LaneSide → Type 0
IsNumbered (Sending numbers greatest) = (0 < numbers.lanes) × (0 < numbers.users)
IsNumbered (Receiving params) = Unit {0}

-- ---- the last transaction

-- the transaction that a journal's first event opened, with the log of the whole journal
abbrev pub log_from : LaneSide → EntityId → Option ℕ → List Event → Option Log
log_from side source (Some number) (first ∷ later) = option_map (λ transaction. log_by transaction (first ∷ later)) (opened_by side (key_at source number) first)
log_from side source last journal = None

-- the last transaction with its log, if there is one
abbrev pub log_of : State → Option Log
log_of state = log_from state.side state.source state.last state.journal

-- whether there is a transaction that has not ended
abbrev pub goes_on : Option Log → Bool
goes_on None = false
goes_on (Some log) = not (has_ended log)

abbrev pub is_running : State → Bool
is_running state = goes_on (log_of state)

-- all its indications, in order
abbrev pub issued_in : Option Log → List Indication
issued_in None = []
issued_in (Some log) = issued log

abbrev pub issued_by : State → List Indication
issued_by state = issued_in (log_of state)

-- the number of its entries, 0 where there is no transaction
abbrev pub entries_in : Option Log → ℕ
entries_in None = 0
entries_in (Some log) = entries_of log

-- ---- what is true of every lane

-- there is a transaction exactly where a number was assigned, and its log is legal
abbrev pub IsRun : Option ℕ → Option Log → Type 0
IsRun None None = Unit {0}
IsRun (Some number) (Some log) = IsLegal log
IsRun last log = ⊥

-- the last number is above the one before
abbrev pub IsRisen : Option ℕ → Option ℕ → Type 0
IsRisen None last = Unit {0}
IsRisen (Some before) None = ⊥
IsRisen (Some before) (Some last) = before < last

pub record IsSound (state : State) : Type 0 where
  pub numbered : IsNumbered state.side
  pub run : IsRun state.last (log_of state)
  -- each event of the journal has its entry in the log
  pub counted : length state.journal ≡ entries_in (log_of state)
  pub risen : IsRisen state.before state.last
