-- Meaning. The work that a program does without an event from outside: expired timers, files that are sent.
use Rattle.std.specs.Prelude.{ℕ, Bool, nat_le, min, fold, map, set, List, [], ◌∷◌, ◌++◌, Option, Some, None, position, option_map}
use Rattle.cfdp_types.specs.declared.key.TxnKey.{TxnKey}
use Rattle.timer_list.specs.declared.armed.Armed.{Armed}
use Rattle.timer_list.specs.Timers.{is_key}
use Rattle.program_agenda.specs.Places.{at_place, turned_at, without_place}
use Rattle.program_agenda.specs.declared.resting.Resting.{Resting}
use Rattle.program_agenda.specs.declared.sending.Sending.{Sending}

-- ---- places

-- the list with another item at this place
abbrev pub written_at : {A : Type 0} → Option ℕ → A → List A → List A
written_at None item items = items
written_at (Some place) item items = set items place item

-- ---- files that are being sent

-- a file doesn't rest at the moment
abbrev pub is_awake : ℕ → Sending → Bool
is_awake now sending = nat_le sending.rests_until now

-- a file is this transaction's
abbrev pub is_of : TxnKey → Sending → Bool
is_of key sending = is_key key sending.key

-- the place of the first file that doesn't rest, and that of a transaction's file
abbrev pub awake_place : ℕ → List Sending → Option ℕ
awake_place now sendings = position (is_awake now) sendings

abbrev pub key_place : TxnKey → List Sending → Option ℕ
key_place key sendings = position (is_of key) sendings

-- the transaction of the first file that doesn't rest, and the list with that file moved to the end
abbrev pub next_key : ℕ → List Sending → Option TxnKey
next_key now sendings = option_map (λ sending. sending.key) (at_place (awake_place now sendings) sendings)

abbrev pub turned : ℕ → List Sending → List Sending
turned now sendings = turned_at (awake_place now sendings) sendings

-- the file of a transaction rests until a moment
abbrev pub rested : TxnKey → ℕ → List Sending → List Sending
rested key until sendings = written_at (key_place key sendings) (record { key = key; rests_until = until }) sendings

-- the file of a transaction is no longer being sent
abbrev pub forgotten : TxnKey → List Sending → List Sending
forgotten key sendings = without_place (key_place key sendings) sendings

-- one more file is being sent, after all others
abbrev pub begun : TxnKey → List Sending → List Sending
begun key sendings = sendings ++ record { key = key; rests_until = 0 } ∷ []

-- the first moment at which a file doesn't rest, or the greatest of 64 bits
abbrev pub least_rest : List Sending → ℕ
least_rest sendings = fold (λ least sending. min least sending.rests_until) 18446744073709551615 sendings

-- a file that no longer rests, and a list without any that rests
abbrev pub woken_one : Sending → Sending
woken_one sending = record sending { rests_until = 0 }

abbrev pub woken : List Sending → List Sending
woken sendings = map woken_one sendings

-- ---- the whole

-- the timers that run, in the order in which they were armed; those that rest, in the order in which they expired;
-- files, in the order of their turns
pub record AgendaValue : Type 0 where
  pub timers : List Armed
  pub resting : List Resting
  pub sendings : List Sending
