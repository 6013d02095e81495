-- Meaning. The numbers and names of the refusals of events.
use Rattle.std.specs.Prelude.{ℕ, List, codes, Option, Some, None, Result, Ok, Err}
use Rattle.txn_events.specs.declared.refusal.Refusal.{Refusal}
use Rattle.txn_events.specs.declared.refusal.Refusal.TheVariants.{NoTransaction, OldTransaction, LaneBusy, ModeMismatch, StaleTimer, StaleStored, Storing, WrongState, SeqExhausted, TooLarge, JournalFull, NoMemory, QueueFull}

-- the number of a refusal, as it is printed
abbrev pub refusal_number : Refusal → ℕ
refusal_number NoTransaction = 1
refusal_number OldTransaction = 2
refusal_number LaneBusy = 3
refusal_number ModeMismatch = 4
refusal_number StaleTimer = 5
refusal_number StaleStored = 6
refusal_number Storing = 7
refusal_number WrongState = 8
refusal_number SeqExhausted = 9
refusal_number TooLarge = 10
refusal_number JournalFull = 11
refusal_number NoMemory = 12
refusal_number QueueFull = 13

-- the name of a refusal, as it is printed, in octets
abbrev pub refusal_name : Refusal → List ℕ
refusal_name NoTransaction = codes "NoTransaction"
refusal_name OldTransaction = codes "OldTransaction"
refusal_name LaneBusy = codes "LaneBusy"
refusal_name ModeMismatch = codes "ModeMismatch"
refusal_name StaleTimer = codes "StaleTimer"
refusal_name StaleStored = codes "StaleStored"
refusal_name Storing = codes "Storing"
refusal_name WrongState = codes "WrongState"
refusal_name SeqExhausted = codes "SeqExhausted"
refusal_name TooLarge = codes "TooLarge"
refusal_name JournalFull = codes "JournalFull"
refusal_name NoMemory = codes "NoMemory"
refusal_name QueueFull = codes "QueueFull"

-- an answer, or the refusal
abbrev pub unless_refused : {A : Type 0} → Option Refusal → A → Result A Refusal
unless_refused None answer = Ok answer
unless_refused (Some why) answer = Err why
