-- Meaning. Which logs are legal for a reception of either class, and when its file is good.
use Rattle.std.specs.Prelude.{◌≡◌, ◌⊎◌, ℕ, ◌<◌, false, IsSome, List, [], ◌∷◌, Some, Ok}
use Rattle.cfdp_types.specs.ChecksumType as checksum
use Rattle.txn_events.specs.declared.event.What.{What}
use Rattle.txn_events.specs.declared.event.What.TheVariants as what
use Rattle.pdu_values.specs.declared.bodies.Metadata.{Metadata}
use Rattle.pdu_values.specs.declared.bodies.Eof.{Eof}
use Rattle.modular_sum.specs.Sum.{sum}
pub use Rattle.txn_events.specs.Events.{BodyOpens}
use Rattle.txn_events.specs.Logs.{log_after}
use Rattle.txn_events.specs.declared.answer.Answer.{Answer}
use Rattle.receiver_table.specs.Reception.{Reception, Entry, State, state_of}
use Rattle.receiver_table.specs.Answers.{accepted_at, answer_at, octets_from}

-- the event opens this reception: a PDU with its key, whose header the reception adopts
abbrev pub Opens : Reception → What → Type 0
Opens reception (what.Pdu pdu) =
    BodyOpens pdu.body × (pdu.header ≡ reception.header) × (pdu.header.source ≡ reception.key.source) × (pdu.header.sequence ≡ reception.key.seq)
Opens reception _ = ⊥

-- the first event must open the reception; later ones may be any
abbrev pub HasItsPlace : Reception → List Entry → What → Type 0
HasItsPlace reception [] event = Opens reception event
HasItsPlace reception (entry ∷ front) event = Unit {0}

-- each event was accepted, each answer is the table's, and nothing follows an end
abbrev pub IsLegal : Reception → List Entry → Type 0
IsLegal reception [] = Unit {0}
IsLegal reception (entry ∷ front) =
    ((state_of front).ended ≡ false) × HasItsPlace reception front entry.event × (answer_at reception (state_of front) entry.event ≡ Ok entry.answer)
    × IsLegal reception front

-- the answer to an event after a log
abbrev pub answer_behind : Reception → List Entry → What → Answer
answer_behind reception front event = accepted_at reception (state_of front) event

-- the log of a journal
abbrev pub log_of : Reception → List What → List Entry
log_of reception journal = log_after (answer_behind reception) [] journal

-- the file was received as its Metadata and its EOF describe it
pub record IsGood (state : State) : Type 0 where
  pub metadata : Metadata
  pub eof : Eof
  pub metadata_came : state.metadata ≡ Some metadata
  pub eof_came : state.eof ≡ Some eof
  pub supported : (metadata.checksum_type ≡ checksum.modular) ⊎ (metadata.checksum_type ≡ checksum.null)
  pub none_missing : (i : ℕ) → i < eof.size → IsSome (state.received i)
  pub none_beyond : (i : ℕ) → IsSome (state.received i) → i < eof.size
  -- with the null checksum type the sum doesn't matter
  pub agrees : metadata.checksum_type ≡ checksum.modular → sum (octets_from state.received 0 eof.size) ≡ eof.checksum
