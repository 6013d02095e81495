-- Meaning. The laws of every sender: what its PDUs say of its Put, and when it indicates a complete delivery.
use Rattle.std.specs.Prelude.{◌≡◌, ℕ, false, List, ◌∷◌, Option, Contains}
use Rattle.std.specs.List.{AllByRecursion}
use Rattle.cfdp_types.specs.Put.{PutValue}
use Rattle.cfdp_types.specs.declared.key.EntityId.{EntityId}
use Rattle.cfdp_types.specs.declared.names.Delivery.TheVariants.{Complete}
use Rattle.cfdp_types.specs.declared.names.FileStatus.{FileStatus}
use Rattle.indications.specs.declared.indication.Indication.TheVariants as told
use Rattle.pdu_values.specs.Pdu.{PduValue, is_toward_sender}
use Rattle.pdu_values.specs.declared.pdu.Body.TheVariants as body
use Rattle.pdu_values.specs.declared.pdu.Header.{Header}
use Rattle.txn_events.specs.declared.event.What.TheVariants as what
use Rattle.sender_table.specs.Sending.{Sending, Event, happens, Entry}
use Rattle.sender_laws.specs.LegalSendings.{IsLegal}
use Rattle.ends_laws.specs.Agreement.{AgreesWith}

-- the PDU goes toward the receiver, and agrees with the Put
abbrev pub IsSaidBySender : PutValue → PduValue → Type 0
IsSaidBySender put pdu = (is_toward_sender pdu.body ≡ false) × AgreesWith put pdu.body

-- each entry of a legal log sends only such PDUs
abbrev pub SendsItsPut : Type 0
SendsItsPut = (sending : Sending) (entry : Entry) (front : List Entry) → IsLegal sending (entry ∷ front)
    → AllByRecursion (IsSaidBySender sending.request) entry.answer.pdus

-- the event is the reception of a Finished PDU of a complete delivery, with these values
pub record IsFinished (event : Event) (condition : ℕ) (status : FileStatus) : Type 0 where
  pub header : Header
  pub location : Option EntityId
  pub event_is : event ≡ happens (what.Pdu (record {
    header = header;
    body = body.Finished (record { condition = condition; delivery = Complete; status = status; location = location });
  }))

-- a complete delivery is indicated only at such an event
abbrev pub TellsWhatCame : Type 0
TellsWhatCame = (sending : Sending) (entry : Entry) (front : List Entry) (condition : ℕ) (status : FileStatus) → IsLegal sending (entry ∷ front)
    → Contains entry.answer.inds (told.TransactionFinished condition Complete status)
    → IsFinished entry.event condition status
