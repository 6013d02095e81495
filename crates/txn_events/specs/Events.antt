-- Meaning. Tests of an event that both ends of a transaction use.
use Rattle.std.specs.Prelude.{ℕ, ◌+◌, Bool, true, false, not, ◌&&◌, ◌==◌, nat_lt, if◌then◌else◌, IsTrue, length, Option, Some, None}
use Rattle.cfdp_types.specs.Condition as condition
use Rattle.cfdp_types.specs.declared.limits.TheConstants.{FILE_OCTETS}
use Rattle.cfdp_types.specs.declared.names.Class.{Class}
use Rattle.cfdp_types.specs.declared.names.Class.TheVariants.{One, Two}
use Rattle.cfdp_types.specs.declared.names.TimerKind.{TimerKind}
use Rattle.cfdp_types.specs.Steps.{is_kind, is_stamp}
use Rattle.pdu_values.specs.Pdu.{PduValue}
use Rattle.pdu_values.specs.declared.pdu.Body.{Body}
use Rattle.pdu_values.specs.declared.pdu.Body.TheVariants as body
use Rattle.pdu_values.specs.declared.pdu.Direction.TheVariants.{TowardReceiver, TowardSender}
use Rattle.pdu_values.specs.declared.bodies.Acknowledged.TheVariants as acknowledged
use Rattle.pdu_values.specs.declared.bodies.TransactionStatus.TheVariants.{Terminated}
use Rattle.txn_events.specs.declared.event.What.{What}
use Rattle.txn_events.specs.declared.event.What.TheVariants as what

-- the acknowledged class
abbrev pub is_two : Class → Bool
is_two One = false
is_two Two = true

-- two classes are the same
abbrev pub is_same_class : Class → Class → Bool
is_same_class One class = not (is_two class)
is_same_class Two class = is_two class

-- ModeMismatch: a PDU whose transmission mode is not the transaction's class
abbrev pub is_of_other_class : Class → What → Bool
is_of_other_class class (what.Pdu pdu) = not (is_same_class pdu.header.class class)
is_of_other_class class _ = false

-- JournalFull: the file store's answer and Abandon are never refused so
abbrev pub needs_room : What → Bool
needs_room (what.Stored stamp kept) = false
needs_room what.Abandon = false
needs_room _ = true

-- the expiration of a timer of this kind
abbrev pub is_expiration : TimerKind → What → Bool
is_expiration kind (what.Timer expired stamp) = is_kind expired kind
is_expiration kind _ = false

-- the body of the received PDU, if the event is one
abbrev pub body_of_event : What → Option Body
body_of_event (what.Pdu pdu) = Some pdu.body
body_of_event _ = None

-- StaleTimer: a timer that does not run, or was armed again since
abbrev pub is_stale_timer : (TimerKind → Option ℕ) → What → Bool
is_stale_timer armed (what.Timer kind stamp) = not (is_stamp (armed kind) stamp)
is_stale_timer armed _ = false

-- the reception of a PDU
abbrev pub is_pdu : What → Bool
is_pdu (what.Pdu pdu) = true
is_pdu _ = false

-- a PDU with this body opens a reception that does not exist yet
abbrev pub body_opens : Body → Bool
body_opens (body.Metadata m) = true
body_opens (body.FileData d) = true
body_opens (body.Eof e) = true
body_opens _ = false

-- the statement that this body opens a reception
abbrev pub BodyOpens : Body → Type 0
BodyOpens b = IsTrue (body_opens b)

-- TooLarge: the size of Metadata, the end of File Data, and the size of an EOF without an error
abbrev pub is_body_too_large : Body → Bool
is_body_too_large (body.Metadata m) = nat_lt FILE_OCTETS m.size
is_body_too_large (body.FileData d) = nat_lt FILE_OCTETS (d.offset + length d.octets)
is_body_too_large (body.Eof e) = e.condition == condition.no_error && nat_lt FILE_OCTETS e.size
is_body_too_large _ = false

-- whether the event is a PDU that is too large
abbrev pub is_too_large : What → Bool
is_too_large (what.Pdu pdu) = is_body_too_large pdu.body
is_too_large _ = false

-- the reply to a PDU of a transaction that has ended or never existed: in class 2 an EOF and a Finished are still
-- acknowledged, with their condition code and header lengths, and with the transaction status terminated
abbrev pub echo_of : PduValue → Option PduValue
echo_of pdu = if is_two pdu.header.class then echoed pdu.body else None
  where
    echoed : Body → Option PduValue
    echoed (body.Eof e) = Some (record {
      header = record (pdu.header) { direction = TowardSender };
      body = body.Ack (record { of = acknowledged.Eof; condition = e.condition; status = Terminated });
    })
    echoed (body.Finished f) = Some (record {
      header = record (pdu.header) { direction = TowardReceiver };
      body = body.Ack (record { of = acknowledged.Finished; condition = f.condition; status = Terminated });
    })
    echoed _ = None
