-- Meaning. A protocol data unit as contracts see it.
use Rattle.std.specs.Prelude.{Bool, true, false}
use Rattle.pdu_values.specs.declared.bodies.Acknowledged.{Acknowledged}
use Rattle.pdu_values.specs.declared.bodies.Acknowledged.TheVariants as acknowledged
use Rattle.pdu_values.specs.declared.pdu.Header.{Header}
use Rattle.pdu_values.specs.declared.pdu.Body.{Body}
use Rattle.pdu_values.specs.declared.pdu.Body.TheVariants as bodies

pub record PduValue : Type 0 where
  pub header : Header
  pub body : Body

-- whether an ACK goes toward the sender of the file
abbrev pub ack_is_toward_sender : Acknowledged → Bool
ack_is_toward_sender acknowledged.Eof = true
ack_is_toward_sender acknowledged.Finished = false

-- whether this kind of body goes toward the sender of the file
abbrev pub is_toward_sender : Body → Bool
is_toward_sender (bodies.Eof e) = false
is_toward_sender (bodies.Finished f) = true
is_toward_sender (bodies.Ack a) = ack_is_toward_sender a.of
is_toward_sender (bodies.Metadata m) = false
is_toward_sender (bodies.Nak n) = true
is_toward_sender (bodies.Prompt p) = false
is_toward_sender (bodies.KeepAlive k) = true
is_toward_sender (bodies.FileData f) = false
