-- Of the code. What parts borrowed from a datagram stand for.
use Rattle.std.specs.Prelude.{ℕ, zero, suc, ◌/◌, ◌%◌, ◌==◌, List, [], ◌∷◌, length, Option, Some, None}
use Rattle.pdu_values.specs.declared.pdu.Body.{Body}
use Rattle.pdu_values.specs.declared.pdu.Body.TheVariants as bodies
use Rattle.pdu_values.specs.declared.requests.SegmentRequest.{SegmentRequest}
use Rattle.pdu_values.specs.Requests.{size_octets}
use Rattle.pdu_values.specs.Tlvs.{Tlv, messages_in}
use Rattle.pdu_reading.specs.Reading.{tlv_at, request_at, delivery_of, file_status_of, transaction_status_of}
use Rattle.pdu_codec.specs.declared.options.TlvParts.{TlvParts}
use Rattle.pdu_codec.specs.declared.parts.Parts.{Parts}
use Rattle.pdu_codec.specs.declared.parts.Parts.TheVariants as parts

abbrev pub tlv_of_parts : TlvParts → Tlv
tlv_of_parts t = record { kind = t.kind; value = t.value.now }

-- the first item, if there is one, and the others after it
abbrev pub first_and_others : {A : Type 0} → Option (A × List ℕ) → (List ℕ → List A) → List A
first_and_others None others = []
first_and_others (Some first) others = first.0 ∷ others first.1

-- a list of at most this many items, as far as they can be read
unfoldable pub items_among : {A : Type 0} → (List ℕ → Option (A × List ℕ)) → ℕ → List ℕ → List A
items_among item zero octets = []
items_among item (suc most) octets = first_and_others (item octets) (λ rest. items_among item most rest)

-- the messages to the user among optional fields
abbrev pub messages_at : List ℕ → List (List ℕ)
messages_at octets = messages_in (items_among tlv_at (length octets) octets)

-- the segment requests in the octets
abbrev pub requests_at : ℕ → List ℕ → List SegmentRequest
requests_at width octets = items_among (request_at width) (length octets) octets

abbrev pub body_of_parts : Parts → Body
body_of_parts (parts.Eof e) =
    bodies.Eof (record { condition = e.flags / 16; checksum = e.checksum; size = e.size; location = e.location })
body_of_parts (parts.Finished f) = bodies.Finished (record {
  condition = f.flags / 16;
  delivery = delivery_of (f.flags / 4 % 2);
  status = file_status_of (f.flags % 4);
  location = f.location;
})
body_of_parts (parts.Ack a) =
    bodies.Ack (record { of = a.of; condition = a.flags / 16; status = transaction_status_of (a.flags % 4) })
body_of_parts (parts.Metadata m) = bodies.Metadata (record {
  closure = m.flags / 64 % 2 == 1;
  checksum_type = m.flags % 16;
  size = m.size;
  source_name = m.source_name.now;
  destination_name = m.destination_name.now;
  messages = messages_at m.options.now;
})
body_of_parts (parts.Nak n) = bodies.Nak (record { start = n.start; end = n.end; requests = requests_at (size_octets n.large) n.requests.now })
body_of_parts (parts.Prompt p) = bodies.Prompt p
body_of_parts (parts.KeepAlive k) = bodies.KeepAlive k
body_of_parts (parts.FileData f) = bodies.FileData (record { offset = f.offset; octets = f.octets.now })
