-- What a header and a body must hold for a PDU to fit: for those who build one.
use Rattle.std.proofs.Common.{◌≡◌, Bool, true, false, ℕ, ◌+◌, ◌*◌, ◌^◌, ◌<◌, ◌≤◌, List, [], ◌∷◌, ◌++◌, length, map, refl, arith}
use Rattle.std.specs.List.{flat_map, All, AllByRecursion}
use Rattle.std.proofs.lemmas.List.{length-append}
use Rattle.std.proofs.lemmas.List.Elements.{All-tail}
use Rattle.cfdp_types.specs.declared.limits.TheConstants.{MESSAGE_OCTETS}
use Rattle.cfdp_types.specs.Put as put
use Rattle.pdu_values.specs.declared.bodies.Eof as eof_type
use Rattle.pdu_values.specs.declared.bodies.Finished as finished_type
use Rattle.pdu_values.specs.declared.bodies.Ack as ack_type
use Rattle.pdu_values.specs.declared.bodies.Metadata as metadata_type
use Rattle.pdu_values.specs.declared.bodies.Nak as nak_type
use Rattle.pdu_values.specs.declared.bodies.Prompt.{Prompt}
use Rattle.pdu_values.specs.declared.bodies.KeepAlive as keep_alive_type
use Rattle.pdu_values.specs.declared.bodies.FileData as file_data_type
use Rattle.pdu_values.specs.declared.requests.SegmentRequest.{SegmentRequest}
use Rattle.pdu_values.specs.declared.pdu.Header.{Header}
use Rattle.pdu_values.specs.declared.pdu.Body.{Body}
use Rattle.pdu_values.specs.declared.pdu.Body.TheVariants as bodies
use Rattle.pdu_values.specs.Numbers.{digits}
use Rattle.pdu_values.specs.Tlvs.{message_tlv}
use Rattle.pdu_values.specs.Spelling.{size_octets, lv, tlv, request, RequestFits, data_field, plain_choice, Fits, IsName, IsMessage, IsLocation, EofFits, FinishedFits, AckFits, MetadataFits, NakFits, KeepAliveFits, FileDataFits, HeaderFits, file_data_limit, requests_limit}
use Rattle.pdu_values.proofs.WidthLaws.{location_short}

-- what fits four octets fits with the large file flag and without it
pub either : (large : Bool) (n : ℕ) → n < 256 ^ 4 → n < 256 ^ size_octets large
either false n fits = fits
either true n fits = omega (arith, fits)

-- the data field of a body in the one spelling
abbrev field_of : Bool → Header → Body → List ℕ
field_of large header b = data_field (size_octets large) (plain_choice (record { header = header; body = b })) b

eof_short : (large : Bool) (header : Header) (e : eof_type.Eof) → HeaderFits header → IsLocation e.location → length (field_of large header (bodies.Eof e)) < 2 ^ 16
unfolding digits
eof_short false header e h fits = omega (arith, location_short header.entity_octets e.location h.entity_octets fits)
eof_short true header e h fits = omega (arith, location_short header.entity_octets e.location h.entity_octets fits)

pub eof_fits : (header : Header) (e : eof_type.Eof) → HeaderFits header → EofFits (size_octets header.large) e → Fits (record { header = header; body = bodies.Eof e })
eof_fits header e h fits = record {
  header = h;
  body = fits;
  data_field = eof_short header.large header e h fits.location;
}

pub finished_fits : (header : Header) (f : finished_type.Finished) → HeaderFits header → FinishedFits f → Fits (record { header = header; body = bodies.Finished f })
unfolding digits
finished_fits header f h fits = record {
  header = h;
  body = fits;
  data_field = omega (arith, location_short header.entity_octets f.location h.entity_octets fits.location);
}

pub ack_fits : (header : Header) (a : ack_type.Ack) → HeaderFits header → AckFits a → Fits (record { header = header; body = bodies.Ack a })
unfolding digits
ack_fits header a h fits = record {
  header = h;
  body = fits;
  data_field = omega arith;
}

-- the octets of messages to the user in their TLVs
abbrev pub messages_octets : List (List ℕ) → ℕ
messages_octets [] = 0
messages_octets (message ∷ messages) = 2 + length message + messages_octets messages

length-messages : (messages : List (List ℕ)) → length (flat_map tlv (map message_tlv messages)) ≡ messages_octets messages
unfolding digits
length-messages [] = refl
length-messages (message ∷ messages) = omega (arith, length-append message (flat_map tlv (map message_tlv messages)), length-messages messages)

metadata_short : (large : Bool) (header : Header) (m : metadata_type.Metadata) → IsName m.source_name → IsName m.destination_name → messages_octets m.messages ≤ 65013
    → length (field_of large header (bodies.Metadata m)) < 2 ^ 16
unfolding digits
metadata_short false header m source destination short =
    let text : List ℕ = flat_map tlv (map message_tlv m.messages) in
    omega (arith, length-append m.source_name (lv m.destination_name ++ text), length-append m.destination_name text, length-messages m.messages, source.most, destination.most, short)
metadata_short true header m source destination short =
    let text : List ℕ = flat_map tlv (map message_tlv m.messages) in
    omega (arith, length-append m.source_name (lv m.destination_name ++ text), length-append m.destination_name text, length-messages m.messages, source.most, destination.most, short)

pub metadata_fits : (header : Header) (m : metadata_type.Metadata) → HeaderFits header → MetadataFits (size_octets header.large) m → messages_octets m.messages ≤ 65013 → Fits (record { header = header; body = bodies.Metadata m })
metadata_fits header m h fits short = record {
  header = h;
  body = fits;
  data_field = metadata_short header.large header m fits.source_name fits.destination_name short;
}

-- names and messages as a Put holds them fit
name_fits : (name : List ℕ) → put.IsName name → IsName name
name_fits name is = record { least = is.least; most = omega (arith, is.most) }

messages_fit : (messages : List (List ℕ)) → All (λ message. length message ≤ MESSAGE_OCTETS) messages → AllByRecursion IsMessage messages
messages_fit [] all = tt
messages_fit (message ∷ messages) all =
    (omega (arith, all 0 [] (omega arith)), messages_fit messages (All-tail (λ (m : List ℕ). length m ≤ MESSAGE_OCTETS) message messages all))

messages_short : (messages : List (List ℕ)) → All (λ message. length message ≤ MESSAGE_OCTETS) messages → messages_octets messages ≤ (2 + MESSAGE_OCTETS) * length messages
messages_short [] all = omega arith
messages_short (message ∷ messages) all =
    omega (arith, all 0 [] (omega arith), messages_short messages (All-tail (λ (m : List ℕ). length m ≤ MESSAGE_OCTETS) message messages all))

pub put_metadata_fits : (header : Header) (m : metadata_type.Metadata) → HeaderFits header → m.checksum_type < 16 → m.size < 2 ^ 32
    → put.IsName m.source_name → put.IsName m.destination_name → put.AreMessages m.messages → Fits (record { header = header; body = bodies.Metadata m })
put_metadata_fits header m h checksum_type size source destination messages =
    metadata_fits header m h (record {
      checksum_type = checksum_type;
      size = either header.large m.size (omega (arith, size));
      source_name = name_fits m.source_name source;
      destination_name = name_fits m.destination_name destination;
      messages = messages_fit m.messages messages.octets;
    }) (omega (arith, messages_short m.messages messages.octets, messages.count))

length-request : (large : Bool) (r : SegmentRequest) (rest : List ℕ) → length (request (size_octets large) r ++ rest) ≡ 2 * size_octets large + length rest
unfolding digits
length-request false r rest = omega arith
length-request true r rest = omega arith

pub length-requests : (large : Bool) (requests : List SegmentRequest) → length (flat_map (request (size_octets large)) requests) ≡ 2 * size_octets large * length requests
length-requests large [] = omega arith
length-requests large (r ∷ requests) =
    omega (arith, length-request large r (flat_map (request (size_octets large)) requests), length-requests large requests)

nak_short : (large : Bool) (header : Header) (n : nak_type.Nak) → length n.requests ≤ requests_limit → length (field_of large header (bodies.Nak n)) < 2 ^ 16
unfolding digits
nak_short false header n short = omega (arith, length-requests false n.requests, short)
nak_short true header n short = omega (arith, length-requests true n.requests, short)

pub nak_fits : (header : Header) (n : nak_type.Nak) → HeaderFits header → NakFits (size_octets header.large) n → length n.requests ≤ requests_limit → Fits (record { header = header; body = bodies.Nak n })
nak_fits header n h fits short = record {
  header = h;
  body = fits;
  data_field = nak_short header.large header n short;
}

requests_either : (large : Bool) (requests : List SegmentRequest) → AllByRecursion (RequestFits 4) requests → AllByRecursion (RequestFits (size_octets large)) requests
requests_either large [] fits = tt
requests_either large (r ∷ requests) fits =
    (record { start = either large r.start fits.0.start; end = either large r.end fits.0.end }, requests_either large requests fits.1)

-- a NAK that fits without the large file flag fits with either
pub short_nak_fits : (header : Header) (n : nak_type.Nak) → HeaderFits header → NakFits 4 n → length n.requests ≤ requests_limit → Fits (record { header = header; body = bodies.Nak n })
short_nak_fits header n h fits short = nak_fits header n h (record {
  start = either header.large n.start fits.start;
  end = either header.large n.end fits.end;
  requests = requests_either header.large n.requests fits.requests;
}) short

pub prompt_fits : (header : Header) (p : Prompt) → HeaderFits header → Fits (record { header = header; body = bodies.Prompt p })
unfolding digits
prompt_fits header p h = record {
  header = h;
  body = tt;
  data_field = omega arith;
}

keep_alive_short : (large : Bool) (header : Header) (k : keep_alive_type.KeepAlive) → length (field_of large header (bodies.KeepAlive k)) < 2 ^ 16
unfolding digits
keep_alive_short false header k = omega arith
keep_alive_short true header k = omega arith

pub keep_alive_fits : (header : Header) (k : keep_alive_type.KeepAlive) → HeaderFits header → KeepAliveFits (size_octets header.large) k → Fits (record { header = header; body = bodies.KeepAlive k })
keep_alive_fits header k h fits = record { header = h; body = fits; data_field = keep_alive_short header.large header k }

file_data_short : (large : Bool) (header : Header) (f : file_data_type.FileData) → length f.octets ≤ file_data_limit → length (field_of large header (bodies.FileData f)) < 2 ^ 16
unfolding digits
file_data_short false header f short = omega (arith, short)
file_data_short true header f short = omega (arith, short)

pub file_data_fits : (header : Header) (f : file_data_type.FileData) → HeaderFits header → FileDataFits (size_octets header.large) f → length f.octets ≤ file_data_limit → Fits (record { header = header; body = bodies.FileData f })
file_data_fits header f h fits short = record { header = h; body = fits; data_field = file_data_short header.large header f short }
