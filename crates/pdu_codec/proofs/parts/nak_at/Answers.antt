use Rattle.std.proofs.Common.{refl, sym}
use Rattle.pdu_reading.specs.Reading.{nak_at, request_at}
use Rattle.pdu_codec.proofs.ItemLaws.{all_read}
use Rattle.pdu_codec.proofs.FieldLaws.{request_shortens}
use Rattle.pdu_codec.proofs.parts.nak_at.Goals as goal

pub returns : goal.returns
unfolding nak_at
returns c =
    let width = c.size_octets-width.result in
    let start = rw (c.from.ensures, c.size_octets-width.ensures.value) at c.in_ok-start.ensures.value in
    let end = rw (c.from-2.ensures, c.size_octets-width.ensures.value) at c.in_ok-end.ensures.value in
    let requests = rw c.size_octets-width.ensures.value at (all_read (request_at width) (request_shortens width c.size_octets-width.ensures.least) c.in_ok-end.requests.now (sym c.if-not-are_requests.ensures)) in
    rw (start, end, requests) refl
