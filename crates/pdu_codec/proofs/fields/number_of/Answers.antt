use Rattle.std.proofs.Common.{◌+◌, ◌*◌, length, get_or, drop, arith}
use Rattle.pdu_values.proofs.Numbers.{IsOctets, IsOctets-at_each, number_goes_on, number_in_range, number_is_read, number_of-below}
use Rattle.pdu_values.specs.Numbers.{number_of}
use Rattle.pdu_codec.proofs.fields.number_of.Goals as goal

pub overflow_mul-number : goal.overflow_mul-number
overflow_mul-number c =
    let octets = c.args.octets.now in
    let i = c.loop-octet.octet-index in
    let more = number_goes_on octets c.loop-octet.number i c.loop-octet-test.true c.loop-octet.invariant in
    let h : IsOctets octets = IsOctets-at_each octets (λ k. omega (arith, c.type_inv.octets k)) in
    omega (arith, number_in_range octets (c.loop-octet.number * 256 + get_or octets i 0) (length (drop (i + 1) octets)) (number_of (drop (i + 1) octets)) h c.requires more)

pub overflow_add-number : goal.overflow_add-number
overflow_add-number c =
    let octets = c.args.octets.now in
    let i = c.loop-octet.octet-index in
    let more = number_goes_on octets c.loop-octet.number i c.loop-octet-test.true c.loop-octet.invariant in
    let h : IsOctets octets = IsOctets-at_each octets (λ k. omega (arith, c.type_inv.octets k)) in
    omega (arith, c.from.ensures, number_in_range octets (c.loop-octet.number * 256 + get_or octets i 0) (length (drop (i + 1) octets)) (number_of (drop (i + 1) octets)) h c.requires more)

pub loop-octet-preserved : goal.loop-octet-preserved
loop-octet-preserved c = rw c.from.ensures (number_goes_on c.args.octets.now c.loop-octet.number c.loop-octet.octet-index c.loop-octet-test.true c.loop-octet.invariant)

pub returns-clause-value : goal.returns-clause-value
returns-clause-value c = number_is_read c.args.octets.now c.loop-octet.number c.loop-octet.octet-index c.loop-octet-test.false c.loop-octet.invariant

pub returns-clause-below : goal.returns-clause-below
returns-clause-below c =
    let octets = c.args.octets.now in
    let h : IsOctets octets = IsOctets-at_each octets (λ k. omega (arith, c.type_inv.octets k)) in
    omega (arith, number_is_read octets c.loop-octet.number c.loop-octet.octet-index c.loop-octet-test.false c.loop-octet.invariant, number_of-below octets h)
