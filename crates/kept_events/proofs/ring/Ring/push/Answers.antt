use Rattle.std.proofs.Common.{rules, ◌≡◌, ◌∙◌, ap, ◌<◌, ◌+◌, ◌^◌, ◌≤◌, List, length, arith}
use Rattle.std.specs.VecDeque.{deque_capacity}
use Rattle.kept_events.specs.KeptLines.{LineValue}
use Rattle.kept_events.specs.Rings.{octets_of, trimmed}
use Rattle.kept_events.proofs.RingFacts.{few_octets, has_room, octets_behind}
use Rattle.kept_events.proofs.ring.Ring.push.Goals as goal

pub push_back_reserved-requires : goal.push_back_reserved-requires
push_back_reserved-requires c =
    let left : length c.make_room-octets.new.lines.items ≡ length (trimmed (c.weight-more.result) c.self.inside.lines.items) =
    ap (λ (l : List LineValue). length l) c.make_room-octets.ensures.lines in
    omega (arith, (has_room (c.weight-more.result) c.self.inside.lines.items).0, left, c.make_room-octets.new.lines.ok.0, c.make_room-octets.ensures.capacity, c.self.invariant.1)

pub invariant_of-self : goal.invariant_of-self
invariant_of-self c =
    let small : c.weight-more.result < 2 ^ 64 = search rules in
    let text : c.weight-more.result ≡ c.args.line.weight = search rules in
    let few = few_octets (c.weight-more.result) c.self.inside.lines.items small in
    let left : octets_of c.make_room-octets.new.lines.items ≡ octets_of (trimmed (c.weight-more.result) c.self.inside.lines.items) = ap octets_of c.make_room-octets.ensures.lines in
    let sum : octets_of c.push_back_reserved.new.self.items ≡ octets_of c.make_room-octets.new.lines.items + c.args.line.weight =
    ap octets_of c.push_back_reserved.ensures.items ∙ octets_behind c.make_room-octets.new.lines.items c.args.line in
    let room : 1024 ≤ deque_capacity c.push_back_reserved.new.self = search rules in
    (omega (arith, c.saturating_add-self-inside.ensures, c.make_room-octets.ensures.octets, sum, text, few, left), room)
