use Rattle.std.proofs.Common.{◌≡◌, length}
use Rattle.std.specs.VecDeque.{deque_capacity}
use Rattle.kept_events.specs.Rings.{octets_of, trimmed}
use Rattle.kept_events.proofs.ring.make_room.Given as goal

abbrev pub invariant-full : goal.invariant-full
invariant-full l = record {
  left : trimmed l.more l.lines.items ≡ trimmed l.more l.fn.lines.items;
  octets : l.octets ≡ octets_of l.lines.items;
  capacity : deque_capacity l.lines ≡ deque_capacity l.fn.lines;
}

abbrev pub decreases-full : goal.decreases-full
decreases-full l = length l.lines.items
