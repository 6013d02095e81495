use Rattle.std.proofs.Common.{◌≡◌, take}
use Rattle.lane_traces.proofs.events.copies_of.Given as goal

-- the copies of so many events
abbrev pub invariant-loop-event : goal.invariant-loop-event
invariant-loop-event l = l.copies.items ≡ take l.event-index l.events
