use Rattle.std.proofs.Common.{◌≡◌, ◌+◌, ◌-◌, ◌≤◌, drop, length}
use Rattle.program_parking.specs.Lanes.{costs, fitting}
use Rattle.program_parking.proofs.lane.fit.Given as goal

abbrev pub invariant-loop-place : goal.invariant-loop-place
invariant-loop-place l = record {
  room : l.left ≤ l.limit;
  count : length (fitting l.limit l.waiting.items) ≡ l.place + length (fitting l.left (drop l.place l.waiting.items));
  octets : costs (fitting l.limit l.waiting.items) ≡ l.limit - l.left + costs (fitting l.left (drop l.place l.waiting.items));
}
