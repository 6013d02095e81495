use Rattle.std.proofs.Common.{◌≡◌}
use Rattle.benches.proofs.queues.shared.offer.Given as goal

abbrev pub invariant-loop : goal.invariant-loop
invariant-loop g l = (l.outlet ≡ l.initial.outlet) × (l.bundle ≡ l.initial.bundle)
