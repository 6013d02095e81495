use Rattle.std.proofs.Common.{◌≡◌, ◌+◌, ◌≤◌, All, vec_len, vec_capacity}
use Rattle.entity_workers.specs.Carrying.{AcceptsAnswers}
use Rattle.entity_workers.proofs.workers.fn.run_workers_from.scope.Given as goal

abbrev pub invariant-loop-carrier : goal.invariant-loop-carrier
invariant-loop-carrier g l = record {
  accepted : All (λ c. AcceptsAnswers g.N.Names.queue (g.G.Gate.gives l.gate) l.entity (g.C.Carrier.accepts c)) l.carriers.items;
  count : vec_len l.threads + vec_len l.carriers ≡ l.count;
  room : l.count ≤ vec_capacity l.threads;
}

abbrev pub decreases-loop-carrier : goal.decreases-loop-carrier
decreases-loop-carrier g l = vec_len l.carriers

abbrev pub invariant-loop-thread : goal.invariant-loop-thread
invariant-loop-thread g l = record {
  count : vec_len l.back + vec_len l.threads ≤ l.count;
  room : l.count ≤ vec_capacity l.back;
}

abbrev pub decreases-loop-thread : goal.decreases-loop-thread
decreases-loop-thread g l = vec_len l.threads
