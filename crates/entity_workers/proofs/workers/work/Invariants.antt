use Rattle.entity_workers.specs.Carrying.{AcceptsAnswers}
use Rattle.entity_workers.proofs.workers.work.Given as goal

abbrev pub invariant-loop : goal.invariant-loop
invariant-loop g l = AcceptsAnswers g.N.Names.queue (g.G.Gate.gives l.gate) l.entity (g.C.Carrier.accepts l.carrier)
