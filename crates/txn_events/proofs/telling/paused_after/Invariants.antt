use Rattle.std.proofs.Common.{◌≡◌, drop}
use Rattle.indications.specs.Words.{paused_after}
use Rattle.txn_events.proofs.telling.paused_after.Given as goal

abbrev pub invariant-loop-indication : goal.invariant-loop-indication
invariant-loop-indication l = paused_after l.now (drop l.indication-index l.inds) ≡ paused_after l.paused l.inds
