use Rattle.std.proofs.Common.{◌≡◌, take}
use Rattle.indications.proofs.indication.Indications.copy.Given as goal

abbrev pub invariant-loop-indication : goal.invariant-loop-indication
invariant-loop-indication l = l.items.items ≡ take l.indication-index l.told
