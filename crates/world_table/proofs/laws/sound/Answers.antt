use Rattle.world_table.proofs.LogFacts.{logs_are_legal}
use Rattle.world_table.proofs.laws.sound.Goals as goal

pub returns : goal.returns
returns c = logs_are_legal
