use Rattle.script_laws.proofs.ScriptFacts.{plays_what_can_be}
use Rattle.script_laws.proofs.laws.histories.Goals as goal

pub returns : goal.returns
returns c = plays_what_can_be
