use Rattle.world_table.proofs.EventFacts.{keeps_events_apart}
use Rattle.world_table.proofs.laws.events.Goals as goal

pub returns : goal.returns
returns c = keeps_events_apart
