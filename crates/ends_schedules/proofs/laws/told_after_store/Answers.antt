use Rattle.ends_schedules.proofs.ScheduleFacts.{tells_what_was_stored}
use Rattle.ends_schedules.proofs.laws.told_after_store.Goals as goal

pub returns : goal.returns
returns c = tells_what_was_stored
