use Rattle.ends_schedules.proofs.ScheduleFacts.{begins_as_schedule}
use Rattle.ends_schedules.proofs.laws.beginnings.Goals as goal

pub returns : goal.returns
returns c = begins_as_schedule
