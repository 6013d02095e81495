use Rattle.ends_schedules.proofs.ScheduleFacts.{deposits_are_the_put, images_are_the_put}
use Rattle.ends_schedules.proofs.laws.two_ends.Goals as goal

pub returns-clause-deposits : goal.returns-clause-deposits
returns-clause-deposits c = deposits_are_the_put

pub returns-clause-images : goal.returns-clause-images
returns-clause-images c = images_are_the_put
