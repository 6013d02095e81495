use Rattle.world_table.proofs.LogFacts.{gives_images}
use Rattle.world_table.proofs.laws.images.Goals as goal

pub returns : goal.returns
returns c = gives_images
