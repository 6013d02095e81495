use Rattle.world_laws.proofs.RouteHomes.{routes_home}
use Rattle.world_laws.proofs.laws.routes.Goals as goal

pub returns : goal.returns
returns c = routes_home
