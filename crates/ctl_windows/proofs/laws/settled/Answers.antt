use Rattle.ctl_windows.proofs.Settling.{settles}
use Rattle.ctl_windows.proofs.laws.settled.Goals as goal

pub returns : goal.returns
returns c = settles
