use Rattle.ctl_windows.proofs.Looks.{quiet_until}
use Rattle.ctl_windows.proofs.laws.quiet.Goals as goal

pub returns : goal.returns
returns c = quiet_until
