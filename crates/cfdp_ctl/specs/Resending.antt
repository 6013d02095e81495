-- Meaning. Whether the file of a transaction is sent again.
use Rattle.std.specs.Prelude.{ℕ, Bool, ◌&&◌, ◌==◌, Option, Some, None, if◌then◌else◌, nat_le}
use Rattle.cfdp_ctl.specs.declared.resending.Sight.{Sight}
use Rattle.cfdp_ctl.specs.declared.resending.Standing.{Standing}
use Rattle.cfdp_ctl.specs.declared.resending.Standing.TheVariants as standings
use Rattle.cfdp_ctl.specs.declared.resending.Verdict.{Verdict}
use Rattle.cfdp_ctl.specs.declared.resending.Verdict.TheVariants as verdicts

-- a file has its size, and wasn't written since it was read
abbrev pub is_unchanged : Sight → Sight → Bool
is_unchanged read now = (read.size == now.size) && nat_le now.at read.at

-- a file that was read is sent again if it is there and unchanged
abbrev pub by_sight : Sight → Option Sight → Verdict
by_sight read None = verdicts.Gone
by_sight read (Some now) = if is_unchanged read now then verdicts.Send else verdicts.Changed

abbrev pub by_put : Option Sight → Option Sight → Verdict
by_put None now = verdicts.Unknown
by_put (Some read) now = by_sight read now

-- only a transaction that sent a file, and is over, is sent again
abbrev pub verdict_of : Standing → Option Sight → Option Sight → Verdict
verdict_of standings.Going read now = verdicts.Going
verdict_of standings.Received read now = verdicts.Received
verdict_of standings.Over read now = by_put read now
