-- Meaning. Whether somebody has to look at a station, and the exit status that says so.
use Rattle.std.specs.Prelude.{◌||◌, ℕ, Bool, if◌then◌else◌, nat_le, nat_lt}
use Rattle.ctl_check.specs.declared.health.Health.{Health}
use Rattle.ctl_check.specs.declared.health.Verdict.{Verdict}
use Rattle.ctl_check.specs.declared.health.Verdict.TheVariants as verdicts

-- how many files an outbox has room for
abbrev pub outbox_files : ℕ
outbox_files = 1024

-- something waits for somebody: a link, a transaction, a received file or the log
abbrev pub needs_somebody : Health → Bool
needs_somebody health = (nat_lt 0 health.held || nat_lt 0 health.failed) || (nat_lt 0 health.unstored || health.is_log_failing)

abbrev pub verdict_of : Health → Verdict
verdict_of health = if nat_le outbox_files health.to_send then verdicts.Critical
    else if needs_somebody health then verdicts.Warning
    else verdicts.Good

abbrev pub check_status : Verdict → ℕ
check_status verdicts.Good = 0
check_status verdicts.Warning = 1
check_status verdicts.Critical = 2
