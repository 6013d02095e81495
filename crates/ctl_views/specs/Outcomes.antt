-- Meaning. What became of a command, by the first line of its answer, and the exit status for it.
use Rattle.std.specs.Prelude.{◌≡◌, ◌≢◌, ℕ, List, take, codes}
use Rattle.ctl_views.specs.declared.outcomes.Outcome.{Outcome}
use Rattle.ctl_views.specs.declared.outcomes.Outcome.TheVariants as outcomes

-- a line reports that a command was refused
abbrev pub SaysRefused : List ℕ → Type 0
SaysRefused line = take 8 line ≡ codes "refused "

-- the first line of the answer for each outcome
abbrev pub IsOutcome : Outcome → List ℕ → Type 0
IsOutcome outcomes.BadCommand line = line ≡ codes "bad command"
IsOutcome outcomes.ReadFault line = line ≡ codes "read fault"
IsOutcome outcomes.NumbersFault line = line ≡ codes "numbers fault"
IsOutcome outcomes.OutboxFault line = line ≡ codes "outbox fault"
IsOutcome outcomes.Refused line = SaysRefused line
IsOutcome outcomes.Taken line =
    (line ≢ codes "bad command") × (line ≢ codes "read fault") × (line ≢ codes "numbers fault") × (line ≢ codes "outbox fault") × ¬ SaysRefused line

-- 0 if a command was taken, and else 3
abbrev pub exit_status : Outcome → ℕ
exit_status outcomes.Taken = 0
exit_status outcomes.Refused = 3
exit_status outcomes.BadCommand = 3
exit_status outcomes.ReadFault = 3
exit_status outcomes.NumbersFault = 3
exit_status outcomes.OutboxFault = 3
