-- Worked rows: what calls somebody, and what is critical.
use Rattle.std.proofs.Common.{◌≡◌, ◌∷◌, [], true, false, Bool, ℕ, map, refl}
use Rattle.ctl_check.specs.declared.health.Health.{Health}
use Rattle.ctl_check.specs.declared.health.Verdict.TheVariants.{Good, Warning, Critical}
use Rattle.ctl_check.specs.Verdicts.{check_status, verdict_of}

abbrev of : ℕ → ℕ → ℕ → ℕ → Bool → Health
of held failed unstored to_send failing =
    record { held = held; failed = failed; unstored = unstored; to_send = to_send; is_log_failing = failing }

nothing : map verdict_of (of 0 0 0 0 false ∷ of 0 0 0 1023 false ∷ []) ≡ Good ∷ Good ∷ []
nothing = refl

each_alone : map verdict_of (of 1 0 0 0 false ∷ of 0 1 0 0 false ∷ of 0 0 1 0 false ∷ of 0 0 0 0 true ∷ [])
    ≡ Warning ∷ Warning ∷ Warning ∷ Warning ∷ []
each_alone = refl

full : map verdict_of (of 0 0 0 1024 false ∷ of 1 1 1 1024 true ∷ []) ≡ Critical ∷ Critical ∷ []
full = refl

statuses : map check_status (Good ∷ Warning ∷ Critical ∷ []) ≡ 0 ∷ 1 ∷ 2 ∷ []
statuses = refl
