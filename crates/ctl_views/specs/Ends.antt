-- Meaning. How a file ended, by the condition, the delivery and the status that a sender is notified of.
use Rattle.std.specs.Prelude.{◌≡◌, ◌≢◌, ℕ, List, codes}
use Rattle.ctl_views.specs.declared.ends.End.{End}
use Rattle.ctl_views.specs.declared.ends.End.TheVariants as ends

-- the receiver reports that it keeps the whole file
abbrev pub SaysKept : List ℕ → List ℕ → Type 0
SaysKept delivery status = (delivery ≡ codes "complete") × (status ≡ codes "retained")

-- the reports for each end
abbrev pub IsEnd : ℕ → List ℕ → List ℕ → End → Type 0
IsEnd condition delivery status ends.Kept = (condition ≡ 0) × SaysKept delivery status
IsEnd condition delivery status ends.Unreported = (condition ≡ 0) × (status ≡ codes "unreported")
IsEnd condition delivery status ends.Lost = (condition ≡ 0) → (status ≢ codes "unreported") × ¬ SaysKept delivery status
