-- Meaning. When nothing is to be done to a link by a contact plan.
use Rattle.std.specs.Prelude.{◌≡◌, ℕ, ◌<◌, ◌≤◌, ◌^◌, ◌+◌, List, Option, Some, None}
use Rattle.ctl_windows.specs.Acts.{act_at, given_after, look_again, window_at}
use Rattle.ctl_windows.specs.declared.acts.Act.TheVariants as acts
use Rattle.ctl_windows.specs.declared.acts.Given.{Given}
use Rattle.ctl_windows.specs.declared.window.Window.{Window}

-- a moment is before another one, if there is another one
abbrev pub IsBefore : ℕ → Option ℕ → Type 0
IsBefore moment None = Unit {0}
IsBefore moment (Some next) = moment < next

-- nothing is to be done to a link with these windows, by what was done last
abbrev pub IsIdle : List Window → Given → ℕ → Type 0
IsIdle windows given moment = act_at (window_at moment windows) given moment ≡ acts.Nothing

-- where nothing is to be done now, nothing is to be done before the next look
abbrev pub IsQuiet : Type 0
IsQuiet = (windows : List Window) (given : Given) (now moment : ℕ) → IsIdle windows given now → now ≤ moment
    → IsBefore moment (look_again windows given now) → IsIdle windows given moment

-- a window ends at a moment of 64 bits, and so does each opening of a day from now
abbrev pub IsNear : ℕ → Option Window → Type 0
IsNear now None = Unit {0}
IsNear now (Some window) = (window.until < 2 ^ 64) × (now + 86400000 < 2 ^ 64)

-- once it was done what is to be done, nothing more is to be done at the same moment
abbrev pub IsSettled : Type 0
IsSettled = (current : Option Window) (given : Given) (now : ℕ) → IsNear now current
    → act_at current (given_after current given now) now ≡ acts.Nothing
