-- Meaning. What is done to a link at a moment, and when to look again.
use Rattle.std.specs.Prelude.{ℕ, ◌+◌, ◌*◌, ◌-◌, ◌/◌, ◌^◌, ◌==◌, ◌&&◌, ◌||◌, Bool, false, not, min, nat_le, nat_lt, if◌then◌else◌, List, Option, Some, None, position, slice_get}
use Rattle.std.specs.List.{fold}
use Rattle.ctl_windows.specs.declared.acts.Act.{Act}
use Rattle.ctl_windows.specs.declared.acts.Act.TheVariants as acts
use Rattle.ctl_windows.specs.declared.acts.Given.{Given}
use Rattle.ctl_windows.specs.declared.acts.Given.TheVariants as givens
use Rattle.ctl_windows.specs.declared.window.Window.{Window}

-- how many milliseconds before the end of an opening a longer window is opened anew: half a day
abbrev pub margin : ℕ
margin = 43200000

-- a window has begun and isn't over
abbrev pub is_open : ℕ → Window → Bool
is_open now window = nat_le window.from now && nat_lt now window.until

-- the window at a place
abbrev pub at_place : Option ℕ → List Window → Option Window
at_place None windows = None
at_place (Some place) windows = slice_get windows place

-- the window that is open at a moment; the first of several
abbrev pub window_at : ℕ → List Window → Option Window
window_at now windows = at_place (position (is_open now) windows) windows

-- for how many seconds a link is opened: until its window ends, rounded up, and a day at most
abbrev pub seconds_left : Window → ℕ → ℕ
seconds_left window now = if nat_lt 86400000 (window.until - now) then 86400 else ((window.until - now) + 999) / 1000

-- a link was opened for this window, and stays open until it ends or for more than half a day
abbrev pub is_enough : Window → Given → ℕ → Bool
is_enough window givens.Nothing now = false
is_enough window givens.Held now = false
is_enough window (givens.Open opening) now =
    (opening.from == window.from) && (nat_le window.until opening.until || nat_lt margin (opening.until - now))

-- what is to be done to a link outside its windows: it is held if nothing is known of it
abbrev pub act_outside : Given → Act
act_outside givens.Nothing = acts.Hold
act_outside givens.Held = acts.Nothing
act_outside (givens.Open opening) = acts.Nothing

-- what is to be done to a link, by its open window and what was done last
abbrev pub act_at : Option Window → Given → ℕ → Act
act_at None given now = act_outside given
act_at (Some window) given now =
    if is_enough window given now then acts.Nothing else acts.Open window.rate (seconds_left window now)

-- a link that is opened for a window at a moment
abbrev pub opened : Window → ℕ → Given
opened window now = givens.Open (record { from = window.from; until = min (now + seconds_left window now * 1000) (2 ^ 64 - 1) })

abbrev pub given_outside : Given → Given
given_outside givens.Nothing = givens.Held
given_outside givens.Held = givens.Held
given_outside (givens.Open opening) = givens.Open opening

-- what was done last, once that is done
abbrev pub given_after : Option Window → Given → ℕ → Given
given_after None given now = given_outside given
given_after (Some window) given now = if is_enough window given now then given else opened window now

-- the earlier of two moments, if the second is still to come
abbrev pub sooner : Option ℕ → ℕ → ℕ → Option ℕ
sooner None moment now = if nat_le moment now then None else Some moment
sooner (Some next) moment now = if nat_le moment now then Some next else Some (min next moment)

-- when a link has to be opened anew, if that is still to come
abbrev pub renewal : Given → ℕ → Option ℕ
renewal givens.Nothing now = None
renewal givens.Held now = None
renewal (givens.Open opening) now = sooner None (opening.until - margin) now

-- the next moment at which a window begins or ends, or a link has to be opened anew
abbrev pub look_again : List Window → Given → ℕ → Option ℕ
look_again windows given now =
    fold (λ next window. sooner (sooner next window.from now) window.until now) (renewal given now) windows

-- a window is over
abbrev pub is_past : ℕ → Window → Bool
is_past now window = nat_le window.until now

-- a window is one of an entity's, and isn't over
abbrev pub is_left_of : ℕ → ℕ → Window → Bool
is_left_of remote now window = (window.remote == remote) && not (is_past now window)
