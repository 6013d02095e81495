-- Meaning. Windows of one entity that overlap, in a list in the order of entities and beginnings.
use Rattle.std.specs.Prelude.{◌==◌, ◌&&◌, Bool, nat_lt, if◌then◌else◌, List, [], ◌∷◌, ◌++◌, Option, Some, None}
use Rattle.std.specs.Option.{option_to_list}
use Rattle.ctl_windows.specs.declared.overlaps.Clash.{Clash}
use Rattle.ctl_windows.specs.declared.window.Window.{Window}

-- a window begins before another one of its entity has ended
abbrev pub has_clash : Window → Window → Bool
has_clash last window = (last.remote == window.remote) && nat_lt window.from last.until

abbrev pub clash_of : Option Window → Window → Option Clash
clash_of None window = None
clash_of (Some last) window = if has_clash last window then Some (record { window = window; line = last.line }) else None

-- of the windows of one entity so far the one that ends last
abbrev pub later : Option Window → Window → Option Window
later None window = Some window
later (Some last) window =
    if (last.remote == window.remote) && nat_lt window.until last.until then Some last else Some window

-- the windows that begin before an earlier one has ended, after one that ends last of those before
abbrev pub clashes_of : Option Window → List Window → List Clash
clashes_of last [] = []
clashes_of last (window ∷ windows) = option_to_list (clash_of last window) ++ clashes_of (later last window) windows
