use Rattle.std.proofs.Common.{◌≡◌, ◌++◌, None, drop}
use Rattle.ctl_windows.specs.Clashes.{clashes_of}
use Rattle.ctl_windows.proofs.overlaps.clashes.Given as goal

-- those found so far, and those of the windows that are left
abbrev pub invariant-loop-window : goal.invariant-loop-window
invariant-loop-window l = clashes_of None l.windows ≡ l.found.items ++ clashes_of l.last (drop l.window-index l.windows)
