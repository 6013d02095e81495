use Rattle.std.proofs.Common.{◌≡◌, ◌++◌}
use Rattle.std.specs.Prelude.{flat_map}
use Rattle.ctl_views.specs.Shown.{shown}
use Rattle.ctl_views.proofs.shown.Shown.push_visible.Given as goal

-- what stands for the characters so far is added
abbrev pub invariant-loop-letter : goal.invariant-loop-letter
invariant-loop-letter l = l.self ≡ l.initial.self ++ flat_map shown l.yielded
