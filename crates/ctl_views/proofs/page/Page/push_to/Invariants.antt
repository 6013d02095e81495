use Rattle.std.proofs.Common.{◌≡◌, ◌++◌, take, flat_map}
use Rattle.ctl_views.specs.Pages.{piece_octets}
use Rattle.ctl_views.proofs.page.Page.push_to.Given as goal

-- the pieces so far are added
abbrev pub invariant-loop-piece : goal.invariant-loop-piece
invariant-loop-piece l = l.octets.items ≡ l.initial.octets.items ++ flat_map (piece_octets l.is_coloured) (take l.piece-index l.piece-items)
