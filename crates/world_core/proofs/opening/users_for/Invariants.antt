use Rattle.std.proofs.Common.{[]}
use Rattle.world_core.specs.Standing.{IsPostAfter}
use Rattle.world_core.specs.Opening.{layout_of, AreMade}
use Rattle.world_core.proofs.opening.users_for.Given as goal

-- the users so far stand where nothing has happened
abbrev pub invariant-loop-user : goal.invariant-loop-user
invariant-loop-user l = AreMade (λ place part. IsPostAfter (layout_of l.config) [] place part) l.parts.items l.user
