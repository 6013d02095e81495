-- Meaning. When the timers of a step expire.
use Rattle.std.specs.Prelude.{ℕ, ◌+◌, min, List, [], ◌∷◌}
use Rattle.cfdp_types.specs.declared.timer_op.TimerOp.{TimerOp}
use Rattle.cfdp_types.specs.declared.timer_op.TimerOp.TheVariants as op

-- the greatest moment of 64 bits
abbrev pub last_moment : ℕ
last_moment = 18446744073709551615

-- the sooner of a moment and the one at which an operation's timer expires
abbrev pub soonest_with : ℕ → TimerOp → ℕ → ℕ
soonest_with at (op.Arm key kind stamp ms) other = min other (min (at + ms) last_moment)
soonest_with at (op.Disarm key kind stamp) other = other

-- the first moment at which a timer that one of these operations arms expires
abbrev pub soonest_of : ℕ → List TimerOp → ℕ
soonest_of at [] = last_moment
soonest_of at (operation ∷ rest) = soonest_with at operation (soonest_of at rest)
