-- Meaning. Which transactions of a log are listed, and the sums over them.
use Rattle.std.specs.Prelude.{◌+◌, ◌*◌, ◌/◌, ◌==◌, ◌&&◌, ◌||◌, ℕ, Bool, true, false, not, min, nat_le, max, Option, Some, None, if◌then◌else◌}
use Rattle.ctl_views.specs.declared.ends.End.{End}
use Rattle.ctl_views.specs.declared.ends.End.TheVariants as ends
use Rattle.ctl_views.specs.declared.sums.Sum.{Sum}

-- the greatest number of 64 bits, at which a sum stays
abbrev pub most : ℕ
most = 18446744073709551615

-- a moment isn't before the asked one, if one is asked
abbrev pub is_since : Option ℕ → Option ℕ → Bool
is_since None at = true
is_since (Some since) None = false
is_since (Some since) (Some at) = nat_le since at

-- an entity is the asked one, if one is asked
abbrev pub is_remote : Option ℕ → Option ℕ → Bool
is_remote None peer = true
is_remote (Some remote) None = false
is_remote (Some remote) (Some peer) = remote == peer

-- a file is neither kept nor sent completely without a report
abbrev pub is_lost : End → Bool
is_lost ends.Kept = false
is_lost ends.Unreported = false
is_lost ends.Lost = true

-- a transaction is listed: since a moment, with an entity, and only if it failed
abbrev pub is_listed : Option ℕ → Option ℕ → Bool → Option ℕ → Option ℕ → End → Bool
is_listed since remote only_failed at peer end =
    is_since since at && (is_remote remote peer && (not only_failed || is_lost end))

-- the octets that count: those of a file that isn't lost
abbrev pub octets_of : End → ℕ → ℕ
octets_of ends.Kept octets = octets
octets_of ends.Unreported octets = octets
octets_of ends.Lost octets = 0

-- one if a file is lost, and else nothing
abbrev pub lost_of : End → ℕ
lost_of ends.Kept = 0
lost_of ends.Unreported = 0
lost_of ends.Lost = 1

-- the sums with one more transaction
abbrev pub with_end : End → ℕ → Sum → Sum
with_end end octets sum = record {
  ended = min (sum.ended + 1) most;
  lost = min (sum.lost + lost_of end) most;
  octets = min (sum.octets + octets_of end octets) most;
}
