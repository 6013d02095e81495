-- Meaning. Which paths a Unix socket can have.
use Rattle.std.specs.Prelude.{ℕ, Bool, not, ◌&&◌, ◌==◌, nat_lt, nat_le, List, length}
use Rattle.std.specs.List.{list_any}

-- a path can be an address if it isn't empty, has no zero octet, and isn't too long
abbrev pub is_address : List ℕ → Bool
is_address path = nat_lt 0 (length path) && (nat_le (length path) 107 && not (list_any (λ octet. octet == 0) path))
