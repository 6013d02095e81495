-- Meaning. Links that are open for a time.
use Rattle.std.specs.Prelude.{ℕ, ◌+◌, ◌*◌, ◌^◌, ◌-◌, ◌==◌, Bool, not, nat_le, min, List, [], ◌∷◌, ◌++◌, Option}
use Rattle.std.specs.List.{filter}
use Rattle.std.specs.Option.{option_map}
use Rattle.cfdp_types.specs.declared.key.EntityId.{EntityId}
use Rattle.program_outbox.specs.declared.windows.Window.{Window}
use Rattle.program_outbox.specs.Outboxes.{at_place}

-- a window is that of the remote entity with a number; it is another's
abbrev pub is_of : ℕ → Window → Bool
is_of remote window = window.remote.0 == remote

abbrev pub is_of_other : ℕ → Window → Bool
is_of_other remote window = not (is_of remote window)

-- the moment some seconds later, in milliseconds, at most the greatest number of 64 bits
abbrev pub end_of : ℕ → ℕ → ℕ
end_of now seconds = min (now + min (seconds * 1000) (2 ^ 64 - 1)) (2 ^ 64 - 1)

-- a link is open until a moment, whatever was said of it before
abbrev pub opened : EntityId → ℕ → List Window → List Window
opened remote until windows = filter (is_of_other remote.0) windows ++ record { remote = remote; until = until } ∷ []

-- a window is over at a moment
abbrev pub has_end : ℕ → Window → Bool
has_end now window = nat_le window.until now

-- the end of the window at a place, and whose it is
abbrev pub until_at : Option ℕ → List Window → Option ℕ
until_at place windows = option_map (λ window. window.until) (at_place place windows)

abbrev pub remote_at : Option ℕ → List Window → Option EntityId
remote_at place windows = option_map (λ window. window.remote) (at_place place windows)

-- a moment, or the end of a window if that comes before it
abbrev pub earlier : ℕ → Window → ℕ
earlier moment window = min moment window.until
