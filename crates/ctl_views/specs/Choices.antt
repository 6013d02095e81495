-- Meaning. Which lines of a status are shown.
use Rattle.std.specs.Prelude.{◌==◌, ◌&&◌, ◌||◌, ℕ, Bool, true, false, not, Option, Some, None}
use Rattle.ctl_views.specs.declared.ends.End.{End}
use Rattle.ctl_views.specs.declared.choosing.Topic.{Topic}
use Rattle.ctl_views.specs.declared.choosing.Topic.TheVariants as topics
use Rattle.ctl_views.specs.History.{is_lost}

-- a line is about the entity itself
abbrev pub is_server : Topic → Bool
is_server topics.Server = true
is_server (topics.Ended end) = false
is_server topics.Going = false
is_server topics.Other = false

-- a line is about a transaction that failed
abbrev pub is_failed : Topic → Bool
is_failed topics.Server = false
is_failed (topics.Ended end) = is_lost end
is_failed topics.Going = false
is_failed topics.Other = false

-- a line is about no remote entity, or about the asked one, if one is asked
abbrev pub is_of_remote : Option ℕ → Option ℕ → Bool
is_of_remote None peer = true
is_of_remote (Some remote) None = true
is_of_remote (Some remote) (Some peer) = remote == peer

-- a line is shown
abbrev pub is_shown : Option ℕ → Bool → Topic → Option ℕ → Bool
is_shown remote only_failed topic peer =
    is_server topic || (is_of_remote remote peer && (not only_failed || is_failed topic))
