-- Meaning. The ends of a queue that was just opened.
use Rattle.std.specs.Prelude.{◌≡◌, ℕ, zero, suc, List, [], ◌∷◌, ◌++◌, Option, None}
use Rattle.atomic_table.specs.Seated.{TableId}
use Rattle.indications.specs.declared.bundle.Bundle.{Bundle}
use Rattle.queue_rule.specs.declared.view.PortView.{PortView}
use Rattle.queue_rule.specs.Views.{with_lane, next_outlet}
use Rattle.user_queues.specs.Shared.{OutletEnd, PortEnd}

-- nothing is known yet of this many lanes
abbrev pub unknown : ℕ → List (Option (List Bundle))
unknown zero = []
unknown (suc lanes) = unknown lanes ++ None ∷ []

-- the port of a user with this many lanes, from which nothing was taken
abbrev pub fresh_port : ℕ → ℕ → ℕ → PortView
fresh_port user lanes room = record { user = user; room = room; taken = []; known = unknown lanes }

-- the outlet of a lane that has sent nothing yet
abbrev pub fresh_outlet : TableId → ℕ → ℕ → ℕ → OutletEnd
fresh_outlet queue user room lane =
    record { queue = queue; knows = record { user = user; room = room; lane = lane; sent = [] } }

-- the outlets of this many lanes, in order
abbrev pub fresh_outlets : TableId → ℕ → ℕ → ℕ → List OutletEnd
fresh_outlets queue user room zero = []
fresh_outlets queue user room (suc lanes) = fresh_outlets queue user room lanes ++ fresh_outlet queue user room lanes ∷ []

-- a user's new queue, with an outlet for each lane, and nothing sent yet
pub record IsOpenedFor (user lanes room : ℕ) (port : PortEnd) (outlets : List OutletEnd) : Type 0 where
  pub of_port : port.knows ≡ fresh_port user lanes room
  pub of_lanes : outlets ≡ fresh_outlets port.queue user room lanes

-- the port's user has one more lane, whose outlet is of the same queue
pub record IsNextLane (old new : PortEnd) (outlet : OutletEnd) : Type 0 where
  pub of_port : new ≡ record { queue = old.queue; knows = with_lane old.knows }
  pub of_lane : outlet ≡ record { queue = old.queue; knows = next_outlet old.knows }
