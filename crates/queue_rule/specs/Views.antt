-- Of the code. How the knowledge about a queue changes.
use Rattle.std.specs.Prelude.{◌≡◌, ℕ, ◌<◌, List, [], ◌∷◌, ◌++◌, length, All, Some, None, get_or, set}
use Rattle.cfdp_types.specs.declared.key.EntityId.{EntityId}
use Rattle.indications.specs.declared.bundle.Bundle.{Bundle}
use Rattle.indications.specs.LaneLists.{of_lane, IsLaneList}
use Rattle.queue_rule.specs.declared.view.OutletView.{OutletView}
use Rattle.queue_rule.specs.declared.view.PortView.{PortView}
use Rattle.queue_rule.specs.declared.view.View.{View}
use Rattle.queue_rule.specs.declared.view.View.TheVariants.{Port, Outlet, Spent}

-- the lane has sent one more bundle
abbrev pub with_sent : OutletView → Bundle → OutletView
with_sent outlet bundle = record outlet { sent = outlet.sent ++ bundle ∷ [] }

-- the user has taken one more bundle
abbrev pub with_taken : PortView → Bundle → PortView
with_taken port bundle = record port { taken = port.taken ++ bundle ∷ [] }

-- one more lane has an outlet
abbrev pub with_lane : PortView → PortView
with_lane port = record port { known = port.known ++ None ∷ [] }

-- the lane's outlet was given back, so that all that the lane sent is known
abbrev pub with_known : PortView → OutletView → PortView
with_known port outlet = record port { known = set port.known outlet.lane (Some outlet.sent) }

-- the port of a user that has taken nothing and has no lanes yet
abbrev pub new_port : ℕ → ℕ → PortView
new_port user room = record { user = user; room = room; taken = []; known = [] }

-- the outlet of the next lane, which has sent nothing yet
abbrev pub next_outlet : PortView → OutletView
next_outlet port = record { user = port.user; room = port.room; lane = length port.known; sent = [] }

-- what an outlet knows once its bundle is in the queue
abbrev pub pushed : View → Bundle → View
pushed (Outlet outlet) bundle = Outlet (with_sent outlet bundle)
pushed view bundle = view

-- what a port knows once the bundle is taken
abbrev pub popped : View → Bundle → View
popped (Port port) bundle = Port (with_taken port bundle)
popped view bundle = view

-- what the port knows once the next lane has an outlet, and what that outlet knows
abbrev pub split_port : View → View
split_port (Port port) = Port (with_lane port)
split_port view = view

abbrev pub split_outlet : View → View
split_outlet (Port port) = Outlet (next_outlet port)
split_outlet view = Spent

-- what the port knows once an outlet was given back
abbrev pub joined : View → View → View
joined (Port port) (Outlet outlet) = Port (with_known port outlet)
joined view other = view

-- what a lane of some source sends
abbrev pub IsSomeLaneList : ℕ → ℕ → List Bundle → Type 0
IsSomeLaneList user lane bundles = (source : EntityId) × IsLaneList user lane source bundles

-- the bundle is of the outlet's lane, and may follow what the lane has sent
pub record MaySend (outlet : OutletView) (bundle : Bundle) : Type 0 where
  pub of_lane : bundle.lane ≡ outlet.lane
  pub goes_on : IsSomeLaneList outlet.user outlet.lane (outlet.sent ++ bundle ∷ [])

-- what was taken of each lane is a lane list
abbrev pub IsTakenInOrder : PortView → Type 0
IsTakenInOrder port = (lane : ℕ) → IsSomeLaneList port.user lane (of_lane lane port.taken)

-- all that was taken is of lanes that were given an outlet
abbrev pub IsTakenOfLanes : PortView → Type 0
IsTakenOfLanes port = All (λ (bundle : Bundle). bundle.lane < length port.known) port.taken

-- where all that a lane sent is known, it is what was taken of the lane and then these bundles
abbrev pub IsWholeWith : PortView → List Bundle → Type 0
IsWholeWith port items =
    (lane : ℕ) (bundles : List Bundle) → get_or port.known lane None ≡ Some bundles
    → of_lane lane (port.taken ++ items) ≡ bundles

-- what was taken is in order, and of lanes that were given an outlet
abbrev pub IsOrderly : View → Type 0
IsOrderly (Port port) = IsTakenInOrder port × IsTakenOfLanes port
IsOrderly view = Unit {0}

-- what a step teaches about the bundles in the queue
abbrev pub IsLearned : View → List Bundle → Type 0
IsLearned (Port port) items = IsOrderly (Port port) × IsWholeWith port items
IsLearned view items = Unit {0}

-- what an outlet knows
abbrev pub outlet_in : View → OutletView
outlet_in (Outlet outlet) = outlet
outlet_in view = record { user = 0; room = 0; lane = 0; sent = [] }

-- what a port knows
abbrev pub port_in : View → PortView
port_in (Port port) = port
port_in view = new_port 0 0
