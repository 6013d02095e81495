-- Of the code. The rule of a shared queue: for each lane, what was taken and then what is held is what the lane sent.
use Rattle.std.specs.Prelude.{◌≡◌, ℕ, ◌<◌, ◌≤◌, List, [], ◌++◌, length, Option, Some, None, IsSome, get_or}
use mathlib.Core.Option.{some}
use lib.ListN.{get_elem?}
use Rattle.indications.specs.declared.bundle.Bundle.{Bundle}
use Rattle.indications.specs.LaneLists.{of_lane}
use Rattle.queue_rule.specs.declared.view.OutletView.{OutletView}
use Rattle.queue_rule.specs.declared.view.PortView.{PortView}
use Rattle.queue_rule.specs.declared.view.View.{View}
use Rattle.queue_rule.specs.declared.view.View.TheVariants.{Origin, Port, Outlet, Spent}
use Rattle.queue_rule.specs.Views.{IsSomeLaneList}

-- the whole, of which each holder knows a part: whose queue it is and its room for bundles, the port's pass, how many
-- lanes were given an outlet, the pass of each lane's outlet, what each lane sent, and what was taken
pub record Whole : Type 0 where
  pub user : ℕ
  pub room : ℕ
  pub reader : ℕ
  pub lanes : ℕ
  pub seat : ℕ → Option ℕ
  pub sent : ℕ → List Bundle
  pub taken : List Bundle

-- the one port knows what was taken, and for each lane that was given an outlet what it sent, or that its outlet is out
pub record PortFits (whole : Whole) (pass : ℕ) (port : PortView) : Type 0 where
  pub reads : pass ≡ whole.reader
  pub of_user : port.user ≡ whole.user
  pub has_room : port.room ≡ whole.room
  pub took : port.taken ≡ whole.taken
  pub split : length port.known ≡ whole.lanes
  pub knows : (lane : ℕ) (bundles : List Bundle) → get_or port.known lane None ≡ Some bundles
      → (whole.seat lane ≡ None) × (whole.sent lane ≡ bundles)
  pub out : (lane : ℕ) → lane < whole.lanes → get_or port.known lane None ≡ None → IsSome (whole.seat lane)

-- the one outlet of a lane knows all that the lane sent
pub record OutletFits (whole : Whole) (pass : ℕ) (outlet : OutletView) : Type 0 where
  pub sits : whole.seat outlet.lane ≡ Some pass
  pub of_user : outlet.user ≡ whole.user
  pub has_room : outlet.room ≡ whole.room
  pub all : outlet.sent ≡ whole.sent outlet.lane

-- what a pass knows is true
abbrev pub Fits : Whole → ℕ → View → Type 0
Fits whole pass Origin = (pass ≡ whole.reader) × (whole.lanes ≡ 0)
Fits whole pass (Port port) = PortFits whole pass port
Fits whole pass (Outlet outlet) = OutletFits whole pass outlet
Fits whole pass Spent = Unit {0}

-- the pass is an outlet of this lane
abbrev pub IsSeated : List View → ℕ → ℕ → Type 0
IsSeated views pass lane = (outlet : OutletView) × (get_elem? views pass ≡ some (Outlet outlet)) × (outlet.lane ≡ lane)

-- the queue holds these bundles, and its holders have these views
pub record IsFairOf (whole : Whole) (items : List Bundle) (views : List View) : Type 0 where
  pub within : length items ≤ whole.room
  pub parts : (lane : ℕ) → of_lane lane (whole.taken ++ items) ≡ whole.sent lane
  pub lists : (lane : ℕ) → IsSomeLaneList whole.user lane (whole.sent lane)
  pub beyond : (lane : ℕ) → whole.lanes ≤ lane → (whole.seat lane ≡ None) × (whole.sent lane ≡ [])
  pub seated : (lane pass : ℕ) → whole.seat lane ≡ Some pass → IsSeated views pass lane
  pub fits : (pass : ℕ) (view : View) → get_elem? views pass ≡ some view → Fits whole pass view

-- the rule: there is such a whole
abbrev pub IsFair : List Bundle → List View → Type 0
IsFair items views = (whole : Whole) × IsFairOf whole items views
