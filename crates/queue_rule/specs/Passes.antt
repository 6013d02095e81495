-- Of the code. The passes of a queue that belong to an outlet or to the port.
use Rattle.std.specs.Prelude.{◌≡◌}
use Rattle.crossbeam_queue.specs.Passes.{Pass, view, IsPassOf, IsSamePass, ruled_capacity}
use Rattle.crossbeam_queue.specs.declared.array_queue.Slotted.{Slotted}
use Rattle.crossbeam_queue.specs.declared.array_queue.Doing.{Doing}
use Rattle.std.specs.Prelude.{Option}
use Rattle.indications.specs.declared.bundle.Bundle.{Bundle}
use Rattle.queue_rule.specs.declared.view.View.{View}
use Rattle.queue_rule.specs.declared.view.View.TheVariants.{Port, Outlet}
use Rattle.queue_rule.specs.Views.{outlet_in, port_in}

module _ {Q A : Type 0} where
  -- the pass is a lane's outlet of the queue
  pub record IsOutletOf (queue : Slotted (Option Bundle) (Doing Bundle View) Q A) (pass : Pass Bundle View) : Type 0 where
    pub of_queue : IsPassOf queue pass
    pub outlet : view pass ≡ Outlet (outlet_in (view pass))
    pub room : (outlet_in (view pass)).room ≡ ruled_capacity queue

  -- the pass is the port of the queue
  pub record IsPortOf (queue : Slotted (Option Bundle) (Doing Bundle View) Q A) (pass : Pass Bundle View) : Type 0 where
    pub of_queue : IsPassOf queue pass
    pub port : view pass ≡ Port (port_in (view pass))
    pub room : (port_in (view pass)).room ≡ ruled_capacity queue

  -- the pass still is a lane's outlet of the queue
  pub record StaysOutlet (queue : Slotted (Option Bundle) (Doing Bundle View) Q A) (old new : Pass Bundle View) : Type 0 where
    pub outlet : IsOutletOf queue new
    pub same : IsSamePass old new

  -- the pass still is the port of the queue
  pub record StaysPort (queue : Slotted (Option Bundle) (Doing Bundle View) Q A) (old new : Pass Bundle View) : Type 0 where
    pub port : IsPortOf queue new
    pub same : IsSamePass old new
