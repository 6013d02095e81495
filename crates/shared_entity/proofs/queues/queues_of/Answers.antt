use Rattle.std.proofs.Common.{◌≡◌, ℕ, List, length, Some, IfOk, sym, ap, ◌∙◌, subst}
use Rattle.std.specs.Prelude.{slice_get}
use Rattle.entity_routing.specs.Places.{lanes_of}
use Rattle.config_reading.specs.declared.entity.EntitySettings.{EntitySettings}
use Rattle.user_queues.specs.declared.queues.Queues.{Queues}
use Rattle.user_queues.specs.declared.queues.UserQueue.{UserQueue}
use Rattle.shared_entity.proofs.QueueFacts.{opened_as_counted, both_opened}
use Rattle.shared_entity.proofs.queues.queues_of.Goals as goal

pub returns : goal.returns
returns g c =
    both_opened c.args.config.now c.open.result
    (subst (λ (n : ℕ). IfOk c.open.result (λ (queues : Queues g.row.R.Denot). queues.users.len ≡ n))
    (ap length c.as_slice.ensures.value ∙ sym c.in_ok-lanes.lanes.ok.0 ∙ c.in_ok-lanes.ensures.users) c.open.ensures.users)
    (opened_as_counted c.open.result (λ (queues : Queues g.row.R.Denot). queues.users.len) (λ (queues : Queues g.row.R.Denot). queues.users.items)
    (λ (ends : UserQueue g.row.R.Denot). ends.port) (λ (ends : UserQueue g.row.R.Denot). ends.outlets.items) (λ (queues : Queues g.row.R.Denot). queues.users.ok.0)
    c.as_slice.result.now (lanes_of c.args.config.now) c.args.config.now.entity.capacity c.entity.result.capacity
    (ap (λ (entity : EntitySettings). entity.capacity) c.entity.ensures.entity)
    (subst (λ (l : List ℕ). (k count : ℕ) → slice_get l k ≡ Some count → count ≡ lanes_of c.args.config.now k) (sym c.as_slice.ensures.value) c.in_ok-lanes.ensures.counts)
    c.open.ensures.users c.open.ensures.opened)
