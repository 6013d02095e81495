-- Worked passes of a queue that threads share: which ones are a lane's outlet, and the port.
use Rattle.std.proofs.Common.{◌≡◌, [], ◌∷◌, None, refl, sym, ap, ◌∙◌, arith}
use Rattle.std.specs.Prelude.{Option}
use Rattle.crossbeam_queue.specs.Passes.{Pass, view, IsPassOf, ruled_capacity}
use Rattle.crossbeam_queue.specs.declared.array_queue.Slotted.{Slotted}
use Rattle.crossbeam_queue.specs.declared.array_queue.Doing.{Doing}
use Rattle.indications.specs.declared.bundle.Bundle.{Bundle}
use Rattle.queue_rule.specs.declared.view.View.{View}
use Rattle.queue_rule.specs.declared.view.View.TheVariants.{Origin, Port, Outlet, Spent}
use Rattle.queue_rule.specs.Views.{outlet_in, port_in}
use Rattle.queue_rule.specs.Passes.{IsOutletOf, IsPortOf, StaysOutlet, StaysPort}
use Rattle.queue_rows.proofs.ViewRows.{one, outlet, port}

module _ {Q A : Type 0} (queue : Slotted (Option Bundle) (Doing Bundle View) Q A) where
  -- a pass of a queue with room for two bundles that knows what an outlet knows
  an_outlet : (pass : Pass Bundle View) → IsPassOf queue pass → ruled_capacity queue ≡ 2 → view pass ≡ Outlet (outlet 0 (one ∷ []))
      → IsOutletOf queue pass
  an_outlet pass of_queue room is = record {
    of_queue = of_queue;
    outlet = is ∙ sym (ap (λ (v : View). Outlet (outlet_in v)) is);
    room = ap (λ (v : View). (outlet_in v).room) is ∙ sym room;
  }

  a_port : (pass : Pass Bundle View) → IsPassOf queue pass → ruled_capacity queue ≡ 2 → view pass ≡ Port (port [] (None ∷ []))
      → IsPortOf queue pass
  a_port pass of_queue room is = record {
    of_queue = of_queue;
    port = is ∙ sym (ap (λ (v : View). Port (port_in v)) is);
    room = ap (λ (v : View). (port_in v).room) is ∙ sym room;
  }

  -- not one that knows what a port knows, nor a spent one
  is_no_outlet : (v : View) → v ≡ Port (port [] (None ∷ [])) → v ≡ Outlet (outlet_in v) → ⊥
  is_no_outlet v is end = absurd cc

  port_is_no_outlet : (pass : Pass Bundle View) → view pass ≡ Port (port [] (None ∷ [])) → IsOutletOf queue pass → ⊥
  port_is_no_outlet pass is end = is_no_outlet (view pass) is end.outlet

  spent_is_none : (v : View) → v ≡ Spent → v ≡ Outlet (outlet_in v) → ⊥
  spent_is_none v is end = absurd cc

  spent_is_no_outlet : (pass : Pass Bundle View) → view pass ≡ Spent → IsOutletOf queue pass → ⊥
  spent_is_no_outlet pass is end = spent_is_none (view pass) is end.outlet

  -- nor is the first pass a port, nor an outlet
  origin_is_none : (v : View) → v ≡ Origin → v ≡ Port (port_in v) → ⊥
  origin_is_none v is end = absurd cc

  origin_is_no_port : (pass : Pass Bundle View) → view pass ≡ Origin → IsPortOf queue pass → ⊥
  origin_is_no_port pass is end = origin_is_none (view pass) is end.port

  outlet_is_none : (v : View) → v ≡ Outlet (outlet 0 []) → v ≡ Port (port_in v) → ⊥
  outlet_is_none v is end = absurd cc

  outlet_is_no_port : (pass : Pass Bundle View) → view pass ≡ Outlet (outlet 0 []) → IsPortOf queue pass → ⊥
  outlet_is_no_port pass is end = outlet_is_none (view pass) is end.port

  -- nor one of a queue with other room, nor one of another queue
  not_with_more_room : (pass : Pass Bundle View) → view pass ≡ Outlet (outlet 0 []) → ruled_capacity queue ≡ 3 → IsOutletOf queue pass → ⊥
  not_with_more_room pass is room end =
      let two : 2 ≡ 3 = sym (ap (λ (v : View). (outlet_in v).room) is) ∙ end.room ∙ room in omega (arith, two)

  port_not_with_more_room : (pass : Pass Bundle View) → view pass ≡ Port (port [] []) → ruled_capacity queue ≡ 3 → IsPortOf queue pass → ⊥
  port_not_with_more_room pass is room end =
      let two : 2 ≡ 3 = sym (ap (λ (v : View). (port_in v).room) is) ∙ end.room ∙ room in omega (arith, two)

  not_of_another : (pass : Pass Bundle View) → (pass.table_id ≡ queue.table.shared.table_id → ⊥) → IsOutletOf queue pass → ⊥
  not_of_another pass other end = other end.of_queue.0

  port_not_of_another : (pass : Pass Bundle View) → (pass.table_id ≡ queue.table.shared.table_id → ⊥) → IsPortOf queue pass → ⊥
  port_not_of_another pass other end = other end.of_queue.0

  -- a step leaves the pass what it was, with its number
  stays_outlet : (pass : Pass Bundle View) → IsOutletOf queue pass → StaysOutlet queue pass pass
  stays_outlet pass is = record { outlet = is; same = (refl, refl, refl) }

  stays_port : (pass : Pass Bundle View) → IsPortOf queue pass → StaysPort queue pass pass
  stays_port pass is = record { port = is; same = (refl, refl, refl) }

  not_another_pass : (old new : Pass Bundle View) → (new.id ≡ old.id → ⊥) → StaysOutlet queue old new → ⊥
  not_another_pass old new other stays = other stays.same.1

  not_another_port : (old new : Pass Bundle View) → (new.id ≡ old.id → ⊥) → StaysPort queue old new → ⊥
  not_another_port old new other stays = other stays.same.1

  not_spent : (old new : Pass Bundle View) → view new ≡ Spent → StaysOutlet queue old new → ⊥
  not_spent old new is stays = spent_is_no_outlet new is stays.outlet
