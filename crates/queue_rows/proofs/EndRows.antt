-- Worked ends of queues that threads share: of which lanes all is known, and a queue that was just opened.
use Rattle.std.proofs.Common.{◌≡◌, ℕ, true, false, List, [], ◌∷◌, length, Option, Some, None, refl, ap, arith}
use Rattle.std.specs.List.{list_all}
use Rattle.atomic_table.specs.Seated.{TableId}
use Rattle.crossbeam_queue.specs.Passes.{Pass, view}
use Rattle.indications.specs.declared.bundle.Bundle.{Bundle}
use Rattle.queue_rule.specs.declared.view.PortView.{PortView}
use Rattle.queue_rule.specs.declared.view.View.{View}
use Rattle.queue_rule.specs.declared.view.View.TheVariants.{Port, Outlet}
use Rattle.queue_rule.specs.Views.{outlet_in, port_in}
use Rattle.user_queues.specs.Shared.{OutletEnd, PortEnd, outlet_end, port_end, is_admitted, admitted_in}
use Rattle.user_queues.specs.Opened.{unknown, fresh_port, fresh_outlet, fresh_outlets, IsOpenedFor, IsNextLane}
use Rattle.queue_rows.proofs.ViewRows.{one, outlet, port}

-- ---- ends

ends_queue : (pass : Pass Bundle View) → view pass ≡ Outlet (outlet 0 (one ∷ []))
    → outlet_end pass ≡ record { queue = pass.table_id; knows = outlet 0 (one ∷ []) }
ends_queue pass is = ap (λ (v : View). record { queue = pass.table_id; knows = outlet_in v }) is

ports_queue : (pass : Pass Bundle View) → view pass ≡ Port (port (one ∷ []) (None ∷ []))
    → port_end pass ≡ record { queue = pass.table_id; knows = port (one ∷ []) (None ∷ []) }
ports_queue pass is = ap (λ (v : View). record { queue = pass.table_id; knows = port_in v }) is

-- ---- which lanes have given their outlets back

given_back : is_admitted (Some (one ∷ [])) ≡ true
given_back = refl

-- also one that sent nothing
silent_given_back : is_admitted (Some []) ≡ true
silent_given_back = refl

still_out : is_admitted None ≡ false
still_out = refl

in_their_places : admitted_in (port [] (None ∷ Some (one ∷ []) ∷ None ∷ [])) ≡ false ∷ true ∷ false ∷ []
in_their_places = refl

-- whether all have
all_back : list_all is_admitted (Some (one ∷ []) ∷ Some [] ∷ []) ≡ true
all_back = refl

one_still_out : list_all is_admitted (Some (one ∷ []) ∷ None ∷ []) ≡ false
one_still_out = refl

no_lanes : list_all is_admitted [] ≡ true
no_lanes = refl

-- ---- a queue that was just opened

nothing_known : unknown 3 ≡ None ∷ None ∷ None ∷ []
nothing_known = refl

port_of_two : fresh_port 0 2 2 ≡ port [] (None ∷ None ∷ [])
port_of_two = refl

module _ (queue : TableId) where
  abbrev end_of : ℕ → OutletEnd
  end_of lane = record { queue = queue; knows = outlet lane [] }

  abbrev port_of : List (Option (List Bundle)) → PortEnd
  port_of known = record { queue = queue; knows = port [] known }

  one_outlet : fresh_outlet queue 0 2 1 ≡ end_of 1
  one_outlet = refl

  lanes_in_order : fresh_outlets queue 0 2 3 ≡ end_of 0 ∷ end_of 1 ∷ end_of 2 ∷ []
  lanes_in_order = refl

  opened : IsOpenedFor 0 2 2 (port_of (None ∷ None ∷ [])) (end_of 0 ∷ end_of 1 ∷ [])
  opened = record { of_port = refl; of_lanes = refl }

  -- the lane of the outlet at the front
  abbrev front_lane : List OutletEnd → ℕ
  front_lane [] = 0
  front_lane (first ∷ rest) = first.knows.lane

  not_turned : IsOpenedFor 0 2 2 (port_of (None ∷ None ∷ [])) (end_of 1 ∷ end_of 0 ∷ []) → ⊥
  not_turned is = let lane : 1 ≡ 0 = ap front_lane is.of_lanes in omega (arith, lane)

  not_without_outlet : IsOpenedFor 0 2 2 (port_of (None ∷ None ∷ [])) (end_of 0 ∷ []) → ⊥
  not_without_outlet is = let count : 1 ≡ 2 = ap length is.of_lanes in omega (arith, count)

  not_with_one_more : IsOpenedFor 0 1 2 (port_of (None ∷ [])) (end_of 0 ∷ end_of 1 ∷ []) → ⊥
  not_with_one_more is = let count : 2 ≡ 1 = ap length is.of_lanes in omega (arith, count)

  not_with_unknown_lane : IsOpenedFor 0 2 2 (port_of (None ∷ [])) (end_of 0 ∷ end_of 1 ∷ []) → ⊥
  not_with_unknown_lane is =
      let count : 1 ≡ 2 = ap (λ (p : PortView). length p.known) is.of_port in omega (arith, count)

  not_given_back : IsOpenedFor 0 1 2 (port_of (Some [] ∷ [])) (end_of 0 ∷ []) → ⊥
  not_given_back is = back_or_out (ap (λ (p : PortView). list_all is_admitted p.known) is.of_port)
    where
      back_or_out : true ≡ false → ⊥
      back_or_out e = cc

  not_of_bob : IsOpenedFor 1 1 2 (port_of (None ∷ [])) (end_of 0 ∷ []) → ⊥
  not_of_bob is = let user : 0 ≡ 1 = ap (λ (p : PortView). p.user) is.of_port in omega (arith, user)

  not_with_more_room : IsOpenedFor 0 1 3 (port_of (None ∷ [])) (end_of 0 ∷ []) → ⊥
  not_with_more_room is = let room : 2 ≡ 3 = ap (λ (p : PortView). p.room) is.of_port in omega (arith, room)

  not_after_a_take : IsOpenedFor 0 1 2 (record { queue = queue; knows = port (one ∷ []) (None ∷ []) }) (end_of 0 ∷ []) → ⊥
  not_after_a_take is = let count : 1 ≡ 0 = ap (λ (p : PortView). length p.taken) is.of_port in omega (arith, count)

  abbrev sent_first : List OutletEnd → ℕ
  sent_first [] = 0
  sent_first (first ∷ rest) = length first.knows.sent

  not_after_an_offer : IsOpenedFor 0 1 2 (port_of (None ∷ [])) (record { queue = queue; knows = outlet 0 (one ∷ []) } ∷ []) → ⊥
  not_after_an_offer is = let count : 1 ≡ 0 = ap sent_first is.of_lanes in omega (arith, count)

  -- an outlet of another queue
  abbrev queue_of_first : List OutletEnd → TableId
  queue_of_first [] = queue
  queue_of_first (first ∷ rest) = first.queue

  not_of_another : (other : TableId) → (other ≡ queue → ⊥)
      → IsOpenedFor 0 1 2 (port_of (None ∷ [])) (record { queue = other; knows = outlet 0 [] } ∷ []) → ⊥
  not_of_another other apart is = apart (ap queue_of_first is.of_lanes)

  -- ---- one lane more

  next_lane : IsNextLane (port_of (None ∷ [])) (port_of (None ∷ None ∷ [])) (end_of 1)
  next_lane = record { of_port = refl; of_lane = refl }

  not_the_same_lane : IsNextLane (port_of (None ∷ [])) (port_of (None ∷ None ∷ [])) (end_of 0) → ⊥
  not_the_same_lane is = let lane : 0 ≡ 1 = ap (λ (o : OutletEnd). o.knows.lane) is.of_lane in omega (arith, lane)

  not_unknown : IsNextLane (port_of (None ∷ [])) (port_of (None ∷ [])) (end_of 1) → ⊥
  not_unknown is = let count : 1 ≡ 2 = ap (λ (p : PortEnd). length p.knows.known) is.of_port in omega (arith, count)

  not_off_another : (other : TableId) → (other ≡ queue → ⊥)
      → IsNextLane (port_of (None ∷ [])) (port_of (None ∷ None ∷ [])) (record { queue = other; knows = outlet 1 [] }) → ⊥
  not_off_another other apart is = apart (ap (λ (o : OutletEnd). o.queue) is.of_lane)
