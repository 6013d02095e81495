-- Worked views of a queue that threads share: how what is known changes, what may be sent, and what is learned.
use Rattle.std.proofs.Common.{◌≡◌, ℕ, zero, suc, List, [], ◌∷◌, length, Option, Some, None, ◌<◌, refl, sym, ap, ◌∙◌, subst, arith}
use Rattle.std.proofs.lemmas.List.Elements.{All-nil, All-cons, All-head, All-tail}
use Rattle.indications.specs.declared.bundle.Bundle.{Bundle}
use Rattle.indications.specs.LaneLists.{of_lane}
use Rattle.queue_rule.specs.declared.view.OutletView.{OutletView}
use Rattle.queue_rule.specs.declared.view.PortView.{PortView}
use Rattle.queue_rule.specs.declared.view.View.TheVariants.{Origin, Port, Outlet, Spent}
use Rattle.queue_rule.specs.Views.{with_sent, with_taken, with_lane, with_known, new_port, next_outlet, pushed, popped, split_port, split_outlet, joined, MaySend, IsTakenInOrder, IsTakenOfLanes, IsWholeWith, IsLearned, IsOrderly, outlet_in, port_in, IsSomeLaneList}
use Rattle.queue_rows.proofs.Samples.{bundle, source, sends_nothing, sends_one, sends_two, not_falling, of_lower}

-- two bundles of one lane, and one of another
abbrev pub one : Bundle
one = bundle 0 4

abbrev pub two : Bundle
two = bundle 0 6

abbrev pub beside : Bundle
beside = bundle 1 5

-- an outlet of a lane of alice's, and her port, at a queue with room for two bundles
abbrev pub outlet : ℕ → List Bundle → OutletView
outlet lane sent = record { user = 0; room = 2; lane = lane; sent = sent }

abbrev pub port : List Bundle → List (Option (List Bundle)) → PortView
port taken known = record { user = 0; room = 2; taken = taken; known = known }

-- ---- how what is known changes

one_sent : with_sent (outlet 0 (one ∷ [])) two ≡ outlet 0 (one ∷ two ∷ [])
one_sent = refl

one_taken : with_taken (port (one ∷ []) (None ∷ [])) beside ≡ port (one ∷ beside ∷ []) (None ∷ [])
one_taken = refl

new_user : new_port 0 2 ≡ port [] []
new_user = refl

-- lanes come one after the other
second_lane : with_lane (port (one ∷ []) (None ∷ [])) ≡ port (one ∷ []) (None ∷ None ∷ [])
second_lane = refl

outlet_of_second_lane : next_outlet (port (one ∷ []) (None ∷ [])) ≡ outlet 1 []
outlet_of_second_lane = refl

-- the place of a lane whose outlet is given back keeps all that it sent, and no other changes
given_back : with_known (port [] (None ∷ None ∷ [])) (outlet 1 (beside ∷ [])) ≡ port [] (None ∷ Some (beside ∷ []) ∷ [])
given_back = refl

not_there : with_known (port [] (None ∷ [])) (outlet 1 (beside ∷ [])) ≡ port [] (None ∷ [])
not_there = refl

-- only outlets send, only ports take
pushed_by_outlet : pushed (Outlet (outlet 0 [])) one ≡ Outlet (outlet 0 (one ∷ []))
pushed_by_outlet = refl

not_pushed_by_port : pushed (Port (port [] [])) one ≡ Port (port [] [])
not_pushed_by_port = refl

popped_by_port : popped (Port (port [] (None ∷ []))) one ≡ Port (port (one ∷ []) (None ∷ []))
popped_by_port = refl

not_popped_by_outlet : popped (Outlet (outlet 0 [])) one ≡ Outlet (outlet 0 [])
not_popped_by_outlet = refl

-- and only ports make outlets, and have them back
split_here : split_port (Port (port [] [])) ≡ Port (port [] (None ∷ []))
split_here = refl

split_off : split_outlet (Port (port [] [])) ≡ Outlet (outlet 0 [])
split_off = refl

origin_makes_none : split_outlet Origin ≡ Spent
origin_makes_none = refl

outlet_makes_none : split_outlet (Outlet (outlet 0 [])) ≡ Spent
outlet_makes_none = refl

outlet_stays : split_port (Outlet (outlet 0 [])) ≡ Outlet (outlet 0 [])
outlet_stays = refl

joined_at_port : joined (Port (port [] (None ∷ []))) (Outlet (outlet 0 (one ∷ []))) ≡ Port (port [] (Some (one ∷ []) ∷ []))
joined_at_port = refl

not_joined_spent : joined (Port (port [] (None ∷ []))) Spent ≡ Port (port [] (None ∷ []))
not_joined_spent = refl

not_joined_at_outlet : joined (Outlet (outlet 0 [])) (Outlet (outlet 1 [])) ≡ Outlet (outlet 0 [])
not_joined_at_outlet = refl

-- what an end knows
in_an_outlet : outlet_in (Outlet (outlet 1 (beside ∷ []))) ≡ outlet 1 (beside ∷ [])
in_an_outlet = refl

in_a_port : port_in (Port (port (one ∷ []) (None ∷ []))) ≡ port (one ∷ []) (None ∷ [])
in_a_port = refl

no_outlet : outlet_in (Port (port (one ∷ []) (None ∷ []))) ≡ record { user = 0; room = 0; lane = 0; sent = [] }
no_outlet = refl

no_port : port_in (Outlet (outlet 0 (one ∷ []))) ≡ new_port 0 0
no_port = refl

-- ---- what may be sent

first_may : MaySend (outlet 0 []) one
first_may = record { of_lane = refl; goes_on = (source, sends_one 0 4) }

second_may : MaySend (outlet 0 (one ∷ [])) two
second_may = record { of_lane = refl; goes_on = (source, sends_two 0 4 6 (omega arith) refl ((refl, tt, tt), refl)) }

not_of_another_lane : MaySend (outlet 0 (one ∷ [])) beside → ⊥
not_of_another_lane may = let lane = may.of_lane in omega (arith, lane)

-- nor a lower number behind a higher one
not_an_older : MaySend (outlet 0 (two ∷ [])) one → ⊥
not_an_older may = not_falling 0 4 6 (omega arith) may.goes_on

-- ---- what was taken is in order

nothing_taken : IsTakenInOrder (port [] (None ∷ []))
nothing_taken = sends_nothing

-- of each lane: what another sent in between has any number
in_order : IsTakenInOrder (port (two ∷ beside ∷ []) (None ∷ None ∷ []))
in_order zero = (source, sends_one 0 6)
in_order (suc zero) = (source, sends_one 1 5)
in_order (suc (suc lane)) =
    subst (IsSomeLaneList 0 (suc (suc lane))) (sym (nothing_else lane)) (sends_nothing (suc (suc lane)))
  where
    nothing_else : (lane : ℕ) → of_lane (suc (suc lane)) (two ∷ beside ∷ []) ≡ []
    nothing_else lane =
        of_lower (suc (suc lane)) (two ∷ []) beside (omega arith) ∙ of_lower (suc (suc lane)) [] two (omega arith)

not_in_order : IsTakenInOrder (port (two ∷ beside ∷ one ∷ []) (None ∷ None ∷ [])) → ⊥
not_in_order taken = not_falling 0 4 6 (omega arith) (taken 0)

not_another_users : IsTakenInOrder (record (port (one ∷ []) (None ∷ [])) { user = 1 }) → ⊥
not_another_users taken =
    let user : 0 ≡ 1 = All-head (λ (b : Bundle). b.user ≡ 1) one [] (taken 0).1.users in omega (arith, user)

-- ---- what was taken is of lanes that ever had an outlet

abbrev IsBelow : ℕ → Bundle → Type 0
IsBelow lanes bundle = bundle.lane < lanes

nothing_of_no_lanes : IsTakenOfLanes (port [] [])
nothing_of_no_lanes = All-nil (IsBelow 0)

-- whether it is out, or was given back
of_both_lanes : IsTakenOfLanes (port (two ∷ beside ∷ []) (None ∷ Some (beside ∷ []) ∷ []))
of_both_lanes =
    All-cons (IsBelow 2) two (beside ∷ []) (omega arith) (All-cons (IsBelow 2) beside [] (omega arith) (All-nil (IsBelow 2)))

not_of_next_lane : IsTakenOfLanes (port (one ∷ beside ∷ []) (None ∷ [])) → ⊥
not_of_next_lane taken =
    let lane : 1 < 1 = All-head (IsBelow 1) beside [] (All-tail (IsBelow 1) one (beside ∷ []) taken) in omega (arith, lane)

not_of_no_lane : IsTakenOfLanes (port (one ∷ []) []) → ⊥
not_of_no_lane taken = let lane : 0 < 0 = All-head (IsBelow 0) one [] taken in omega (arith, lane)

-- ---- what was sent and is known was taken, or is held

pub some_list : {A : Type 0} {x y : A} → Some x ≡ Some y → x ≡ y
some_list e = cc

nothing_known : IsWholeWith (port [] (None ∷ [])) (one ∷ [])
nothing_known zero bundles is = absurd cc
nothing_known (suc lane) bundles is = absurd cc

known_and_held : IsWholeWith (port (one ∷ []) (Some (one ∷ two ∷ []) ∷ [])) (two ∷ beside ∷ [])
known_and_held zero bundles is = some_list is
known_and_held (suc lane) bundles is = absurd cc

not_yet_taken : IsWholeWith (port (one ∷ []) (Some (one ∷ two ∷ []) ∷ [])) [] → ⊥
not_yet_taken whole =
    let count : 1 ≡ 2 = ap length (whole 0 (one ∷ two ∷ []) refl) in omega (arith, count)

-- nor may more come of such a lane
not_more : IsWholeWith (port (one ∷ []) (Some (one ∷ []) ∷ [])) (two ∷ []) → ⊥
not_more whole =
    let count : 2 ≡ 1 = ap length (whole 0 (one ∷ []) refl) in omega (arith, count)

-- the lane of the known list is the one at its place
not_at_another_place : IsWholeWith (port (one ∷ []) (None ∷ Some (one ∷ []) ∷ [])) [] → ⊥
not_at_another_place whole =
    let count : 0 ≡ 1 = ap length (whole 1 (one ∷ []) refl) in omega (arith, count)

-- ---- a port learns all of it, and the others nothing

port_learns : IsLearned (Port (port (one ∷ []) (Some (one ∷ []) ∷ []))) [] → IsWholeWith (port (one ∷ []) (Some (one ∷ []) ∷ [])) []
port_learns learned = learned.1

port_learns_order : IsLearned (Port (port (two ∷ one ∷ []) [])) [] → ⊥
port_learns_order learned = not_falling 0 4 6 (omega arith) (learned.0.0 0)

port_learns_lanes : IsLearned (Port (port (one ∷ []) [])) [] → ⊥
port_learns_lanes learned = not_of_no_lane learned.0.1

all_learned : IsLearned (Port (port (two ∷ beside ∷ []) (None ∷ Some (beside ∷ []) ∷ []))) []
all_learned = ((in_order, of_both_lanes), whole)
  where
    whole : IsWholeWith (port (two ∷ beside ∷ []) (None ∷ Some (beside ∷ []) ∷ [])) []
    whole zero bundles is = absurd cc
    whole (suc zero) bundles is = some_list is
    whole (suc (suc lane)) bundles is = absurd cc

outlet_learns_nothing : IsLearned (Outlet (outlet 0 (one ∷ []))) (two ∷ one ∷ [])
outlet_learns_nothing = tt

not_orderly : IsOrderly (Port (port (two ∷ one ∷ []) [])) → ⊥
not_orderly taken = not_falling 0 4 6 (omega arith) (taken.0 0)

not_orderly_of_no_lane : IsOrderly (Port (port (one ∷ []) [])) → ⊥
not_orderly_of_no_lane taken = not_of_no_lane taken.1

others_are_orderly : IsOrderly (Outlet (outlet 0 (two ∷ one ∷ [])))
others_are_orderly = tt
