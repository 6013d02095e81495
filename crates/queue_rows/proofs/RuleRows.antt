-- The rule of a queue that threads share, worked: what its passes may know of one that holds these bundles, and what not.
use Rattle.std.proofs.Common.{◌≡◌, ℕ, ◌<◌, ◌≤◌, get_or, zero, suc, List, [], ◌∷◌, ◌++◌, length, Option, Some, None, IsSome, refl, sym, ap, ◌∙◌, subst, arith}
use Rattle.std.proofs.lemmas.Bool.{false≢true}
use mathlib.Core.Option.{some, some-injective, some-ne-none}
use lib.ListN.{get_elem?}
use Rattle.indications.specs.declared.bundle.Bundle.{Bundle}
use Rattle.indications.specs.LaneLists.{of_lane}
use Rattle.queue_rule.specs.declared.view.OutletView.{OutletView}
use Rattle.queue_rule.specs.declared.view.PortView.{PortView}
use Rattle.queue_rule.specs.declared.view.View.{View}
use Rattle.queue_rule.specs.declared.view.View.TheVariants.{Origin, Port, Outlet, Spent}
use Rattle.queue_rule.specs.Views.{IsSomeLaneList, new_port, outlet_in}
use Rattle.queue_rule.specs.Rule.{Whole, PortFits, OutletFits, Fits, IsSeated, IsFair}
use Rattle.queue_rule.proofs.PassLists.{EachPass, each_more}
use Rattle.queue_rows.proofs.Samples.{bundle, source, sends_nothing, sends_one, sends_two, not_falling, of_lower, front_number}
use Rattle.queue_rows.proofs.ViewRows.{one, two, beside, outlet, port, some_list}

-- ---- what is so

-- something of the first two lanes, and of all others
abbrev by_lane : {A : Type 0} → A → A → A → ℕ → A
by_lane first second other zero = first
by_lane first second other (suc zero) = second
by_lane first second other (suc (suc lane)) = other

-- alice's queue with room for two bundles, whose port is the second pass
abbrev whole : ℕ → (ℕ → Option ℕ) → (ℕ → List Bundle) → List Bundle → Whole
whole lanes seat sent taken =
    record { user = 0; room = 2; reader = 1; lanes = lanes; seat = seat; sent = sent; taken = taken }

no_pass : (F : ℕ → View → Type 0) → EachPass F []
no_pass F pass view at = absurd (some-ne-none view (sym at))

nothing_sits : (pass : ℕ) → None ≡ Some pass → ⊥
nothing_sits pass is = cc

same_pass : (one other : ℕ) → Some one ≡ Some other → one ≡ other
same_pass one other is = cc

-- the first pass alone, of which nothing was made yet
at_first : IsFair [] (Origin ∷ [])
at_first = (
  record { user = 0; room = 2; reader = 0; lanes = 0; seat = λ lane. None; sent = λ lane. []; taken = [] },
  record {
    within = omega arith;
    parts = λ lane. refl;
    lists = sends_nothing;
    beyond = λ lane le. (refl, refl);
    seated = λ lane pass is. absurd (nothing_sits pass is);
    fits = each_more (Fits (record { user = 0; room = 2; reader = 0; lanes = 0; seat = λ lane. None; sent = λ lane. []; taken = [] }))
        [] Origin (refl, refl)
        (no_pass (Fits (record { user = 0; room = 2; reader = 0; lanes = 0; seat = λ lane. None; sent = λ lane. []; taken = [] })));
  },
)

-- the port, which the first pass made and is spent
abbrev opened : Whole
opened = whole 0 (λ lane. None) (λ lane. []) []

just_opened : IsFair [] (Spent ∷ Port (new_port 0 2) ∷ [])
just_opened = (
  opened,
  record {
    within = omega arith;
    parts = λ lane. refl;
    lists = sends_nothing;
    beyond = λ lane le. (refl, refl);
    seated = λ lane pass is. absurd (nothing_sits pass is);
    fits = each_more (Fits opened) (Spent ∷ []) (Port (new_port 0 2))
        (record {
          reads = refl;
          of_user = refl;
          has_room = refl;
          took = refl;
          split = refl;
          knows = λ lane bundles is. absurd cc;
          out = λ lane less none. absurd (omega (arith, less));
        })
        (each_more (Fits opened) [] Spent tt (no_pass (Fits opened)));
  },
)

-- what both lanes sent: of the first one bundle is taken, and one is held behind the other's
abbrev sent : ℕ → List Bundle
sent = by_lane (one ∷ two ∷ []) (beside ∷ []) []

parts_of : (lane : ℕ) → of_lane lane (one ∷ beside ∷ two ∷ []) ≡ sent lane
parts_of zero = refl
parts_of (suc zero) = refl
parts_of (suc (suc lane)) =
    of_lower (suc (suc lane)) (one ∷ beside ∷ []) two (omega arith)
    ∙ of_lower (suc (suc lane)) (one ∷ []) beside (omega arith)
    ∙ of_lower (suc (suc lane)) [] one (omega arith)

lists_of : (lane : ℕ) → IsSomeLaneList 0 lane (sent lane)
lists_of zero = (source, sends_two 0 4 6 (omega arith) refl ((refl, tt, tt), refl))
lists_of (suc zero) = (source, sends_one 1 5)
lists_of (suc (suc lane)) = sends_nothing (suc (suc lane))

-- both outlets are out
abbrev both_out : Whole
both_out = whole 2 (by_lane (Some 2) (Some 3) None) sent (one ∷ [])

abbrev views_out : List View
views_out = Spent ∷ Port (port (one ∷ []) (None ∷ None ∷ [])) ∷ Outlet (outlet 0 (one ∷ two ∷ [])) ∷ Outlet (outlet 1 (beside ∷ [])) ∷ []

beyond_out : (lane : ℕ) → 2 ≤ lane → (both_out.seat lane ≡ None) × (sent lane ≡ [])
beyond_out zero le = absurd (omega (arith, le))
beyond_out (suc zero) le = absurd (omega (arith, le))
beyond_out (suc (suc lane)) le = (refl, refl)

seated_out : (lane pass : ℕ) → both_out.seat lane ≡ Some pass → IsSeated views_out pass lane
seated_out zero pass is =
    subst (λ (p : ℕ). IsSeated views_out p 0) (same_pass 2 pass is) (outlet 0 (one ∷ two ∷ []), refl, refl)
seated_out (suc zero) pass is =
    subst (λ (p : ℕ). IsSeated views_out p 1) (same_pass 3 pass is) (outlet 1 (beside ∷ []), refl, refl)
seated_out (suc (suc lane)) pass is = absurd (nothing_sits pass is)

knows_none : (lane : ℕ) (bundles : List Bundle) → get_or (None ∷ None ∷ []) lane None ≡ Some bundles → ⊥
knows_none zero bundles is = cc
knows_none (suc zero) bundles is = cc
knows_none (suc (suc lane)) bundles is = cc

out_of_both : (lane : ℕ) → lane < 2 → IsSome (both_out.seat lane)
out_of_both zero less = refl
out_of_both (suc zero) less = refl
out_of_both (suc (suc lane)) less = absurd (omega (arith, less))

port_out : PortFits both_out 1 (port (one ∷ []) (None ∷ None ∷ []))
port_out = record {
  reads = refl;
  of_user = refl;
  has_room = refl;
  took = refl;
  split = refl;
  knows = λ lane bundles is. absurd (knows_none lane bundles is);
  out = λ lane less none. out_of_both lane less;
}

one_taken_two_held : IsFair (beside ∷ two ∷ []) views_out
one_taken_two_held = (
  both_out,
  record {
    within = omega arith;
    parts = parts_of;
    lists = lists_of;
    beyond = beyond_out;
    seated = seated_out;
    fits = each_more (Fits both_out) (Spent ∷ Port (port (one ∷ []) (None ∷ None ∷ [])) ∷ Outlet (outlet 0 (one ∷ two ∷ [])) ∷ [])
        (Outlet (outlet 1 (beside ∷ [])))
        (record { sits = refl; of_user = refl; has_room = refl; all = refl })
        (each_more (Fits both_out) (Spent ∷ Port (port (one ∷ []) (None ∷ None ∷ [])) ∷ []) (Outlet (outlet 0 (one ∷ two ∷ [])))
        (record { sits = refl; of_user = refl; has_room = refl; all = refl })
        (each_more (Fits both_out) (Spent ∷ []) (Port (port (one ∷ []) (None ∷ None ∷ []))) port_out
        (each_more (Fits both_out) [] Spent tt (no_pass (Fits both_out)))));
  },
)

-- the first lane's is given back
abbrev one_back : Whole
one_back = whole 2 (by_lane None (Some 3) None) sent (one ∷ [])

abbrev known_back : List (Option (List Bundle))
known_back = Some (one ∷ two ∷ []) ∷ None ∷ []

abbrev views_back : List View
views_back = Spent ∷ Port (port (one ∷ []) known_back) ∷ Spent ∷ Outlet (outlet 1 (beside ∷ [])) ∷ []

beyond_back : (lane : ℕ) → 2 ≤ lane → (one_back.seat lane ≡ None) × (sent lane ≡ [])
beyond_back zero le = absurd (omega (arith, le))
beyond_back (suc zero) le = absurd (omega (arith, le))
beyond_back (suc (suc lane)) le = (refl, refl)

seated_back : (lane pass : ℕ) → one_back.seat lane ≡ Some pass → IsSeated views_back pass lane
seated_back zero pass is = absurd (nothing_sits pass is)
seated_back (suc zero) pass is =
    subst (λ (p : ℕ). IsSeated views_back p 1) (same_pass 3 pass is) (outlet 1 (beside ∷ []), refl, refl)
seated_back (suc (suc lane)) pass is = absurd (nothing_sits pass is)

knows_back : (lane : ℕ) (bundles : List Bundle) → get_or known_back lane None ≡ Some bundles
    → (one_back.seat lane ≡ None) × (sent lane ≡ bundles)
knows_back zero bundles is = (refl, some_list is)
knows_back (suc zero) bundles is = absurd cc
knows_back (suc (suc lane)) bundles is = absurd cc

out_back : (lane : ℕ) → lane < 2 → get_or known_back lane None ≡ None → IsSome (one_back.seat lane)
out_back zero less none = absurd cc
out_back (suc zero) less none = refl
out_back (suc (suc lane)) less none = absurd (omega (arith, less))

port_back : PortFits one_back 1 (port (one ∷ []) known_back)
port_back =
    record { reads = refl; of_user = refl; has_room = refl; took = refl; split = refl; knows = knows_back; out = out_back }

one_given_back : IsFair (beside ∷ two ∷ []) views_back
one_given_back = (
  one_back,
  record {
    within = omega arith;
    parts = parts_of;
    lists = lists_of;
    beyond = beyond_back;
    seated = seated_back;
    fits = each_more (Fits one_back) (Spent ∷ Port (port (one ∷ []) known_back) ∷ Spent ∷ []) (Outlet (outlet 1 (beside ∷ [])))
        (record { sits = refl; of_user = refl; has_room = refl; all = refl })
        (each_more (Fits one_back) (Spent ∷ Port (port (one ∷ []) known_back) ∷ []) Spent tt
        (each_more (Fits one_back) (Spent ∷ []) (Port (port (one ∷ []) known_back)) port_back
        (each_more (Fits one_back) [] Spent tt (no_pass (Fits one_back)))));
  },
)

-- ---- an outlet's pass is of its own lane only

first_lanes : IsSeated views_out 2 0
first_lanes = seated_out 0 2 refl

lane_of : (pass lane : ℕ) (one : OutletView) → get_elem? views_out pass ≡ some (Outlet one) → IsSeated views_out pass lane → one.lane ≡ lane
lane_of pass lane one at seated =
    ap (λ (v : View). (outlet_in v).lane) (some-injective (Outlet one) (Outlet seated.0) (sym at ∙ seated.1)) ∙ seated.2

not_second_lanes : IsSeated views_out 2 1 → ⊥
not_second_lanes seated =
    let lane : 0 ≡ 1 = lane_of 2 1 (outlet 0 (one ∷ two ∷ [])) refl seated in omega (arith, lane)

-- what it knows is of no other pass
not_at_other_pass : OutletFits both_out 3 (outlet 0 (one ∷ two ∷ [])) → ⊥
not_at_other_pass fits = let pass : 2 ≡ 3 = same_pass 2 3 fits.sits in omega (arith, pass)

port_of_no_lane : (lane : ℕ) → IsSeated views_out 1 lane → ⊥
port_of_no_lane lane seated = let is = some-injective (Port (port (one ∷ []) (None ∷ None ∷ []))) (Outlet seated.0) seated.1 in cc

-- nor is it so under any whole
not_two_lanes : (items : List Bundle) (fair : IsFair items views_out) → fair.0.seat 1 ≡ Some 2 → ⊥
not_two_lanes items fair sits = not_second_lanes (fair.1.seated 1 2 sits)

-- ---- what can't be

-- what was taken by the port and what is held is what the outlet sent
sent_by : (items : List Bundle) (views : List View) (port : PortView) (pass : ℕ) (outlet : OutletView) → IsFair items views
    → get_elem? views 1 ≡ some (Port port) → get_elem? views pass ≡ some (Outlet outlet)
    → of_lane outlet.lane (port.taken ++ items) ≡ outlet.sent
sent_by items views port pass outlet fair at at' =
    let mine : PortFits fair.0 1 port = fair.1.fits 1 (Port port) at in
    let theirs : OutletFits fair.0 pass outlet = fair.1.fits pass (Outlet outlet) at' in
    subst (λ (t : List Bundle). of_lane outlet.lane (t ++ items) ≡ fair.0.sent outlet.lane) (sym mine.took) (fair.1.parts outlet.lane)
    ∙ sym theirs.all

-- a port with a lane whose outlet is out
abbrev alone : List Bundle → List Bundle → List View
alone taken sent = Spent ∷ Port (port taken (None ∷ [])) ∷ Outlet (outlet 0 sent) ∷ []

abbrev all_of : (items taken sent : List Bundle) → IsFair items (alone taken sent) → of_lane 0 (taken ++ items) ≡ sent
all_of items taken sent fair = sent_by items (alone taken sent) (port taken (None ∷ [])) 2 (outlet 0 sent) fair refl refl

-- a bundle that is neither held nor taken, one that comes twice, and two in the other order
not_lost : IsFair [] (alone [] (one ∷ [])) → ⊥
not_lost fair = let count : 0 ≡ 1 = ap length (all_of [] [] (one ∷ []) fair) in omega (arith, count)

not_twice : IsFair (one ∷ []) (alone (one ∷ []) (one ∷ [])) → ⊥
not_twice fair = let count : 2 ≡ 1 = ap length (all_of (one ∷ []) (one ∷ []) (one ∷ []) fair) in omega (arith, count)

not_turned : IsFair (two ∷ one ∷ []) (alone [] (one ∷ two ∷ [])) → ⊥
not_turned fair =
    let number : 6 ≡ 4 = ap front_number (all_of (two ∷ one ∷ []) [] (one ∷ two ∷ []) fair) in omega (arith, number)

-- one that was taken before one which came earlier
not_overtaken : IsFair (one ∷ []) (alone (two ∷ []) (one ∷ two ∷ [])) → ⊥
not_overtaken fair =
    let number : 6 ≡ 4 = ap front_number (all_of (one ∷ []) (two ∷ []) (one ∷ two ∷ []) fair) in omega (arith, number)

-- an outlet that knows what another lane sent
not_of_other_lane : IsFair (beside ∷ []) (alone [] (beside ∷ [])) → ⊥
not_of_other_lane fair = let count : 0 ≡ 1 = ap length (all_of (beside ∷ []) [] (beside ∷ []) fair) in omega (arith, count)

-- one that nobody sent
not_unsent : IsFair (one ∷ []) (alone [] []) → ⊥
not_unsent fair = let count : 1 ≡ 0 = ap length (all_of (one ∷ []) [] [] fair) in omega (arith, count)

-- more than there is room for
not_too_many : IsFair (one ∷ two ∷ bundle 0 8 ∷ []) (alone [] (one ∷ two ∷ bundle 0 8 ∷ [])) → ⊥
not_too_many fair =
    let mine : PortFits fair.0 1 (port [] (None ∷ [])) = fair.1.fits 1 (Port (port [] (None ∷ []))) refl in
    let room : 2 ≡ fair.0.room = mine.has_room in
    let within : 3 ≤ fair.0.room = fair.1.within in
    omega (arith, room, within)

-- two that were taken in the other order
not_taken_turned : IsFair [] (alone (two ∷ one ∷ []) (one ∷ two ∷ [])) → ⊥
not_taken_turned fair =
    let number : 6 ≡ 4 = ap front_number (all_of [] (two ∷ one ∷ []) (one ∷ two ∷ []) fair) in omega (arith, number)

-- a lane that never had an outlet sent nothing
nothing_beyond : (items taken sent : List Bundle) (fair : IsFair items (alone taken sent)) (lane : ℕ) → 1 ≤ lane → fair.0.sent lane ≡ []
nothing_beyond items taken sent fair lane le =
    let mine : PortFits fair.0 1 (port taken (None ∷ [])) = fair.1.fits 1 (Port (port taken (None ∷ []))) refl in
    (fair.1.beyond lane (omega (arith, le, mine.split))).1

not_sent_beyond : (items taken sent : List Bundle) (fair : IsFair items (alone taken sent)) → fair.0.sent 1 ≡ beside ∷ [] → ⊥
not_sent_beyond items taken sent fair is =
    let count : 1 ≡ 0 = ap length (sym is ∙ nothing_beyond items taken sent fair 1 (omega arith)) in omega (arith, count)

-- so none of it was taken
not_taken_of_no_lane : IsFair [] (alone (beside ∷ []) []) → ⊥
not_taken_of_no_lane fair =
    let mine : PortFits fair.0 1 (port (beside ∷ []) (None ∷ [])) = fair.1.fits 1 (Port (port (beside ∷ []) (None ∷ []))) refl in
    let taken : of_lane 1 (beside ∷ []) ≡ [] =
    subst (λ (t : List Bundle). of_lane 1 (t ++ []) ≡ fair.0.sent 1) (sym mine.took) (fair.1.parts 1)
    ∙ nothing_beyond [] (beside ∷ []) [] fair 1 (omega arith) in
    let count : 1 ≡ 0 = ap length taken in omega (arith, count)

-- nor is any held: a bundle of such a lane
not_of_no_lane : IsFair (beside ∷ []) (alone [] []) → ⊥
not_of_no_lane fair =
    let mine : PortFits fair.0 1 (port [] (None ∷ [])) = fair.1.fits 1 (Port (port [] (None ∷ []))) refl in
    let lanes : 1 ≡ fair.0.lanes = mine.split in
    let nothing : of_lane 1 (fair.0.taken ++ beside ∷ []) ≡ [] = fair.1.parts 1 ∙ (fair.1.beyond 1 (omega (arith, lanes))).1 in
    let held : of_lane 1 (beside ∷ []) ≡ [] = subst (λ (t : List Bundle). of_lane 1 (t ++ beside ∷ []) ≡ []) (sym mine.took) nothing in
    let count : 1 ≡ 0 = ap length held in omega (arith, count)

-- an outlet of such a lane
not_beyond : IsFair [] (Spent ∷ Port (port [] (None ∷ [])) ∷ Outlet (outlet 1 []) ∷ []) → ⊥
not_beyond fair =
    let mine : PortFits fair.0 1 (port [] (None ∷ [])) = fair.1.fits 1 (Port (port [] (None ∷ []))) refl in
    let theirs : OutletFits fair.0 2 (outlet 1 []) = fair.1.fits 2 (Outlet (outlet 1 [])) refl in
    let lanes : 1 ≡ fair.0.lanes = mine.split in
    nothing_sits 2 (sym (fair.1.beyond 1 (omega (arith, lanes))).0 ∙ theirs.sits)

-- what a lane sends is a lane list
not_fallen : IsFair (two ∷ one ∷ []) (alone [] (two ∷ one ∷ [])) → ⊥
not_fallen fair =
    let theirs : OutletFits fair.0 2 (outlet 0 (two ∷ one ∷ [])) = fair.1.fits 2 (Outlet (outlet 0 (two ∷ one ∷ []))) refl in
    not_falling 0 4 6 (omega arith)
    (subst (λ (l : List Bundle). IsSomeLaneList 0 0 l) (sym theirs.all)
    (subst (λ (u : ℕ). IsSomeLaneList u 0 (fair.0.sent 0)) (sym theirs.of_user) (fair.1.lists 0)))

-- a lane without an outlet that was not given back, whether it sent or not
seat_of : (seat : Option ℕ) → IsSome seat → (pass : ℕ) × (seat ≡ Some pass)
seat_of None is = absurd (false≢true is)
seat_of (Some pass) is = (pass, refl)

no_outlet : (port : PortView) (pass lane : ℕ) → IsSeated (Spent ∷ Port port ∷ []) pass lane → ⊥
no_outlet port zero lane seated = let is = some-injective Spent (Outlet seated.0) seated.1 in cc
no_outlet port (suc zero) lane seated = let is = some-injective (Port port) (Outlet seated.0) seated.1 in cc
no_outlet port (suc (suc pass)) lane seated = some-ne-none (Outlet seated.0) (sym seated.1)

not_without_outlet : (items : List Bundle) → IsFair items (Spent ∷ Port (port [] (None ∷ [])) ∷ []) → ⊥
not_without_outlet items fair =
    let mine : PortFits fair.0 1 (port [] (None ∷ [])) = fair.1.fits 1 (Port (port [] (None ∷ []))) refl in
    let lanes : 1 ≡ fair.0.lanes = mine.split in
    let seat = seat_of (fair.0.seat 0) (mine.out 0 (omega (arith, lanes)) refl) in
    no_outlet (port [] (None ∷ [])) seat.0 0 (fair.1.seated 0 seat.0 seat.1)

not_sent_without_outlet : IsFair (one ∷ []) (Spent ∷ Port (port [] (None ∷ [])) ∷ []) → ⊥
not_sent_without_outlet = not_without_outlet (one ∷ [])

-- a lane whose outlet is out, and was given back
not_out_and_back : IsFair (one ∷ []) (Spent ∷ Port (port [] (Some (one ∷ []) ∷ [])) ∷ Outlet (outlet 0 (one ∷ [])) ∷ []) → ⊥
not_out_and_back fair =
    let mine : PortFits fair.0 1 (port [] (Some (one ∷ []) ∷ [])) = fair.1.fits 1 (Port (port [] (Some (one ∷ []) ∷ []))) refl in
    let theirs : OutletFits fair.0 2 (outlet 0 (one ∷ [])) = fair.1.fits 2 (Outlet (outlet 0 (one ∷ []))) refl in
    nothing_sits 2 (sym (mine.knows 0 (one ∷ []) refl).0 ∙ theirs.sits)

-- one that was given back with less than it sent
not_less_known : IsFair (one ∷ []) (Spent ∷ Port (port [] (Some [] ∷ [])) ∷ Spent ∷ []) → ⊥
not_less_known fair =
    let mine : PortFits fair.0 1 (port [] (Some [] ∷ [])) = fair.1.fits 1 (Port (port [] (Some [] ∷ []))) refl in
    let held : of_lane 0 (one ∷ []) ≡ [] =
    subst (λ (t : List Bundle). of_lane 0 (t ++ one ∷ []) ≡ fair.0.sent 0) (sym mine.took) (fair.1.parts 0) ∙ (mine.knows 0 [] refl).1 in
    let count : 1 ≡ 0 = ap length held in omega (arith, count)

-- two outlets of one lane, and two ports
not_two_outlets : IsFair [] (Spent ∷ Port (port [] (None ∷ [])) ∷ Outlet (outlet 0 []) ∷ Outlet (outlet 0 []) ∷ []) → ⊥
not_two_outlets fair =
    let first : OutletFits fair.0 2 (outlet 0 []) = fair.1.fits 2 (Outlet (outlet 0 [])) refl in
    let second : OutletFits fair.0 3 (outlet 0 []) = fair.1.fits 3 (Outlet (outlet 0 [])) refl in
    let pass : 2 ≡ 3 = same_pass 2 3 (sym first.sits ∙ second.sits) in omega (arith, pass)

not_two_ports : IsFair [] (Spent ∷ Port (port [] []) ∷ Port (port [] []) ∷ []) → ⊥
not_two_ports fair =
    let first : PortFits fair.0 1 (port [] []) = fair.1.fits 1 (Port (port [] [])) refl in
    let second : PortFits fair.0 2 (port [] []) = fair.1.fits 2 (Port (port [] [])) refl in
    omega (arith, first.reads, second.reads)

-- a port beside the first pass, and an outlet
not_port_at_first : IsFair [] (Origin ∷ Port (port [] []) ∷ []) → ⊥
not_port_at_first fair =
    let first : (0 ≡ fair.0.reader) × (fair.0.lanes ≡ 0) = fair.1.fits 0 Origin refl in
    let second : PortFits fair.0 1 (port [] []) = fair.1.fits 1 (Port (port [] [])) refl in
    omega (arith, first.0, second.reads)

not_outlet_at_first : IsFair [] (Origin ∷ Outlet (outlet 0 []) ∷ []) → ⊥
not_outlet_at_first fair =
    let first : (0 ≡ fair.0.reader) × (fair.0.lanes ≡ 0) = fair.1.fits 0 Origin refl in
    let theirs : OutletFits fair.0 1 (outlet 0 []) = fair.1.fits 1 (Outlet (outlet 0 [])) refl in
    nothing_sits 1 (sym (fair.1.beyond 0 (omega (arith, first.1))).0 ∙ theirs.sits)

-- ends of two users, and of queues with other room
not_of_two_users : IsFair [] (Spent ∷ Port (port [] (None ∷ [])) ∷ Outlet (record (outlet 0 []) { user = 1 }) ∷ []) → ⊥
not_of_two_users fair =
    let mine : PortFits fair.0 1 (port [] (None ∷ [])) = fair.1.fits 1 (Port (port [] (None ∷ []))) refl in
    let theirs : OutletFits fair.0 2 (record (outlet 0 []) { user = 1 }) = fair.1.fits 2 (Outlet (record (outlet 0 []) { user = 1 })) refl in
    let one_user : 0 ≡ fair.0.user = mine.of_user in
    let other : 1 ≡ fair.0.user = theirs.of_user in
    omega (arith, one_user, other)

not_of_two_rooms : IsFair [] (Spent ∷ Port (port [] (None ∷ [])) ∷ Outlet (record (outlet 0 []) { room = 3 }) ∷ []) → ⊥
not_of_two_rooms fair =
    let mine : PortFits fair.0 1 (port [] (None ∷ [])) = fair.1.fits 1 (Port (port [] (None ∷ []))) refl in
    let theirs : OutletFits fair.0 2 (record (outlet 0 []) { room = 3 }) = fair.1.fits 2 (Outlet (record (outlet 0 []) { room = 3 })) refl in
    let one_room : 2 ≡ fair.0.room = mine.has_room in
    let other : 3 ≡ fair.0.room = theirs.has_room in
    omega (arith, one_room, other)
