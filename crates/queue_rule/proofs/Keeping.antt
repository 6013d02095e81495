-- Each step of those that share a queue keeps its rule.
use Rattle.std.proofs.Common.{◌≡◌, ◌≢◌, ℕ, ◌+◌, ◌<◌, ◌≤◌, zero, suc, List, [], ◌∷◌, ◌++◌, length, length-append, length-set, set, Some, None, IsSome, get_or, refl, ap, sym, ◌∙◌, subst, ⊎_elim, append_assoc, arith}
use Rattle.std.proofs.lemmas.Bool.{cases_eq, cases_lt}
use mathlib.Core.Option.{some, some-injective, some-ne-none}
use lib.ListN.{get_elem?}
use Rattle.crossbeam_queue.proofs.Lists.{set_here, set_else, at_longer, at_last}
use Rattle.crossbeam_queue.specs.Fifo.{Pushes, Pops, Forks, Merges, Learns}
use Rattle.indications.specs.declared.bundle.Bundle.{Bundle}
use Rattle.indications.specs.LaneLists.{of_lane}
use Rattle.indications.proofs.LaneLemmas.{of_lane-more, of_lane-other, IsLaneList-nil, IsLaneList-taken}
use Rattle.queue_rule.specs.declared.view.OutletView.{OutletView}
use Rattle.queue_rule.specs.declared.view.PortView.{PortView}
use Rattle.queue_rule.specs.declared.view.View.{View}
use Rattle.queue_rule.specs.declared.view.View.TheVariants.{Origin, Port, Outlet, Spent}
use Rattle.queue_rule.specs.Views.{with_sent, with_taken, with_lane, with_known, new_port, next_outlet, pushed, popped, split_port, split_outlet, joined, IsSomeLaneList, IsTakenInOrder, IsTakenOfLanes, IsLearned, IsOrderly, outlet_in}
use Rattle.queue_rule.specs.Rule.{Whole, PortFits, OutletFits, Fits, IsSeated, IsFairOf, IsFair}
use Rattle.queue_rule.proofs.PassLists.{EachPass, get_or-set_here, get_or-set_else, each_set, each_more, is_within, get_or-more_none, get_or-past_none, no_bundles, none_behind, lower_lanes, changed_at, changed_here, changed_else}

-- ---- the outlets of lanes among the passes

stays_seated : (views : List View) (pass : ℕ) (w : View) (q lane : ℕ) → q ≢ pass → IsSeated views q lane → IsSeated (set views pass w) q lane
stays_seated views pass w q lane apart seat = (seat.0, set_else views pass q w apart ∙ seat.1, seat.2)

port_or_outlet : (port : PortView) (outlet : OutletView) → Port port ≡ Outlet outlet → ⊥
port_or_outlet port outlet is = cc

-- no port is an outlet
port_apart : (views : List View) (pass : ℕ) (port : PortView) (q lane : ℕ) → get_elem? views pass ≡ some (Port port) → IsSeated views q lane → q ≢ pass
port_apart views pass port q lane at seat e =
    port_or_outlet port seat.0 (some-injective (Port port) (Outlet seat.0)
    (sym at ∙ subst (λ (k : ℕ). get_elem? views k ≡ some (Outlet seat.0)) e seat.1))

-- an outlet stays one of its lane
outlet_stays : (views : List View) (pass : ℕ) (outlet next : OutletView) (q lane : ℕ) → get_elem? views pass ≡ some (Outlet outlet)
    → next.lane ≡ outlet.lane → IsSeated views q lane → IsSeated (set views pass (Outlet next)) q lane
outlet_stays views pass outlet next q lane at same seat = ⊎_elim
    (λ (e : q ≡ pass).
    let there : some (Outlet outlet) ≡ some (Outlet seat.0) =
    sym at ∙ subst (λ (k : ℕ). get_elem? views k ≡ some (Outlet seat.0)) e seat.1 in
    let one : outlet.lane ≡ seat.0.lane = ap (λ (v : View). (outlet_in v).lane) (some-injective (Outlet outlet) (Outlet seat.0) there) in (
      next,
      subst (λ (k : ℕ). get_elem? (set views pass (Outlet next)) k ≡ some (Outlet next)) (sym e)
          (set_here views pass (Outlet next) (is_within views pass (Outlet outlet) at)),
      same ∙ one ∙ seat.2,
    ))
    (λ (apart : q ≢ pass). stays_seated views pass (Outlet next) q lane apart seat)
    (cases_eq q pass)

-- ---- the beginning

abbrev fresh : ℕ → ℕ → ℕ → Whole
fresh user room reader = record { user = user; room = room; reader = reader; lanes = 0; seat = λ lane. None; sent = λ lane. []; taken = [] }

no_lists : (user lane : ℕ) → IsSomeLaneList user lane []
no_lists user lane = (record { 0 = 0 }, IsLaneList-nil user lane (record { 0 = 0 }))

alone : (j : ℕ) (u : View) → j ≢ 0 → get_elem? (Origin ∷ []) j ≡ some u → Fits (fresh 0 0 0) j u
alone zero u other e = absurd (other refl)
alone (suc j) u other e = absurd (some-ne-none u (sym e))

pub begins : IsFair [] (Origin ∷ [])
begins = (
  fresh 0 0 0,
  record {
    within = omega arith;
    parts = λ lane. refl;
    lists = λ lane. no_lists 0 lane;
    beyond = λ lane le. (refl, refl);
    seated = λ lane pass is. absurd cc;
    fits = each_set (Fits (fresh 0 0 0)) (Origin ∷ []) 0 Origin (refl, refl) alone;
  },
)

-- ---- a lane sends a bundle

abbrev more_sent : Whole → ℕ → Bundle → Whole
more_sent whole lane bundle = record whole { sent = changed_at lane (whole.sent lane ++ bundle ∷ []) whole.sent }

same_seat : (whole : Whole) (lane j pass : ℕ) → whole.seat lane ≡ Some j → whole.seat lane ≡ Some pass → j ≡ pass
same_seat whole lane j pass one other = let both : Some j ≡ Some pass = sym one ∙ other in cc

fits_more_sent : (whole : Whole) (lane pass : ℕ) (bundle : Bundle) → whole.seat lane ≡ Some pass
    → (j : ℕ) (u : View) → j ≢ pass → Fits whole j u → Fits (more_sent whole lane bundle) j u
fits_more_sent whole lane pass bundle sits j Origin other fit = fit
fits_more_sent whole lane pass bundle sits j (Port port) other fit = record {
  reads = fit.reads;
  of_user = fit.of_user;
  has_room = fit.has_room;
  took = fit.took;
  split = fit.split;
  knows = λ l bundles is.
      let known = fit.knows l bundles is in
      let apart : l ≢ lane = λ e. let none : whole.seat lane ≡ None = subst (λ k. whole.seat k ≡ None) e known.0 in absurd cc in
      (known.0, changed_else lane (whole.sent lane ++ bundle ∷ []) whole.sent l apart ∙ known.1);
  out = fit.out;
}
fits_more_sent whole lane pass bundle sits j (Outlet outlet) other fit =
    let apart : outlet.lane ≢ lane = λ e.
    other (same_seat whole lane j pass (subst (λ k. whole.seat k ≡ Some j) e fit.sits) sits) in record {
      sits = fit.sits;
      of_user = fit.of_user;
      has_room = fit.has_room;
      all = fit.all ∙ sym (changed_else lane (whole.sent lane ++ bundle ∷ []) whole.sent outlet.lane apart);
    }
fits_more_sent whole lane pass bundle sits j Spent other fit = tt

parts_more_sent : (whole : Whole) (items : List Bundle) (lane : ℕ) (bundle : Bundle) → bundle.lane ≡ lane
    → ((l : ℕ) → of_lane l (whole.taken ++ items) ≡ whole.sent l)
    → (l : ℕ) → of_lane l (whole.taken ++ (items ++ bundle ∷ [])) ≡ (more_sent whole lane bundle).sent l
parts_more_sent whole items lane bundle is parts l = rw (← append_assoc whole.taken items (bundle ∷ [])) (⊎_elim
    (λ (e : l ≡ lane). of_lane-more l (whole.taken ++ items) bundle (is ∙ sym e) ∙ ap (λ (xs : List Bundle). xs ++ bundle ∷ []) (parts l)
    ∙ subst (λ (k : ℕ). whole.sent k ++ bundle ∷ [] ≡ (more_sent whole lane bundle).sent k) (sym e)
    (sym (changed_here lane (whole.sent lane ++ bundle ∷ []) whole.sent)))
    (λ (other : l ≢ lane). of_lane-other l (whole.taken ++ items) bundle (λ e. other (sym e ∙ is)) ∙ parts l
    ∙ sym (changed_else lane (whole.sent lane ++ bundle ∷ []) whole.sent l other))
    (cases_eq l lane))

lists_more_sent : (whole : Whole) (lane : ℕ) (bundle : Bundle) → IsSomeLaneList whole.user lane (whole.sent lane ++ bundle ∷ [])
    → ((l : ℕ) → IsSomeLaneList whole.user l (whole.sent l))
    → (l : ℕ) → IsSomeLaneList whole.user l ((more_sent whole lane bundle).sent l)
lists_more_sent whole lane bundle goes lists l = ⊎_elim
    (λ (e : l ≡ lane). subst (λ (k : ℕ). IsSomeLaneList whole.user k ((more_sent whole lane bundle).sent k)) (sym e)
    (subst (IsSomeLaneList whole.user lane) (sym (changed_here lane (whole.sent lane ++ bundle ∷ []) whole.sent)) goes))
    (λ (other : l ≢ lane). subst (IsSomeLaneList whole.user l) (sym (changed_else lane (whole.sent lane ++ bundle ∷ []) whole.sent l other)) (lists l))
    (cases_eq l lane)

pub sends : (n pass : ℕ) (outlet : OutletView) (bundle : Bundle) → n ≤ outlet.room → bundle.lane ≡ outlet.lane
    → IsSomeLaneList outlet.user outlet.lane (outlet.sent ++ bundle ∷ [])
    → Pushes IsFair n pass (Outlet outlet) bundle (λ w. w ≡ pushed (Outlet outlet) bundle)
sends n pass outlet bundle room is goes items views less fair at =
    let whole : Whole = fair.0 in
    let mine : OutletFits whole pass outlet = fair.1.fits pass (Outlet outlet) at in
    let next : Whole = more_sent whole outlet.lane bundle in
    let here : next.sent outlet.lane ≡ whole.sent outlet.lane ++ bundle ∷ [] =
    changed_here outlet.lane (whole.sent outlet.lane ++ bundle ∷ []) whole.sent in (
      Outlet (with_sent outlet bundle),
      (
        next,
        record {
          within = omega (arith, length-append items (bundle ∷ []), mine.has_room, room, less);
          parts = parts_more_sent whole items outlet.lane bundle is fair.1.parts;
          lists = lists_more_sent whole outlet.lane bundle
              (subst (λ (u : ℕ). IsSomeLaneList u outlet.lane (whole.sent outlet.lane ++ bundle ∷ [])) mine.of_user
              (subst (λ (l : List Bundle). IsSomeLaneList outlet.user outlet.lane (l ++ bundle ∷ [])) mine.all goes)) fair.1.lists;
          beyond = λ l le.
              let past = fair.1.beyond l le in
              let apart : l ≢ outlet.lane = λ e.
              let none : whole.seat outlet.lane ≡ None = subst (λ k. whole.seat k ≡ None) e past.0 in
              let sits = mine.sits in absurd cc in
              (past.0, changed_else outlet.lane (whole.sent outlet.lane ++ bundle ∷ []) whole.sent l apart ∙ past.1);
          seated = λ lane q is. outlet_stays views pass outlet (with_sent outlet bundle) q lane at refl (fair.1.seated lane q is);
          fits = each_set (Fits next) views pass (Outlet (with_sent outlet bundle))
              (record {
                sits = mine.sits;
                of_user = mine.of_user;
                has_room = mine.has_room;
                all = ap (λ (l : List Bundle). l ++ bundle ∷ []) mine.all ∙ sym here;
              })
              (λ j u other e. fits_more_sent whole outlet.lane pass bundle mine.sits j u other (fair.1.fits j u e));
        },
      ),
      refl,
    )

-- ---- the user takes a bundle

abbrev more_taken : Whole → Bundle → Whole
more_taken whole bundle = record whole { taken = whole.taken ++ bundle ∷ [] }

fits_more_taken : (whole : Whole) (pass : ℕ) (bundle : Bundle) → pass ≡ whole.reader
    → (j : ℕ) (u : View) → j ≢ pass → Fits whole j u → Fits (more_taken whole bundle) j u
fits_more_taken whole pass bundle reads j Origin other fit = fit
fits_more_taken whole pass bundle reads j (Port port) other fit = absurd (other (fit.reads ∙ sym reads))
fits_more_taken whole pass bundle reads j (Outlet outlet) other fit =
    record { sits = fit.sits; of_user = fit.of_user; has_room = fit.has_room; all = fit.all }
fits_more_taken whole pass bundle reads j Spent other fit = tt

-- what the port took is in order
in_order : (whole : Whole) (items : List Bundle) (views : List View) (pass : ℕ) (port : PortView)
    → IsFairOf whole items views → PortFits whole pass port → IsTakenInOrder port
in_order whole items views pass port fair mine lane =
    let list : IsSomeLaneList whole.user lane (of_lane lane (whole.taken ++ items)) =
    subst (IsSomeLaneList whole.user lane) (sym (fair.parts lane)) (fair.lists lane) in
    let front : IsSomeLaneList whole.user lane (of_lane lane whole.taken) =
    (list.0, IsLaneList-taken whole.user lane list.0 whole.taken items list.1) in
    subst (λ (u : ℕ). IsSomeLaneList u lane (of_lane lane port.taken)) (sym mine.of_user)
    (subst (λ (l : List Bundle). IsSomeLaneList whole.user lane (of_lane lane l)) (sym mine.took) front)

-- and of lanes that ever had an outlet
of_lanes : (whole : Whole) (items : List Bundle) (views : List View) (pass : ℕ) (port : PortView)
    → IsFairOf whole items views → PortFits whole pass port → IsTakenOfLanes port
of_lanes whole items views pass port fair mine = lower_lanes (length port.known) port.taken items
    (λ lane le. ap (λ (l : List Bundle). of_lane lane (l ++ items)) mine.took ∙ fair.parts lane
    ∙ (fair.beyond lane (omega (arith, le, mine.split))).1)

-- both, of a port
orderly : (whole : Whole) (items : List Bundle) (views : List View) (pass : ℕ) (port : PortView)
    → IsFairOf whole items views → PortFits whole pass port → IsOrderly (Port port)
orderly whole items views pass port fair mine =
    (in_order whole items views pass port fair mine, of_lanes whole items views pass port fair mine)

pub takes : (pass : ℕ) (port : PortView)
    → Pops IsFair pass (Port port) (λ bundle w. (w ≡ popped (Port port) bundle) × IsOrderly w)
takes pass port bundle items views fair at =
    let whole : Whole = fair.0 in
    let mine : PortFits whole pass port = fair.1.fits pass (Port port) at in
    let next : Whole = more_taken whole bundle in
    let took : PortView = with_taken port bundle in
    let fits_now : PortFits next pass took = record {
      reads = mine.reads;
      of_user = mine.of_user;
      has_room = mine.has_room;
      took = ap (λ (l : List Bundle). l ++ bundle ∷ []) mine.took;
      split = mine.split;
      knows = mine.knows;
      out = mine.out;
    } in
    let fair_now : IsFairOf next items (set views pass (Port took)) = record {
      within = omega (arith, fair.1.within);
      parts = λ lane. ap (of_lane lane) (append_assoc whole.taken (bundle ∷ []) items) ∙ fair.1.parts lane;
      lists = fair.1.lists;
      beyond = fair.1.beyond;
      seated = λ lane q is.
          let seat = fair.1.seated lane q is in
          stays_seated views pass (Port took) q lane (port_apart views pass port q lane at seat) seat;
      fits = each_set (Fits next) views pass (Port took) fits_now
          (λ j u other e. fits_more_taken whole pass bundle mine.reads j u other (fair.1.fits j u e));
    } in
    (Port took, (next, fair_now), (refl, orderly next items (set views pass (Port took)) pass took fair_now fits_now))

pub learns : (pass : ℕ) (port : PortView) → Learns IsFair pass (Port port) (λ items. IsLearned (Port port) items)
learns pass port items views fair at =
    let whole : Whole = fair.0 in
    let mine : PortFits whole pass port = fair.1.fits pass (Port port) at in (
      orderly whole items views pass port fair.1 mine,
      λ lane bundles is. ap (λ (l : List Bundle). of_lane lane (l ++ items)) mine.took ∙ fair.1.parts lane ∙ (mine.knows lane bundles is).1,
    )

-- ---- the port of a user

fits_fresh : (whole : Whole) (user room reader pass : ℕ) → pass ≡ whole.reader → ((lane : ℕ) → whole.seat lane ≡ None)
    → (j : ℕ) (u : View) → j ≢ pass → Fits whole j u → Fits (fresh user room reader) j u
fits_fresh whole user room reader pass reads free j Origin other fit = absurd (other (fit.0 ∙ sym reads))
fits_fresh whole user room reader pass reads free j (Port port) other fit = absurd (other (fit.reads ∙ sym reads))
fits_fresh whole user room reader pass reads free j (Outlet outlet) other fit =
    let none = free outlet.lane in let sits = fit.sits in absurd cc
fits_fresh whole user room reader pass reads free j Spent other fit = tt

pub opens : (pass user room : ℕ) → Forks IsFair pass Origin Spent (Port (new_port user room))
opens pass user room items views fair at =
    let whole : Whole = fair.0 in
    let mine : Fits whole pass Origin = fair.1.fits pass Origin at in
    let past : (lane : ℕ) → (whole.seat lane ≡ None) × (whole.sent lane ≡ []) = λ lane. fair.1.beyond lane (omega (arith, mine.1)) in
    let nothing : items ≡ [] =
    none_behind whole.taken items (no_bundles (whole.taken ++ items) (λ lane. fair.1.parts lane ∙ (past lane).1)) in
    let rest : List View = set views pass Spent in
    let next : Whole = fresh user room (length rest) in (
      next,
      record {
        within = omega (arith, ap length nothing);
        parts = λ lane. ap (of_lane lane) nothing;
        lists = λ lane. no_lists user lane;
        beyond = λ lane le. (refl, refl);
        seated = λ lane q is. absurd cc;
        fits = each_more (Fits next) rest (Port (new_port user room))
            (record {
              reads = refl;
              of_user = refl;
              has_room = refl;
              took = refl;
              split = refl;
              knows = λ lane bundles is. absurd cc;
              out = λ lane less is. absurd (omega (arith, less));
            })
            (each_set (Fits next) views pass Spent tt
            (λ j u other e. fits_fresh whole user room (length rest) pass mine.0 (λ lane. (past lane).0) j u other (fair.1.fits j u e)));
      },
    )

-- ---- the outlet of the next lane

abbrev more_lanes : Whole → ℕ → Whole
more_lanes whole seat = record whole { lanes = whole.lanes + 1; seat = changed_at whole.lanes (Some seat) whole.seat }

fits_more_lanes : (whole : Whole) (seat pass : ℕ) → pass ≡ whole.reader → whole.seat whole.lanes ≡ None
    → (j : ℕ) (u : View) → j ≢ pass → Fits whole j u → Fits (more_lanes whole seat) j u
fits_more_lanes whole seat pass reads free j Origin other fit = absurd (other (fit.0 ∙ sym reads))
fits_more_lanes whole seat pass reads free j (Port port) other fit = absurd (other (fit.reads ∙ sym reads))
fits_more_lanes whole seat pass reads free j (Outlet outlet) other fit =
    let apart : outlet.lane ≢ whole.lanes = λ e.
    let none : whole.seat outlet.lane ≡ None = subst (λ k. whole.seat k ≡ None) (sym e) free in
    let sits = fit.sits in absurd cc in record {
      sits = changed_else whole.lanes (Some seat) whole.seat outlet.lane apart ∙ fit.sits;
      of_user = fit.of_user;
      has_room = fit.has_room;
      all = fit.all;
    }
fits_more_lanes whole seat pass reads free j Spent other fit = tt

seated_more_lanes : (whole : Whole) (views : List View) (pass : ℕ) (port : PortView) → get_elem? views pass ≡ some (Port port)
    → ((lane q : ℕ) → whole.seat lane ≡ Some q → IsSeated views q lane) → length port.known ≡ whole.lanes
    → (lane q : ℕ) → (more_lanes whole (length (set views pass (Port (with_lane port))))).seat lane ≡ Some q
    → IsSeated (set views pass (Port (with_lane port)) ++ Outlet (next_outlet port) ∷ []) q lane
seated_more_lanes whole views pass port at seated split lane q is =
    let rest : List View = set views pass (Port (with_lane port)) in
    let seat : ℕ = length rest in ⊎_elim
    (λ (e : lane ≡ whole.lanes).
    let there : Some seat ≡ Some q = sym (changed_here whole.lanes (Some seat) whole.seat)
    ∙ subst (λ (l : ℕ). (more_lanes whole seat).seat l ≡ Some q) e is in
    let last : seat ≡ q = cc in
    (next_outlet port, at_last rest (Outlet (next_outlet port)) q last, split ∙ sym e))
    (λ (apart : lane ≢ whole.lanes).
    let was = seated lane q (sym (changed_else whole.lanes (Some seat) whole.seat lane apart) ∙ is) in
    let now = stays_seated views pass (Port (with_lane port)) q lane (port_apart views pass port q lane at was) was in
    (now.0, at_longer rest (Outlet (next_outlet port) ∷ []) q (Outlet now.0) now.1, now.2))
    (cases_eq lane whole.lanes)

out_more_lanes : (whole : Whole) (seat : ℕ) (port : PortView)
    → ((lane : ℕ) → lane < whole.lanes → get_or port.known lane None ≡ None → IsSome (whole.seat lane))
    → (lane : ℕ) → lane < whole.lanes + 1 → get_or (port.known ++ None ∷ []) lane None ≡ None → IsSome ((more_lanes whole seat).seat lane)
out_more_lanes whole seat port out lane less none = ⊎_elim
    (λ (e : lane ≡ whole.lanes). subst (λ (l : ℕ). IsSome ((more_lanes whole seat).seat l)) (sym e)
    (subst IsSome (sym (changed_here whole.lanes (Some seat) whole.seat)) refl))
    (λ (apart : lane ≢ whole.lanes). subst IsSome (sym (changed_else whole.lanes (Some seat) whole.seat lane apart))
    (out lane (omega (arith, less, apart)) (sym (get_or-more_none port.known lane) ∙ none)))
    (cases_eq lane whole.lanes)

pub splits : (pass : ℕ) (port : PortView) → Forks IsFair pass (Port port) (split_port (Port port)) (split_outlet (Port port))
splits pass port items views fair at =
    let whole : Whole = fair.0 in
    let mine : PortFits whole pass port = fair.1.fits pass (Port port) at in
    let free = fair.1.beyond whole.lanes (omega arith) in
    let rest : List View = set views pass (Port (with_lane port)) in
    let seat : ℕ = length rest in
    let next : Whole = more_lanes whole seat in (
      next,
      record {
        within = fair.1.within;
        parts = fair.1.parts;
        lists = fair.1.lists;
        beyond = λ lane le.
            let past = fair.1.beyond lane (omega (arith, le)) in
            (changed_else whole.lanes (Some seat) whole.seat lane (λ e. omega (arith, e, le)) ∙ past.0, past.1);
        seated = seated_more_lanes whole views pass port at fair.1.seated mine.split;
        fits = each_more (Fits next) rest (Outlet (next_outlet port))
            (record {
              sits = subst (λ (l : ℕ). next.seat l ≡ Some seat) (sym mine.split) (changed_here whole.lanes (Some seat) whole.seat);
              of_user = mine.of_user;
              has_room = mine.has_room;
              all = sym (subst (λ (l : ℕ). whole.sent l ≡ []) (sym mine.split) free.1);
            })
            (each_set (Fits next) views pass (Port (with_lane port))
            (record {
              reads = mine.reads;
              of_user = mine.of_user;
              has_room = mine.has_room;
              took = mine.took;
              split = length-append port.known (None ∷ []) ∙ ap (λ (n : ℕ). n + 1) mine.split;
              knows = λ lane bundles is.
                  let was : get_or port.known lane None ≡ Some bundles = sym (get_or-more_none port.known lane) ∙ is in
                  let known = mine.knows lane bundles was in
                  let apart : lane ≢ whole.lanes = λ e.
                  let none : get_or port.known lane None ≡ None =
                  subst (λ (l : ℕ). get_or port.known l None ≡ None) (mine.split ∙ sym e) (get_or-past_none port.known) in absurd cc in
                  (changed_else whole.lanes (Some seat) whole.seat lane apart ∙ known.0, known.1);
              out = out_more_lanes whole seat port mine.out;
            })
            (λ j u other e. fits_more_lanes whole seat pass mine.reads free.0 j u other (fair.1.fits j u e)));
      },
    )

-- ---- an outlet is given back

abbrev less_lanes : Whole → ℕ → Whole
less_lanes whole lane = record whole { seat = changed_at lane None whole.seat }

still_free : (whole : Whole) (lane other : ℕ) → whole.seat other ≡ None → (less_lanes whole lane).seat other ≡ None
still_free whole lane other free = ⊎_elim
    (λ (e : other ≡ lane). subst (λ (l : ℕ). (less_lanes whole lane).seat l ≡ None) (sym e) (changed_here lane None whole.seat))
    (λ (apart : other ≢ lane). changed_else lane None whole.seat other apart ∙ free)
    (cases_eq other lane)

-- a lane that still has an outlet is another one, which had it before
had_outlet : (whole : Whole) (lane other q : ℕ) → (less_lanes whole lane).seat other ≡ Some q → (other ≢ lane) × (whole.seat other ≡ Some q)
had_outlet whole lane other q is =
    let apart : other ≢ lane = λ e.
    let none : (less_lanes whole lane).seat other ≡ None =
    subst (λ (l : ℕ). (less_lanes whole lane).seat l ≡ None) (sym e) (changed_here lane None whole.seat) in absurd cc in
    (apart, sym (changed_else lane None whole.seat other apart) ∙ is)

fits_less_lanes : (whole : Whole) (lane pass other : ℕ) → pass ≡ whole.reader → whole.seat lane ≡ Some other
    → (j : ℕ) (u : View) → j ≢ pass → j ≢ other → Fits whole j u → Fits (less_lanes whole lane) j u
fits_less_lanes whole lane pass other reads sits j Origin apart apart' fit = absurd (apart (fit.0 ∙ sym reads))
fits_less_lanes whole lane pass other reads sits j (Port port) apart apart' fit = absurd (apart (fit.reads ∙ sym reads))
fits_less_lanes whole lane pass other reads sits j (Outlet outlet) apart apart' fit =
    let another : outlet.lane ≢ lane = λ e.
    apart' (same_seat whole lane j other (subst (λ k. whole.seat k ≡ Some j) e fit.sits) sits) in record {
      sits = changed_else lane None whole.seat outlet.lane another ∙ fit.sits;
      of_user = fit.of_user;
      has_room = fit.has_room;
      all = fit.all;
    }
fits_less_lanes whole lane pass other reads sits j Spent apart apart' fit = tt

-- what the port knows with the outlet's list
fits_known : (whole : Whole) (pass other : ℕ) (port : PortView) (outlet : OutletView) → PortFits whole pass port → OutletFits whole other outlet
    → outlet.lane < whole.lanes → PortFits (less_lanes whole outlet.lane) pass (with_known port outlet)
fits_known whole pass other port outlet mine theirs less =
    let within : outlet.lane < length port.known = omega (arith, less, mine.split) in record {
      reads = mine.reads;
      of_user = mine.of_user;
      has_room = mine.has_room;
      took = mine.took;
      split = length-set port.known outlet.lane (Some outlet.sent) ∙ mine.split;
      knows = λ lane bundles is. ⊎_elim
          (λ (e : lane ≡ outlet.lane).
          let there : Some outlet.sent ≡ Some bundles =
          sym (get_or-set_here port.known outlet.lane (Some outlet.sent) None within)
          ∙ subst (λ (l : ℕ). get_or (set port.known outlet.lane (Some outlet.sent)) l None ≡ Some bundles) e is in
          let list : outlet.sent ≡ bundles = cc in (
            subst (λ (l : ℕ). (less_lanes whole outlet.lane).seat l ≡ None) (sym e) (changed_here outlet.lane None whole.seat),
            subst (λ (l : ℕ). whole.sent l ≡ bundles) (sym e) (sym theirs.all ∙ list),
          ))
          (λ (apart : lane ≢ outlet.lane).
          let known = mine.knows lane bundles (sym (get_or-set_else port.known outlet.lane lane (Some outlet.sent) None apart) ∙ is) in
          (still_free whole outlet.lane lane known.0, known.1))
          (cases_eq lane outlet.lane);
      out = λ lane below none.
          let apart : lane ≢ outlet.lane = λ e.
          let there : Some outlet.sent ≡ None =
          sym (get_or-set_here port.known outlet.lane (Some outlet.sent) None within)
          ∙ subst (λ (l : ℕ). get_or (set port.known outlet.lane (Some outlet.sent)) l None ≡ None) e none in absurd cc in
          subst IsSome (sym (changed_else outlet.lane None whole.seat lane apart))
          (mine.out lane below (sym (get_or-set_else port.known outlet.lane lane (Some outlet.sent) None apart) ∙ none));
    }

-- a lane with an outlet is one of the lanes
has_lane : (whole : Whole) (lane other : ℕ) → ((l : ℕ) → whole.lanes ≤ l → (whole.seat l ≡ None) × (whole.sent l ≡ []))
    → whole.seat lane ≡ Some other → lane < whole.lanes
has_lane whole lane other beyond sits = ⊎_elim
    (λ (less : lane < whole.lanes). less)
    (λ (past : whole.lanes ≤ lane). let free = (beyond lane past).0 in absurd cc)
    (cases_lt lane whole.lanes)

-- the outlets of other lanes stay where they are
seated_less_lanes : (whole : Whole) (views : List View) (pass other : ℕ) (port next : PortView) (outlet : OutletView)
    → get_elem? views pass ≡ some (Port port) → get_elem? views other ≡ some (Outlet outlet)
    → ((lane q : ℕ) → whole.seat lane ≡ Some q → IsSeated views q lane)
    → (lane q : ℕ) → (less_lanes whole outlet.lane).seat lane ≡ Some q
    → IsSeated (set (set views pass (Port next)) other Spent) q lane
seated_less_lanes whole views pass other port next outlet at at' seated lane q is =
    let had = had_outlet whole outlet.lane lane q is in
    let was = seated lane q had.1 in
    let apart : q ≢ other = λ e.
    let there : some (Outlet outlet) ≡ some (Outlet was.0) =
    sym at' ∙ subst (λ (k : ℕ). get_elem? views k ≡ some (Outlet was.0)) e was.1 in
    had.0 (sym was.2 ∙ sym (ap (λ (v : View). (outlet_in v).lane) (some-injective (Outlet outlet) (Outlet was.0) there))) in
    stays_seated (set views pass (Port next)) other Spent q lane apart
    (stays_seated views pass (Port next) q lane (port_apart views pass port q lane at was) was)

pub admits : (pass : ℕ) (port : PortView) (other : ℕ) (outlet : OutletView)
    → Merges IsFair pass (Port port) other (Outlet outlet) (joined (Port port) (Outlet outlet)) Spent
admits pass port other outlet items views fair at apart at' =
    let whole : Whole = fair.0 in
    let both : View = Port (with_known port outlet) in
    let was : get_elem? views other ≡ some (Outlet outlet) = sym (set_else views pass other both apart) ∙ at' in
    let mine : PortFits whole pass port = fair.1.fits pass (Port port) at in
    let theirs : OutletFits whole other outlet = fair.1.fits other (Outlet outlet) was in
    let next : Whole = less_lanes whole outlet.lane in
    let below : outlet.lane < whole.lanes = has_lane whole outlet.lane other fair.1.beyond theirs.sits in
    let Now : ℕ → View → Type 0 = λ j u. j ≢ other → Fits next j u in
    let now : EachPass Now (set views pass both) = each_set Now views pass both
    (λ apart'. fits_known whole pass other port outlet mine theirs below)
    (λ j u one e two. fits_less_lanes whole outlet.lane pass other mine.reads theirs.sits j u one two (fair.1.fits j u e)) in (
      next,
      record {
        within = fair.1.within;
        parts = fair.1.parts;
        lists = fair.1.lists;
        beyond = λ lane le.
            let past = fair.1.beyond lane le in (still_free whole outlet.lane lane past.0, past.1);
        seated = seated_less_lanes whole views pass other port (with_known port outlet) outlet at was fair.1.seated;
        fits = each_set (Fits next) (set views pass both) other Spent tt (λ j u two e. now j u e two);
      },
    )
