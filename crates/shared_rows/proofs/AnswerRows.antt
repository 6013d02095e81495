-- Worked answers of the entity that threads share.
use Rattle.std.proofs.Common.{◌≡◌, ℕ, [], Result, Ok, Err, inl, inr, refl, sym, ap, ◌∙◌, ⊎_elim, arith}
use Rattle.atomic_table.specs.Seated.{TableId}
use Rattle.cfdp_types.specs.declared.image.Image.{Image}
use Rattle.cfdp_types.specs.declared.key.TxnKey.{TxnKey}
use Rattle.cfdp_types.specs.declared.names.Class.TheVariants.{One}
use Rattle.gap_list.specs.Runs.{runs_of, runs_from}
use Rattle.receiver_table.specs.Reception.{initial, step, state_of}
use Rattle.txn_events.specs.declared.event.Event.{Event}
use Rattle.txn_events.specs.declared.event.What.TheVariants as what
use Rattle.txn_events.specs.declared.refusal.Refusal.{Refusal}
use Rattle.txn_events.specs.declared.refusal.Refusal.TheVariants as refusal
use Rattle.lane_table.specs.declared.done.Done.{Done}
use Rattle.lane_table.specs.declared.refused.Refused.{Refused}
use Rattle.lane_table.specs.Steps.{image_of, plainly}
use Rattle.lane_table.specs.Keeping.{sent_after}
use Rattle.world_rows.specs.SendingLaneRows.{put, on}
use Rattle.world_rows.specs.ReceivingLaneRows.{fresh, key, storing, image, image_waits, other_stamp, other_key}
use Rattle.entity_routing.specs.Routes.{Routed}
use Rattle.entity_routing.specs.declared.place.Place.{Place}
use Rattle.entity_routing.specs.declared.refusal.RouteRefusal.{RouteRefusal}
use Rattle.entity_routing.specs.declared.refusal.RouteRefusal.TheVariants as routes
use Rattle.shared_lanes.specs.Held.{HeldValue, HasStepped}
use Rattle.entity_parts.specs.declared.refusal.EntityRefusal.{EntityRefusal}
use Rattle.entity_parts.specs.declared.refusal.EntityRefusal.TheVariants as answer
use Rattle.shared_entity.specs.Answering.{IsAt, MayGive, MayAnswerAt, MayAnswer, MayBeImage, MayLackImage, MayGiveImage}
use Rattle.shared_rows.proofs.HeldRows.{queue, outlet, at_first, after_put, done, behind_at_first, not_bobs_queue, answers_taken, answers_refused}
use Rattle.shared_rows.proofs.ImageRows.{came, stands, own_file}

-- ---- what lies at a place

abbrev pub place : ℕ → ℕ → Place
place user lane = record { user = user; lane = lane }

at_its_place : IsAt queue (place 0 0) at_first
at_its_place = record { behind = behind_at_first; of_user = refl; of_lane = refl }

not_at_bobs : IsAt queue (place 1 0) at_first → ⊥
not_at_bobs is = let user : 0 ≡ 1 = is.of_user in omega (arith, user)

not_at_another : IsAt queue (place 0 1) at_first → ⊥
not_at_another is = let lane : 0 ≡ 1 = is.of_lane in omega (arith, lane)

-- nor what no lock may guard
not_with_bobs_queue : IsAt queue (place 0 0) (record at_first { outlet = record (outlet 0 0 []) { queue = queue 1 } }) → ⊥
not_with_bobs_queue is = not_bobs_queue is.behind

-- ---- what a gate gives

-- an event that goes to alice's first lane
abbrev goes : Event → Routed
goes event = record { place = place 0 0; event = event }

gives_done : MayGive queue HasStepped (goes (put One)) (Ok done)
gives_done = record { before = at_first; after = after_put; there = at_its_place; gave = answers_taken }

-- gates that answer the event, and the user, the lane and the queue of what lay there before
abbrev tells_event : HeldValue → Event → Event → HeldValue → Type 0
tells_event old event answer new = answer ≡ event

abbrev tells : (HeldValue → ℕ) → HeldValue → Event → ℕ → HeldValue → Type 0
tells number_of old event answer new = answer ≡ number_of old

put_is_report : on 4 what.Report ≡ put One → ⊥
put_is_report e = cc

not_of_another_event : MayGive queue tells_event (goes (put One)) (on 4 what.Report) → ⊥
not_of_another_event may = put_is_report may.gave

not_of_bobs_lane : MayGive queue (tells (λ held. held.lane.user)) (goes (put One)) 1 → ⊥
not_of_bobs_lane may = let user : 1 ≡ 0 = may.gave ∙ may.there.of_user in omega (arith, user)

not_of_another_lane : MayGive queue (tells (λ held. held.lane.lane)) (goes (put One)) 1 → ⊥
not_of_another_lane may = let lane : 1 ≡ 0 = may.gave ∙ may.there.of_lane in omega (arith, lane)

not_over_bobs_queue : MayGive queue (tells (λ held. held.outlet.queue.words)) (goes (put One)) 1 → ⊥
not_over_bobs_queue may =
    let user : 1 ≡ 0 = may.gave ∙ ap (λ (q : TableId). q.words) may.there.behind.of_queue ∙ may.there.of_user in omega (arith, user)

-- ---- what is answered at a place

answers_done : MayAnswerAt queue HasStepped (goes (put One)) (Ok (Ok done))
answers_done = record { given = gives_done; wrong = tt }

-- what the lane refuses is an answer of the gate
answers_refusal : MayAnswerAt queue HasStepped (goes (on 4 what.Report)) (Ok (Err (plainly refusal.NoTransaction)))
answers_refusal = record { given = record { before = at_first; after = at_first; there = at_its_place; gave = answers_refused }; wrong = tt }

answers_wrong_lane : MayAnswerAt queue HasStepped (goes (put One)) (Err answer.WrongLane)
answers_wrong_lane = record { given = tt; wrong = refl }

route_is_wrong_lane : (why : RouteRefusal) → answer.Route why ≡ answer.WrongLane → ⊥
route_is_wrong_lane why e = cc

lane_is_wrong_lane : (refused : Refused) → answer.Lane refused ≡ answer.WrongLane → ⊥
lane_is_wrong_lane refused e = cc

no_route_there : MayAnswerAt queue HasStepped (goes (put One)) (Err (answer.Route routes.NoRoute)) → ⊥
no_route_there may = route_is_wrong_lane routes.NoRoute may.wrong

not_past_the_gate : (refused : Refused) → MayAnswerAt queue HasStepped (goes (put One)) (Err (answer.Lane refused)) → ⊥
not_past_the_gate refused may = lane_is_wrong_lane refused may.wrong

answer_of_another_event : MayAnswerAt queue tells_event (goes (put One)) (Ok (on 4 what.Report)) → ⊥
answer_of_another_event may = not_of_another_event may.given

-- ---- what is answered by the route

routed : MayAnswer queue HasStepped (Ok (goes (put One))) (Ok (Ok done))
routed = answers_done

routed_amiss : MayAnswer queue HasStepped (Ok (goes (put One))) (Err answer.WrongLane)
routed_amiss = answers_wrong_lane

unrouted : MayAnswer queue HasStepped (Err routes.NotYours) (Err (answer.Route routes.NotYours))
unrouted = refl

-- with a route there is no refusal of routes, and without one there is no other
no_refusal_of_routes : MayAnswer queue HasStepped (Ok (goes (put One))) (Err (answer.Route routes.NotYours)) → ⊥
no_refusal_of_routes may = route_is_wrong_lane routes.NotYours may.wrong

no_wrong_lane : MayAnswer queue HasStepped (Err routes.NotYours) (Err answer.WrongLane) → ⊥
no_wrong_lane may = cc

no_other_route : MayAnswer queue HasStepped (Err routes.NotYours) (Err (answer.Route routes.NoRoute)) → ⊥
no_other_route may = cc

no_answer_of_a_gate : (given : Result Done Refused) → MayAnswer queue HasStepped (Err routes.NotYours) (Ok given) → ⊥
no_answer_of_a_gate given may = cc

-- ---- images

-- the lane that waits for its file to be kept, with its outlet
abbrev pub waits : HeldValue
waits = record { lane = storing; outlet = outlet 0 2 (sent_after fresh came) }

waits_there : IsAt queue (place 0 2) waits
waits_there = record {
  behind = record { sound = stands.0; of_queue = refl; of_user = refl; of_lane = refl; kept = stands.1 };
  of_user = refl;
  of_lane = refl;
}

is_image : MayBeImage queue (place 0 2) (key 5) 2 image
is_image = record { held = waits; there = waits_there; is_given = image_waits; is_own = own_file }

-- not of what lies behind another user's lock, or another lane's
not_at_bobs_lock : (may : MayBeImage queue (place 1 2) (key 5) 2 image) → may.held ≡ waits → ⊥
not_at_bobs_lock may is =
    let user : 0 ≡ 1 = ap (λ (h : HeldValue). h.lane.user) (sym is) ∙ may.there.of_user in omega (arith, user)

not_at_another_lock : (may : MayBeImage queue (place 0 3) (key 5) 2 image) → may.held ≡ waits → ⊥
not_at_another_lock may is =
    let lane : 2 ≡ 3 = ap (λ (h : HeldValue). h.lane.lane) (sym is) ∙ may.there.of_lane in omega (arith, lane)

-- nor by another stamp, nor under another key, nor another file
no_image : (found : Result Image Refusal) (given : Image) (why : Refusal) → found ≡ Err why → found ≡ Ok given → ⊥
no_image found given why none some = cc

not_by_another_stamp : (may : MayBeImage queue (place 0 2) (key 5) 1 image) → may.held ≡ waits → ⊥
not_by_another_stamp may is =
    no_image (image_of storing (key 5) 1) image refusal.StaleStored other_stamp (ap (λ (h : HeldValue). image_of h.lane (key 5) 1) (sym is) ∙ may.is_given)

not_under_another_key : (may : MayBeImage queue (place 0 2) (key 6) 2 image) → may.held ≡ waits → ⊥
not_under_another_key may is =
    no_image (image_of storing (key 6) 2) image refusal.StaleStored other_key (ap (λ (h : HeldValue). image_of h.lane (key 6) 2) (sym is) ∙ may.is_given)

not_own_of_another : (may : MayBeImage queue (place 0 2) (key 6) 2 image) → may.is_own.reception.key ≡ key 5 → ⊥
not_own_of_another may is =
    let number : 5 ≡ 6 = ap (λ (k : TxnKey). k.seq) (sym is ∙ may.is_own.key_is) in omega (arith, number)

-- why there is none: by another stamp, and for want of memory
lacks_by_stamp : MayLackImage queue (place 0 2) (key 5) 1 (answer.Lane (plainly refusal.StaleStored))
lacks_by_stamp = record { held = waits; there = waits_there; refused = refusal.StaleStored; is_refused = refl; is_why = inl other_stamp }

lacks_for_memory : MayLackImage queue (place 0 2) (key 5) 2 (answer.Lane (plainly refusal.NoMemory))
unfolding initial step state_of runs_of runs_from
lacks_for_memory = record { held = waits; there = waits_there; refused = refusal.NoMemory; is_refused = refl; is_why = inr (refl, refl) }

-- not of another user's lock, nor as stale where the file waits, nor is another lane a reason of the lane
not_lacked_at_bobs : (may : MayLackImage queue (place 1 2) (key 5) 1 (answer.Lane (plainly refusal.StaleStored))) → may.held ≡ waits → ⊥
not_lacked_at_bobs may is =
    let user : 0 ≡ 1 = ap (λ (h : HeldValue). h.lane.user) (sym is) ∙ may.there.of_user in omega (arith, user)

abbrev why_in : EntityRefusal → Refusal
why_in (answer.Lane refused) = refused.why
why_in other = refusal.NoTransaction

stale_is_memory : (refused : Refusal) → refusal.StaleStored ≡ refused → refused ≡ refusal.NoMemory → ⊥
stale_is_memory refused stale memory = cc

not_stale : (may : MayLackImage queue (place 0 2) (key 5) 2 (answer.Lane (plainly refusal.StaleStored))) → may.held ≡ waits → ⊥
not_stale may is = ⊎_elim
    (λ none. no_image (image_of may.held.lane (key 5) 2) image may.refused none (ap (λ (h : HeldValue). image_of h.lane (key 5) 2) is ∙ image_waits))
    (λ memory. stale_is_memory may.refused (ap why_in may.is_refused) memory.0)
    may.is_why

not_lacked_by_wrong_lane : MayLackImage queue (place 0 2) (key 5) 1 answer.WrongLane → ⊥
not_lacked_by_wrong_lane may = lane_is_wrong_lane (plainly may.refused) (sym may.is_refused)

-- what is answered where the transaction is
gives_image : MayGiveImage queue (key 5) 2 (Ok (place 0 2)) (Ok image)
gives_image = (is_image, tt)

gives_none : MayGiveImage queue (key 5) 1 (Ok (place 0 2)) (Err (answer.Lane (plainly refusal.StaleStored)))
gives_none = (tt, inr lacks_by_stamp)

gives_wrong_lane : MayGiveImage queue (key 5) 2 (Ok (place 0 2)) (Err answer.WrongLane)
gives_wrong_lane = (tt, inl refl)

no_route_to_it : MayGiveImage queue (key 5) 2 (Err routes.NoRoute) (Err (answer.Route routes.NoRoute))
no_route_to_it = refl

-- not from another user's lock
no_image_at_bobs : (may : MayGiveImage queue (key 5) 2 (Ok (place 1 2)) (Ok image)) → may.0.held ≡ waits → ⊥
no_image_at_bobs may is = not_at_bobs_lock may.0 is

-- with a route there is no refusal of routes, and without one there is nothing else
route_is_lane : (why : RouteRefusal) (refused : Refused) → answer.Route why ≡ answer.Lane refused → ⊥
route_is_lane why refused e = cc

no_image_by_a_route : MayGiveImage queue (key 5) 2 (Ok (place 0 2)) (Err (answer.Route routes.NoRoute)) → ⊥
no_image_by_a_route may = ⊎_elim
    (λ wrong. route_is_wrong_lane routes.NoRoute wrong)
    (λ (lacks : MayLackImage queue (place 0 2) (key 5) 2 (answer.Route routes.NoRoute)). route_is_lane routes.NoRoute (plainly lacks.refused) lacks.is_refused)
    may.1

no_image_unrouted : MayGiveImage queue (key 5) 2 (Err routes.NoRoute) (Ok image) → ⊥
no_image_unrouted may = cc

no_wrong_lane_unrouted : MayGiveImage queue (key 5) 2 (Err routes.NoRoute) (Err answer.WrongLane) → ⊥
no_wrong_lane_unrouted may = cc

no_other_route_to_it : MayGiveImage queue (key 5) 2 (Err routes.NoRoute) (Err (answer.Route routes.NotYours)) → ⊥
no_other_route_to_it may = cc
