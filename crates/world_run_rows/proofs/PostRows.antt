-- Worked posts: a user's queue and lanes, what fits them, and why an event is not taken.
use Rattle.std.proofs.Common.{◌≡◌, ℕ, ◌+◌, ◌⊎◌, All, List, [], ◌∷◌, ◌++◌, length, Option, Some, None, inl, inr, refl, sym, ap, ◌∙◌, subst, ⊎_elim, arith}
use Rattle.std.proofs.lemmas.List.Elements.{All-head, All-tail}
use Rattle.cfdp_types.specs.declared.names.Class.TheVariants.{One}
use Rattle.cfdp_types.specs.declared.names.Delivery.TheVariants.{Incomplete}
use Rattle.cfdp_types.specs.declared.names.FileStatus.TheVariants.{Unreported}
use Rattle.gap_list.specs.Runs.{runs_of, runs_from}
use Rattle.indications.specs.declared.bundle.Bundle.{Bundle}
use Rattle.indications.specs.declared.indication.Indication.TheVariants as told
use Rattle.indications.specs.LaneLists.{number_of}
use Rattle.sender_table.specs.Sending.{initial, step, state_of}
use Rattle.txn_events.specs.declared.event.Event.{Event}
use Rattle.txn_events.specs.declared.event.What.TheVariants as what
use Rattle.txn_events.specs.declared.refusal.Refusal.TheVariants as refusal
use Rattle.lane_table.specs.declared.done.Done.{Done}
use Rattle.lane_table.specs.declared.refused.Refused.{Refused}
use Rattle.lane_table.specs.Lane.{State}
use Rattle.lane_table.specs.Steps.{plainly, refusal_at, stepped, answer_of}
use Rattle.lane_table.specs.Keeping.{IsUpTo, Keeps, bundle_of}
use Rattle.lane_table.proofs.StepFacts.{idle_keeps, idle_sound}
use Rattle.lane_table.proofs.RunFacts.{steps_keep}
use Rattle.world_rows.specs.SendingLaneRows.{sending_lane, fresh, key, put, on}
use Rattle.txn_lane.specs.Stepping.{RanOut, WasFull}
use Rattle.user_queues.specs.Queue.{Queue}
use Rattle.world_rows.specs.HistoryRows.{lanes, history, bundle}
use Rattle.world_core.specs.Posts.{Post, Fits, HasRoomFor, IsNoStepOf, IsStepOf, IsToldTo, IsWhyRefused, MayStep, post_stepped, with_told}
use Rattle.world_core.specs.Standing.{IsLaneIn, Layout, lane_in, queue_in}

-- ---- a lane of alice's, and her queue

-- the lane after a Put, and what that tells
abbrev running : State
running = stepped fresh (put One)

abbrev begun : Bundle
begun = bundle 0 0 4 (told.Transaction ∷ [])

-- another lane's bundle
abbrev beside : Bundle
beside = bundle 0 1 6 (told.Transaction ∷ [])

-- her queue with these bundles
abbrev queue : List Bundle → Queue
queue held = record { user = 0; lanes = 2; capacity = 2; held = held }

put_tells : bundle_of running ≡ begun ∷ []
unfolding initial step state_of runs_of runs_from
put_tells = refl

-- a Pump of it tells nothing
pump_tells_nothing : bundle_of (stepped running (on 4 what.Pump)) ≡ []
unfolding initial step state_of runs_of runs_from
pump_tells_nothing = refl

zero_one : (a b : ℕ) → a ≡ b → a ≡ 0 → b ≡ 1 → ⊥
zero_one a b e a_is b_is = omega (arith, e, a_is, b_is)

-- ---- what fits

nothing_kept : Keeps fresh []
nothing_kept = idle_keeps fresh.side 0 0 fresh.source

put_kept : Keeps running (begun ∷ [])
unfolding initial step state_of runs_of runs_from
put_kept = (steps_keep fresh (put One) [] (idle_sound fresh.side 0 0 fresh.source (omega (arith), omega (arith))) nothing_kept tt refl).1

fits_at_first : Fits fresh 0 (queue [])
fits_at_first = record { of_user = refl; of_lane = refl; in_queue = omega (arith); kept = ([], ([], refl), nothing_kept) }

-- while the bundle waits, beside another lane's, and once it was taken
fits_waiting : Fits running 0 (queue (begun ∷ beside ∷ []))
fits_waiting = record { of_user = refl; of_lane = refl; in_queue = omega (arith); kept = (begun ∷ [], ([], refl), put_kept) }

fits_taken : Fits running 0 (queue (beside ∷ []))
fits_taken = record { of_user = refl; of_lane = refl; in_queue = omega (arith); kept = (begun ∷ [], (begun ∷ [], refl), put_kept) }

-- not another user's queue, nor under another number, nor one that is made for no lanes
not_of_bob : Fits fresh 0 (record { user = 1; lanes = 2; capacity = 2; held = [] }) → ⊥
not_of_bob fits = zero_one 0 1 (sym fits.of_user) refl refl

not_by_number : Fits fresh 1 (queue []) → ⊥
not_by_number fits = zero_one 0 1 fits.of_lane refl refl

not_in_queue : Fits fresh 0 (record { user = 0; lanes = 0; capacity = 2; held = [] }) → ⊥
not_in_queue fits = let within = fits.in_queue in omega (arith, within)

rest_of_all : (P : Bundle → Type 0) (xs ys : List Bundle) → All P (xs ++ ys) → All P ys
rest_of_all P [] ys all = all
rest_of_all P (x ∷ xs) ys all = rest_of_all P xs ys (All-tail P x (xs ++ ys) all)

-- nor one that holds what the lane has not told
not_told_yet : Fits fresh 0 (queue (begun ∷ [])) → ⊥
not_told_yet fits =
    let kept = fits.kept in
    let reached : All (λ bundle. IsUpTo None (number_of bundle)) (kept.1.0 ++ begun ∷ []) =
    subst (All (λ (b : Bundle). IsUpTo None (number_of b))) kept.1.1 kept.2.reached in
    All-head (λ (b : Bundle). IsUpTo None (number_of b)) begun [] (rest_of_all (λ (b : Bundle). IsUpTo None (number_of b)) kept.1.0 (begun ∷ []) reached)

-- ---- room

room_for_one : HasRoomFor (queue (beside ∷ [])) (begun ∷ [])
room_for_one = omega (arith)

no_room : HasRoomFor (queue (beside ∷ beside ∷ [])) (begun ∷ []) → ⊥
no_room room = omega (arith, room)

-- where nothing is told none is wanted
none_wanted : HasRoomFor (queue (beside ∷ beside ∷ [])) []
none_wanted = tt

-- ---- what is told

told_behind : with_told (queue (beside ∷ [])) (begun ∷ []) ≡ queue (beside ∷ begun ∷ [])
told_behind = refl

is_told : IsToldTo (queue (beside ∷ [])) (begun ∷ []) (queue (beside ∷ begun ∷ []))
is_told = record { room = omega (arith); told = refl }

nothing_told : IsToldTo (queue (beside ∷ beside ∷ [])) [] (queue (beside ∷ beside ∷ []))
nothing_told = record { room = tt; told = refl }

not_into_full : IsToldTo (queue (beside ∷ beside ∷ [])) (begun ∷ []) (queue (beside ∷ beside ∷ begun ∷ [])) → ⊥
not_into_full is = let room = is.room in omega (arith, room)

-- it was not put in, or in front
one_two : (a b : ℕ) → a ≡ b → a ≡ 1 → b ≡ 2 → ⊥
one_two a b e a_is b_is = omega (arith, e, a_is, b_is)

not_lost : IsToldTo (queue (beside ∷ [])) (begun ∷ []) (queue (beside ∷ [])) → ⊥
not_lost is = one_two 1 2 (ap (λ (q : Queue). length q.held) is.told) refl refl

-- the lane of the bundle at the front
abbrev front_lane : List Bundle → ℕ
front_lane [] = 0
front_lane (x ∷ xs) = x.lane

not_in_front : IsToldTo (queue (beside ∷ [])) (begun ∷ []) (queue (begun ∷ beside ∷ [])) → ⊥
not_in_front is = zero_one 0 1 (ap (λ (q : Queue). front_lane q.held) is.told) refl refl

-- ---- why an event is not taken

-- for a reason of the lane
by_the_lane : IsWhyRefused fresh (queue []) (on 4 what.Report) (plainly refusal.NoTransaction)
by_the_lane = inl refl

-- for want of memory, and since the queue is full
by_memory : IsWhyRefused fresh (queue []) (put One) (plainly refusal.NoMemory)
unfolding initial step state_of runs_of runs_from
by_memory = inr (inl (refl, refl))

by_the_queue : IsWhyRefused fresh (queue (beside ∷ beside ∷ [])) (put One) (plainly refusal.QueueFull)
unfolding initial step state_of runs_of runs_from
by_the_queue = inr (inr ((refl, refl, (begun, refl)), refl))

-- for none of the three reasons
why_not : (state : State) (held : Queue) (event : Event) (why : Refused) → (refusal_at state event ≡ Some why → ⊥) → (RanOut state event why → ⊥)
    → (WasFull state event why × (length held.held ≡ held.capacity) → ⊥) → IsWhyRefused state held event why → ⊥
why_not state held event why lane memory full given =
    ⊎_elim lane (λ (rest : RanOut state event why ⊎ (WasFull state event why × (length held.held ≡ held.capacity))). ⊎_elim memory full rest) given

none_is_some : (found : Option Refused) (why : Refused) → found ≡ None → found ≡ Some why → ⊥
none_is_some found why none some = cc

full_is_memory : refusal.QueueFull ≡ refusal.NoMemory → ⊥
full_is_memory e = cc

-- not for the queue where it has room
only_where_full : (state : State) (held : Queue) (event : Event) → refusal_at state event ≡ None → (length held.held ≡ held.capacity → ⊥)
    → IsWhyRefused state held event (plainly refusal.QueueFull) → ⊥
only_where_full state held event free room =
    why_not state held event (plainly refusal.QueueFull)
    (λ refused. none_is_some (refusal_at state event) (plainly refusal.QueueFull) free refused)
    (λ memory. full_is_memory (ap (λ (r : Refused). r.why) memory.1)) (λ full. room full.1)

room_left : IsWhyRefused fresh (queue (beside ∷ [])) (put One) (plainly refusal.QueueFull) → ⊥
unfolding initial step state_of runs_of runs_from
room_left = only_where_full fresh (queue (beside ∷ [])) (put One) refl (λ is. one_two 1 2 is refl refl)

-- nor where nothing is told that would want room
nothing_is_some : (told : Bundle) (bundles : List Bundle) → bundles ≡ [] → bundles ≡ told ∷ [] → ⊥
nothing_is_some told bundles nothing some = cc

only_where_told : (state : State) (held : Queue) (event : Event) → refusal_at state event ≡ None → bundle_of (stepped state event) ≡ []
    → IsWhyRefused state held event (plainly refusal.QueueFull) → ⊥
only_where_told state held event free nothing =
    why_not state held event (plainly refusal.QueueFull)
    (λ refused. none_is_some (refusal_at state event) (plainly refusal.QueueFull) free refused)
    (λ memory. full_is_memory (ap (λ (r : Refused). r.why) memory.1))
    (λ full. nothing_is_some full.0.2.0 (bundle_of (stepped state event)) nothing full.0.2.1)

nothing_to_put : IsWhyRefused running (queue (beside ∷ beside ∷ [])) (on 4 what.Pump) (plainly refusal.QueueFull) → ⊥
unfolding initial step state_of runs_of runs_from
nothing_to_put = only_where_told running (queue (beside ∷ beside ∷ [])) (on 4 what.Pump) refl pump_tells_nothing

-- nor for anything else where the lane refuses it
same_why : (found : Option Refused) (why other : Refused) → found ≡ Some why → found ≡ Some other → why ≡ other
same_why found why other is is' = cc

some_is_none : (found : Option Refused) (why : Refused) → found ≡ Some why → found ≡ None → ⊥
some_is_none found why some none = cc

only_as_refused : (state : State) (held : Queue) (event : Event) (why other : Refused) → refusal_at state event ≡ Some why → (why ≡ other → ⊥)
    → IsWhyRefused state held event other → ⊥
only_as_refused state held event why other refused apart =
    why_not state held event other (λ is. apart (same_why (refusal_at state event) why other refused is))
    (λ memory. some_is_none (refusal_at state event) why refused memory.0)
    (λ full. some_is_none (refusal_at state event) why refused full.0.0)

unknown_is_memory : refusal.NoTransaction ≡ refusal.NoMemory → ⊥
unknown_is_memory e = cc

lane_comes_first : IsWhyRefused fresh (queue []) (on 4 what.Report) (plainly refusal.NoMemory) → ⊥
lane_comes_first =
    only_as_refused fresh (queue []) (on 4 what.Report) (plainly refusal.NoTransaction) (plainly refusal.NoMemory) refl
    (λ e. unknown_is_memory (ap (λ (r : Refused). r.why) e))

-- ---- a step of a user's lane

abbrev second : State
second = sending_lane 1 0 1

abbrev post : Post
post = record { queue = queue (beside ∷ []); lanes = fresh ∷ second ∷ [] }

-- the lane is another one, and what it tells waits
stepped_first : post_stepped post 0 running ≡ record { queue = queue (beside ∷ begun ∷ []); lanes = running ∷ second ∷ [] }
unfolding initial step state_of runs_of runs_from
stepped_first = refl

stepped_second : post_stepped post 1 (stepped second (put One)) ≡ record { queue = queue (beside ∷ beside ∷ []); lanes = fresh ∷ stepped second (put One) ∷ [] }
unfolding initial step state_of runs_of runs_from
stepped_second = refl

-- what it gives but for what is told
abbrev done : Done
done = record { key = key 4; pdus = (answer_of running).pdus; timers = (answer_of running).timers; deposit = None }

is_step : IsStepOf post 0 (put One) (record { queue = queue (beside ∷ begun ∷ []); lanes = running ∷ second ∷ [] }) done
unfolding initial step state_of runs_of runs_from
is_step = record {
  state = fresh;
  is = refl;
  free = refl;
  room = omega (arith);
  done_is = record { key = refl; pdus = refl; timers = refl; deposit = refl };
  new_is = refl;
}

-- the user does not stay as before, and the queue was not full
some_state : (one other : State) → Some one ≡ Some other → one ≡ other
some_state one other e = cc

told_of_put : (state : State) → Some fresh ≡ Some state → bundle_of (stepped state (put One)) ≡ begun ∷ []
told_of_put state is = ap (λ (s : State). bundle_of (stepped s (put One))) (sym (some_state fresh state is)) ∙ put_tells

no_step_at_all : IsStepOf post 0 (put One) post done → ⊥
no_step_at_all was =
    one_two 1 2
    (ap (λ (p : Post). length p.queue.held) was.new_is
    ∙ ap (λ (l : List Bundle). length ((beside ∷ []) ++ l)) (told_of_put was.state was.is))
    refl refl

abbrev full_post : Post
full_post = record { queue = queue (beside ∷ beside ∷ []); lanes = fresh ∷ second ∷ [] }

no_step_of_full : (new : Post) → IsStepOf full_post 0 (put One) new done → ⊥
no_step_of_full new was = no_room_in (subst (HasRoomFor full_post.queue) (told_of_put was.state was.is) was.room)
  where
    no_room_in : HasRoomFor (queue (beside ∷ beside ∷ [])) (begun ∷ []) → ⊥
    no_room_in room = omega (arith, room)

is_no_step : IsNoStepOf post 0 (on 4 what.Report) post (plainly refusal.NoTransaction)
is_no_step = record { state = fresh; is = refl; why = inl refl; same = refl }

-- what is refused leaves the user as it was
nothing_changes : IsNoStepOf post 0 (on 4 what.Report) (record post { queue = queue [] }) (plainly refusal.NoTransaction) → ⊥
nothing_changes was = zero_one 0 1 (ap (λ (p : Post). length p.queue.held) was.same) refl refl

first_may_step : MayStep post 0
first_may_step = record {
  state = fresh;
  is = refl;
  fits = record { of_user = refl; of_lane = refl; in_queue = omega (arith); kept = ([], ([], refl), nothing_kept) };
}

-- there is no third lane
third_may_not : MayStep post 2 → ⊥
third_may_not may = let is = may.is in absurd cc

-- ---- where users stand after a history

-- one lane of alice's and two of bob's
abbrev layout : Layout
layout = record { users = 2; lanes_of = λ user. user + 1; capacity = 3; lanes = lanes }

lane_is_one : IsLaneIn layout 0 0
lane_is_one = record { user_is = omega (arith); lane_is = omega (arith) }

no_second_of_alice : IsLaneIn layout 0 1 → ⊥
no_second_of_alice is = let within = is.lane_is in omega (arith, within)

no_third_user : IsLaneIn layout 2 0 → ⊥
no_third_user is = let within = is.user_is in omega (arith, within)

lane_of_alice : (lane_in layout history 0 0).last ≡ Some 4
lane_of_alice = refl

lane_of_bob : (lane_in layout history 1 0).last ≡ Some 5
lane_of_bob = refl

-- each queue is its user's, for the user's lanes, and holds what waits
queue_of_alice : queue_in layout history 0 ≡ record {
  user = 0;
  lanes = 1;
  capacity = 3;
  held = bundle 0 0 4 (told.TransactionFinished 15 Incomplete Unreported ∷ []) ∷ beside ∷ [];
}
unfolding initial step state_of runs_of runs_from
queue_of_alice = refl

queue_of_bob : queue_in layout history 1 ≡ record { user = 1; lanes = 2; capacity = 3; held = bundle 1 0 5 (told.Transaction ∷ []) ∷ [] }
unfolding initial step state_of runs_of runs_from
queue_of_bob = refl
