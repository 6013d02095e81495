-- Worked lanes with their outlets: which ones may lie behind a lock, and what a step does to both.
use Rattle.std.proofs.Common.{◌≡◌, ◌⊎◌, ℕ, List, [], ◌∷◌, length, Option, Some, None, Ok, Err, inl, inr, refl, ap, ⊎_elim, arith}
use Rattle.std.proofs.lemmas.List.Elements.{All-head}
use Rattle.atomic_table.specs.Seated.{TableId}
use Rattle.cfdp_types.specs.declared.key.TxnKey.{TxnKey}
use Rattle.cfdp_types.specs.declared.names.Class.TheVariants.{One}
use Rattle.gap_list.specs.Runs.{runs_of, runs_from}
use Rattle.indications.specs.declared.bundle.Bundle.{Bundle}
use Rattle.indications.specs.declared.indication.Indication.TheVariants as told
use Rattle.indications.specs.LaneLists.{number_of}
use Rattle.sender_table.specs.Sending.{initial, step, state_of}
use Rattle.txn_events.specs.declared.event.Event.{Event}
use Rattle.txn_events.specs.declared.event.What.TheVariants as what
use Rattle.txn_events.specs.declared.refusal.Refusal.TheVariants as refusal
use Rattle.lane_table.specs.declared.done.Done.{Done}
use Rattle.lane_table.specs.declared.refused.Refused.{Refused}
use Rattle.lane_table.specs.Lane.{State, IsSound}
use Rattle.lane_table.specs.Steps.{plainly, refusal_at, stepped, answer_of}
use Rattle.lane_table.specs.Keeping.{IsUpTo}
use Rattle.lane_table.proofs.StepFacts.{idle_keeps, idle_sound}
use Rattle.lane_table.proofs.RunFacts.{steps_keep}
use Rattle.lane_table.proofs.SentFacts.{some_is}
use Rattle.world_rows.specs.SendingLaneRows.{fresh, key, put, on}
use Rattle.world_rows.specs.LaneKeepingRows.{bundle}
use Rattle.txn_lane.specs.Stepping.{RanOut, WasFull}
use Rattle.user_queues.specs.Names.{no_queue}
use Rattle.user_queues.specs.Shared.{OutletEnd}
use Rattle.shared_lanes.specs.Held.{HeldValue, IsBehindLock, with_bundles, HasTaken, HasRefused, HasStepped}

-- ---- a lane of alice's with its outlet

-- a queue for each user
abbrev pub queue : ℕ → TableId
queue user = record (no_queue user) { words = user }

-- an outlet of a user's queue, through which these bundles went
abbrev pub outlet : ℕ → ℕ → List Bundle → OutletEnd
outlet user lane sent = record { queue = queue user; knows = record { user = user; room = 2; lane = lane; sent = sent } }

-- her first lane, to which nothing has happened
abbrev pub at_first : HeldValue
at_first = record { lane = fresh; outlet = outlet 0 0 [] }

-- after a Put, and what that tells
abbrev pub running : State
running = stepped fresh (put One)

abbrev pub begun : Bundle
begun = bundle 4 (told.Transaction ∷ [])

abbrev pub after_put : HeldValue
after_put = record { lane = running; outlet = outlet 0 0 (begun ∷ []) }

-- ---- what may lie behind a lock

first_sound : IsSound fresh
first_sound = idle_sound fresh.side 0 0 fresh.source (omega (arith), omega (arith))

pub behind_at_first : IsBehindLock queue at_first
behind_at_first = record { sound = first_sound; of_queue = refl; of_user = refl; of_lane = refl; kept = idle_keeps fresh.side 0 0 fresh.source }

pub behind_after_put : IsBehindLock queue after_put
unfolding initial step state_of runs_of runs_from
behind_after_put =
    let both = steps_keep fresh (put One) [] first_sound behind_at_first.kept tt refl in
    record { sound = both.0; of_queue = refl; of_user = refl; of_lane = refl; kept = both.1 }

-- not with another user's queue, with another user's outlet, or with that of another lane
pub not_bobs_queue : IsBehindLock queue (record at_first { outlet = record (outlet 0 0 []) { queue = queue 1 } }) → ⊥
not_bobs_queue is = let user : 1 ≡ 0 = ap (λ (q : TableId). q.words) is.of_queue in omega (arith, user)

not_bobs_outlet : IsBehindLock queue (record at_first { outlet = record (outlet 1 0 []) { queue = queue 0 } }) → ⊥
not_bobs_outlet is = let user : 1 ≡ 0 = is.of_user in omega (arith, user)

not_of_another_lane : IsBehindLock queue (record at_first { outlet = outlet 0 1 [] }) → ⊥
not_of_another_lane is = let lane : 1 ≡ 0 = is.of_lane in omega (arith, lane)

-- nor where more was sent than the lane told, or less
not_before_the_put : IsBehindLock queue (record after_put { lane = fresh }) → ⊥
not_before_the_put is = All-head (λ (b : Bundle). IsUpTo None (number_of b)) begun [] is.kept.reached

not_unsent : IsBehindLock queue (record after_put { outlet = outlet 0 0 [] }) → ⊥
unfolding initial step state_of runs_of runs_from
not_unsent is = let count : 0 ≡ 1 = ap length (is.kept.current 4 refl) in omega (arith, count)

-- nor a lane that has a number and no transaction
not_unsound : IsBehindLock queue (record at_first { lane = record fresh { last = Some 4 } }) → ⊥
not_unsound is = is.sound.run

-- ---- what is sent

one_sent : with_bundles (outlet 0 0 []) (begun ∷ []) ≡ outlet 0 0 (begun ∷ [])
one_sent = refl

-- behind what was sent, in order
sent_behind : with_bundles (outlet 0 0 (begun ∷ [])) (bundle 8 [] ∷ bundle 12 [] ∷ []) ≡ outlet 0 0 (begun ∷ bundle 8 [] ∷ bundle 12 [] ∷ [])
sent_behind = refl

none_sent : with_bundles (outlet 0 0 (begun ∷ [])) [] ≡ outlet 0 0 (begun ∷ [])
none_sent = refl

-- ---- an event that is taken

-- what a step of number 4 gives but for what is told
abbrev done_at : State → Done
done_at state = record { key = key 4; pdus = (answer_of state).pdus; timers = (answer_of state).timers; deposit = None }

abbrev pub done : Done
done = done_at running

-- a Put tells of it, in one bundle
pub put_taken : HasTaken at_first (put One) done after_put
unfolding initial step state_of runs_of runs_from
put_taken = record {
  taken = record { free = refl; next_is = refl; done_is = record { key = refl; pdus = refl; timers = refl; deposit = refl } };
  told = refl;
}

-- a Pump tells nothing
abbrev pumped : State
pumped = stepped running (on 4 what.Pump)

pump_taken : HasTaken after_put (on 4 what.Pump) (done_at pumped) (record after_put { lane = pumped })
unfolding initial step state_of runs_of runs_from
pump_taken = record {
  taken = record { free = refl; next_is = refl; done_is = record { key = refl; pdus = refl; timers = refl; deposit = refl } };
  told = refl;
}

-- how many bundles went through an outlet
abbrev sent_by : OutletEnd → ℕ
sent_by end = length end.knows.sent

-- not without telling, nor by telling twice, nor through another queue
not_untold : HasTaken at_first (put One) done (record after_put { outlet = outlet 0 0 [] }) → ⊥
unfolding initial step state_of runs_of runs_from
not_untold has = let count : 0 ≡ 1 = ap sent_by has.told in omega (arith, count)

not_told_twice : HasTaken at_first (put One) done (record after_put { outlet = outlet 0 0 (begun ∷ begun ∷ []) }) → ⊥
unfolding initial step state_of runs_of runs_from
not_told_twice has = let count : 2 ≡ 1 = ap sent_by has.told in omega (arith, count)

not_through_another : HasTaken at_first (put One) done (record after_put { outlet = record after_put.outlet { queue = queue 1 } }) → ⊥
not_through_another has = let user : 1 ≡ 0 = ap (λ (o : OutletEnd). o.queue.words) has.told in omega (arith, user)

-- nor where the lane stays as it was, or gives another key
not_unmoved : HasTaken at_first (put One) done (record after_put { lane = fresh }) → ⊥
not_unmoved has = let count : 0 ≡ 1 = ap (λ (s : State). length s.journal) has.taken.next_is in omega (arith, count)

not_under_another_key : HasTaken at_first (put One) (record done { key = key 8 }) after_put → ⊥
not_under_another_key has =
    let number : 4 ≡ 8 = ap (λ (k : TxnKey). k.seq) (some_is (key 4) (key 8) has.taken.done_is.key) in omega (arith, number)

-- nor what the lane refuses
some_is_none : (found : Option Refused) (why : Refused) → found ≡ Some why → found ≡ None → ⊥
some_is_none found why some none = cc

not_refused : (given : Done) (new : HeldValue) → HasTaken at_first (on 4 what.Report) given new → ⊥
not_refused given new has = some_is_none (refusal_at fresh (on 4 what.Report)) (plainly refusal.NoTransaction) refl has.taken.free

-- ---- an event that is not taken

-- for a reason of the lane, for want of memory, and since the queue was full
refused_by_the_lane : HasRefused at_first (on 4 what.Report) (plainly refusal.NoTransaction) at_first
refused_by_the_lane = record { why = inl refl; same = refl }

refused_for_memory : HasRefused at_first (put One) (plainly refusal.NoMemory) at_first
unfolding initial step state_of runs_of runs_from
refused_for_memory = record { why = inr (inl (refl, refl)); same = refl }

refused_for_room : HasRefused at_first (put One) (plainly refusal.QueueFull) at_first
unfolding initial step state_of runs_of runs_from
refused_for_room = record { why = inr (inr (refl, refl, (begun, refl))); same = refl }

-- neither the lane nor the outlet is another then
not_with_a_bundle : HasRefused at_first (on 4 what.Report) (plainly refusal.NoTransaction) (record at_first { outlet = after_put.outlet }) → ⊥
not_with_a_bundle has = let count : 1 ≡ 0 = ap (λ (h : HeldValue). sent_by h.outlet) has.same in omega (arith, count)

not_with_a_step : HasRefused at_first (on 4 what.Report) (plainly refusal.NoTransaction) (record at_first { lane = running }) → ⊥
not_with_a_step has = let count : 1 ≡ 0 = ap (λ (h : HeldValue). length h.lane.journal) has.same in omega (arith, count)

-- no reason is another than these three
only_so : (old new : HeldValue) (event : Event) (refused : Refused) → (refusal_at old.lane event ≡ Some refused → ⊥)
    → (RanOut old.lane event refused → ⊥) → (WasFull old.lane event refused → ⊥) → HasRefused old event refused new → ⊥
only_so old new event refused lane memory full has =
    ⊎_elim lane (λ (rest : RanOut old.lane event refused ⊎ WasFull old.lane event refused). ⊎_elim memory full rest) has.why

none_is_some : (found : Option Refused) (why : Refused) → found ≡ None → found ≡ Some why → ⊥
none_is_some found why none some = cc

busy_is_memory : refusal.LaneBusy ≡ refusal.NoMemory → ⊥
busy_is_memory e = cc

busy_is_full : refusal.LaneBusy ≡ refusal.QueueFull → ⊥
busy_is_full e = cc

not_without_reason : HasRefused at_first (put One) (plainly refusal.LaneBusy) at_first → ⊥
unfolding initial step state_of runs_of runs_from
not_without_reason =
    only_so at_first at_first (put One) (plainly refusal.LaneBusy) (none_is_some (refusal_at fresh (put One)) (plainly refusal.LaneBusy) refl)
    (λ memory. busy_is_memory (ap (λ (r : Refused). r.why) memory.1)) (λ full. busy_is_full (ap (λ (r : Refused). r.why) full.1))

-- nor does a queue stand in the way where nothing is told
full_is_memory : refusal.QueueFull ≡ refusal.NoMemory → ⊥
full_is_memory e = cc

not_for_room : HasRefused after_put (on 4 what.Pump) (plainly refusal.QueueFull) after_put → ⊥
unfolding initial step state_of runs_of runs_from
not_for_room =
    only_so after_put after_put (on 4 what.Pump) (plainly refusal.QueueFull)
    (none_is_some (refusal_at running (on 4 what.Pump)) (plainly refusal.QueueFull) refl)
    (λ memory. full_is_memory (ap (λ (r : Refused). r.why) memory.1))
    (λ full. let count : 0 ≡ 1 = ap length full.2.1 in omega (arith, count))

-- ---- what a step answers

pub answers_taken : HasStepped at_first (put One) (Ok done) after_put
answers_taken = put_taken

pub answers_refused : HasStepped at_first (on 4 what.Report) (Err (plainly refusal.NoTransaction)) at_first
answers_refused = refused_by_the_lane

-- taken and not told, and refused for no reason, or all the same taken
answers_untold : HasStepped at_first (put One) (Ok done) (record after_put { outlet = outlet 0 0 [] }) → ⊥
answers_untold = not_untold

refused_without_reason : HasStepped at_first (put One) (Err (plainly refusal.LaneBusy)) at_first → ⊥
refused_without_reason = not_without_reason

refused_and_changed : HasStepped at_first (put One) (Err (plainly refusal.QueueFull)) after_put → ⊥
refused_and_changed has = let count : 1 ≡ 0 = ap (λ (h : HeldValue). sent_by h.outlet) has.same in omega (arith, count)
