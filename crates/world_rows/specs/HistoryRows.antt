-- Rows. Worked histories of two users.
use Rattle.std.proofs.Common.{◌≡◌, ℕ, List, [], ◌∷◌, Some, None, arith, refl}
use Rattle.cfdp_types.specs.declared.names.Class.TheVariants.{One}
use Rattle.cfdp_types.specs.declared.names.Delivery.TheVariants.{Incomplete}
use Rattle.cfdp_types.specs.declared.names.FileStatus.TheVariants.{Unreported}
use Rattle.gap_list.specs.Runs.{runs_of, runs_from}
use Rattle.indications.specs.declared.bundle.Bundle.{Bundle}
use Rattle.indications.specs.declared.indication.Indication.{Indication}
use Rattle.indications.specs.declared.indication.Indication.TheVariants as told
use Rattle.indications.specs.LaneLists.{of_lane, IsLaneList}
use Rattle.sender_table.specs.Sending.{initial, step, state_of}
use Rattle.txn_events.specs.declared.event.What.TheVariants as what
use Rattle.lane_table.specs.Lane.{State}
use Rattle.world_rows.specs.SendingLaneRows.{sending_lane, key, put, on}
use Rattle.world_table.specs.Histories.{Happening, steps, takes, lane_after, events_at, events_for, mine, held_for, taken_by, AreIdle, IsHistory}
use Rattle.world_table.proofs.HistoryFacts.{tells_lane_lists}

-- two users with sending lanes
abbrev pub lanes : ℕ → ℕ → State
lanes user lane = sending_lane 1 user lane

pub idle_lanes : AreIdle lanes
idle_lanes = record { numbered = λ user lane. (omega (arith), omega (arith)); idle_is = λ user lane. refl }

-- both users put a file; the first takes its indications, cancels, and puts from another lane; newest first
abbrev pub history : List Happening
history =
    steps 0 1 (put One) ∷ steps 0 0 (on 4 what.Cancel) ∷ takes 0 ∷ steps 1 0 (put One) ∷ steps 0 0 (put One) ∷ []

-- the history is legal
pub can_be : IsHistory lanes history
unfolding initial step state_of runs_of runs_from
can_be = (tt, refl, (tt, refl, ((λ none. some_is_none none), (tt, refl, (tt, refl, tt)))))
  where
    some_is_none : {A : Type 0} {x : A} {xs : List A} → x ∷ xs ≡ [] → ⊥
    some_is_none e = cc

-- a step of one lane belongs to no other lane and to no other user
pub first_lane : events_at history 0 0 ≡ put One ∷ on 4 what.Cancel ∷ []
first_lane = refl

pub second_lane : events_at history 0 1 ≡ put One ∷ []
second_lane = refl

pub lane_of_bob : events_at history 1 0 ≡ put One ∷ []
lane_of_bob = refl

pub last_of_first_lane : (lane_after lanes history 0 0).last ≡ Some 4
last_of_first_lane = refl

pub last_of_second_lane : (lane_after lanes history 0 1).last ≡ Some 6
last_of_second_lane = refl

pub last_of_bob : (lane_after lanes history 1 0).last ≡ Some 5
last_of_bob = refl

pub nothing_in_another : (lane_after lanes history 1 1).last ≡ None
nothing_in_another = refl

pub journal_of_first_lane : (lane_after lanes history 0 0).journal ≡ events_for lanes history 0 0 4
journal_of_first_lane = refl

-- ---- the users' indications

-- a bundle of a user's lane
abbrev pub bundle : ℕ → ℕ → ℕ → List Indication → Bundle
bundle user lane number inds = record { user = user; lane = lane; key = key number; inds = inds }

-- all that the user's lanes issued, in the order of the steps
pub told_to_alice : mine lanes history 0
    ≡ bundle 0 0 4 (told.Transaction ∷ []) ∷ bundle 0 0 4 (told.TransactionFinished 15 Incomplete Unreported ∷ []) ∷ bundle 0 1 6 (told.Transaction ∷ []) ∷ []
unfolding initial step state_of runs_of runs_from
told_to_alice = refl

pub told_to_bob : mine lanes history 1 ≡ bundle 1 0 5 (told.Transaction ∷ []) ∷ []
unfolding initial step state_of runs_of runs_from
told_to_bob = refl

-- what was taken, and what is waiting
pub alice_took : taken_by lanes history 0 ≡ bundle 0 0 4 (told.Transaction ∷ []) ∷ []
unfolding initial step state_of runs_of runs_from
alice_took = refl

pub alice_waits_for : held_for lanes history 0
    ≡ bundle 0 0 4 (told.TransactionFinished 15 Incomplete Unreported ∷ []) ∷ bundle 0 1 6 (told.Transaction ∷ []) ∷ []
unfolding initial step state_of runs_of runs_from
alice_waits_for = refl

pub bob_took : taken_by lanes history 1 ≡ []
bob_took = refl

pub bob_waits_for : held_for lanes history 1 ≡ bundle 1 0 5 (told.Transaction ∷ []) ∷ []
unfolding initial step state_of runs_of runs_from
bob_waits_for = refl

-- each take takes one bundle
pub one_more_taken : held_for lanes (takes 0 ∷ history) 0 ≡ bundle 0 1 6 (told.Transaction ∷ []) ∷ []
unfolding initial step state_of runs_of runs_from
one_more_taken = refl

-- a user can't take where nothing is waiting
pub nothing_to_take : IsHistory lanes (takes 1 ∷ []) → ⊥
nothing_to_take can = can.0 refl

-- so what one lane issued is a lane list
pub first_lane_list : IsLaneList 0 0 (record { 0 = 2 }) (of_lane 0 (mine lanes history 0))
first_lane_list = (tells_lane_lists lanes history 0 0 idle_lanes can_be).0
