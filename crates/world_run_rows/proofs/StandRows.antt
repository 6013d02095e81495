-- Worked users of an entity after a history: what stands there, what is taken and what is not.
use Rattle.std.proofs.Common.{◌≡◌, ℕ, zero, suc, ◌<◌, List, [], ◌∷◌, Some, None, inl, slice_get, refl, sym, ap, subst, arith}
use Rattle.cfdp_types.specs.declared.names.Class.TheVariants.{One}
use Rattle.cfdp_types.specs.declared.names.Delivery.TheVariants.{Incomplete}
use Rattle.cfdp_types.specs.declared.names.FileStatus.TheVariants.{Unreported}
use Rattle.gap_list.specs.Runs.{runs_of, runs_from}
use Rattle.indications.specs.declared.bundle.Bundle.{Bundle}
use Rattle.indications.specs.declared.indication.Indication.TheVariants as told
use Rattle.sender_table.specs.Sending.{initial, step, state_of}
use Rattle.txn_events.specs.declared.event.What.TheVariants as what
use Rattle.txn_events.specs.declared.refusal.Refusal.TheVariants as refusal
use Rattle.lane_table.specs.Steps.{plainly}
use Rattle.world_rows.specs.SendingLaneRows.{put, on}
use Rattle.world_table.specs.Histories.{Happening, takes}
use Rattle.world_rows.specs.HistoryRows.{lanes, idle_lanes, history, can_be, bundle}
use Rattle.world_core.specs.Posts.{Post}
use Rattle.world_core.specs.Standing.{IsPostAfter, IsRefusedAt, IsTakenFrom, Layout, UsersStandAfter, lane_in, queue_in}

-- two lanes of each of two users, and room for three bundles
abbrev layout : Layout
layout = record { users = 2; lanes_of = λ user. 2; capacity = 3; lanes = lanes }

-- a user with both lanes as they stand after a history
abbrev post_after : List Happening → ℕ → Post
post_after happened user = record {
  queue = queue_in layout happened user;
  lanes = lane_in layout happened user 0 ∷ lane_in layout happened user 1 ∷ [];
}

lane_of_two : (happened : List Happening) (user lane : ℕ) → lane < 2
    → slice_get (lane_in layout happened user 0 ∷ lane_in layout happened user 1 ∷ []) lane ≡ Some (lane_in layout happened user lane)
lane_of_two happened user zero within = refl
lane_of_two happened user (suc zero) within = refl
lane_of_two happened user (suc (suc lane)) within = absurd (omega (arith, within))

is_after : (happened : List Happening) (user : ℕ) → IsPostAfter layout happened user (post_after happened user)
is_after happened user = record { queue = refl; count = refl; lanes = lane_of_two happened user }

zero_one : (a b : ℕ) → a ≡ b → a ≡ 0 → b ≡ 1 → ⊥
zero_one a b e a_is b_is = omega (arith, e, a_is, b_is)

one_two : (a b : ℕ) → a ≡ b → a ≡ 1 → b ≡ 2 → ⊥
one_two a b e a_is b_is = omega (arith, e, a_is, b_is)

-- not with a lane less, nor with what another user is told
a_lane_less : IsPostAfter layout history 0 (record { queue = queue_in layout history 0; lanes = lane_in layout history 0 0 ∷ [] }) → ⊥
a_lane_less is = one_two 1 2 is.count refl refl

another_queue : IsPostAfter layout history 0 (record { queue = queue_in layout history 1; lanes = (post_after history 0).lanes }) → ⊥
another_queue is = zero_one 0 1 (ap (λ q. q.user) (sym is.queue)) refl refl

-- ---- all users

same_post : (one other : Post) → Some one ≡ Some other → one ≡ other
same_post one other e = cc

none_is_some : (post : Post) → None ≡ Some post → ⊥
none_is_some post e = cc

each_of_two : (happened : List Happening) (user : ℕ) (post : Post) → slice_get (post_after happened 0 ∷ post_after happened 1 ∷ []) user ≡ Some post
    → IsPostAfter layout happened user post
each_of_two happened zero post is = subst (IsPostAfter layout happened 0) (same_post (post_after happened 0) post is) (is_after happened 0)
each_of_two happened (suc zero) post is = subst (IsPostAfter layout happened 1) (same_post (post_after happened 1) post is) (is_after happened 1)
each_of_two happened (suc (suc user)) post is = absurd (none_is_some post is)

stand : UsersStandAfter layout history (post_after history 0 ∷ post_after history 1 ∷ [])
stand = record { idle = idle_lanes; legal = can_be; count = refl; each = each_of_two history }

-- one user alone does not
one_alone : UsersStandAfter layout history (post_after history 0 ∷ []) → ⊥
one_alone is = one_two 1 2 is.count refl refl

-- ---- takes

some_waits : {A : Type 0} {x : A} {xs : List A} → x ∷ xs ≡ [] → ⊥
some_waits e = cc

-- the bundle in front is taken, and the one behind it waits
alice_takes : IsTakenFrom layout history 0 (post_after (takes 0 ∷ history) 0 ∷ post_after (takes 0 ∷ history) 1 ∷ [])
    (bundle 0 0 4 (told.TransactionFinished 15 Incomplete Unreported ∷ []))
unfolding initial step state_of runs_of runs_from
alice_takes = record {
  front = refl;
  stand = record { idle = idle_lanes; legal = ((λ none. some_waits none), can_be); count = refl; each = each_of_two (takes 0 ∷ history) };
}

abbrev lane_in_front : List Bundle → ℕ
lane_in_front [] = 0
lane_in_front (x ∷ xs) = x.lane

-- not the one behind it
not_the_second : (posts : List Post) → IsTakenFrom layout history 0 posts (bundle 0 1 6 (told.Transaction ∷ [])) → ⊥
unfolding initial step state_of runs_of runs_from
not_the_second posts taken = zero_one 0 1 (ap lane_in_front taken.front) refl refl

-- ---- refusals

-- the lane's reason, by where it stands after the history
old_there : IsRefusedAt layout history 0 0 (on 4 what.Report) (plainly refusal.OldTransaction)
unfolding initial step state_of runs_of runs_from
old_there = inl refl

busy_there : IsRefusedAt layout history 0 1 (put One) (plainly refusal.LaneBusy)
unfolding initial step state_of runs_of runs_from
busy_there = inl refl
