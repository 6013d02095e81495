-- Worked queues of one thread: what goes in, what is taken, and what a lane's list ends in.
use Rattle.std.proofs.Common.{◌≡◌, ℕ, List, [], ◌∷◌, ◌++◌, length, refl, ap, ◌∙◌, arith, length-append}
use Rattle.indications.specs.declared.bundle.Bundle.{Bundle}
use Rattle.user_queues.specs.Queue.{Queue, queue_in, empty, with_last, with_front, all_put, EndsInHeld, IsPutIn, IsFull}
use Rattle.queue_rows.proofs.Samples.{bundle, front_number}

-- alice's queue of two lanes, with room for two bundles
abbrev queue : List Bundle → Queue
queue held = record { user = 0; lanes = 2; capacity = 2; held = held }

-- two bundles of one lane, and between them one of another
abbrev one : Bundle
one = bundle 0 4

abbrev beside : Bundle
beside = bundle 1 5

abbrev two : Bundle
two = bundle 0 6

-- ---- what goes in, and what is taken

in_a_ring : queue_in 0 2 (record { capacity = 2; items = one ∷ beside ∷ [] }) ≡ queue (one ∷ beside ∷ [])
in_a_ring = refl

empty_at_first : empty 0 2 2 ≡ queue []
empty_at_first = refl

one_in : with_last (queue []) one ≡ queue (one ∷ [])
one_in = refl

-- behind all that is held, and in front of it
one_behind : with_last (queue (one ∷ [])) beside ≡ queue (one ∷ beside ∷ [])
one_behind = refl

one_in_front : with_front (queue (beside ∷ [])) one ≡ queue (one ∷ beside ∷ [])
one_in_front = refl

-- what was taken comes before what is held
all_in_order : all_put (one ∷ []) (queue (beside ∷ two ∷ [])) ≡ one ∷ beside ∷ two ∷ []
all_in_order = refl

-- ---- a bundle of a lane goes in where there is room

put_behind : IsPutIn 1 (queue (one ∷ [])) beside (queue (one ∷ beside ∷ []))
put_behind = record { room = omega arith; of_lane = refl; held = refl }

not_into_full : IsPutIn 0 (queue (one ∷ beside ∷ [])) two (queue (one ∷ beside ∷ two ∷ [])) → ⊥
not_into_full put = let room = put.room in omega (arith, room)

-- not one of another lane, nor in front of what is held, nor where nothing goes in, nor in place of it
not_of_another_lane : IsPutIn 0 (queue (one ∷ [])) beside (queue (one ∷ beside ∷ [])) → ⊥
not_of_another_lane put = let lane = put.of_lane in omega (arith, lane)

not_in_front : IsPutIn 1 (queue (one ∷ [])) beside (queue (beside ∷ one ∷ [])) → ⊥
not_in_front put =
    let number : 5 ≡ 4 = ap (λ (q : Queue). front_number q.held) put.held in omega (arith, number)

not_lost : IsPutIn 1 (queue (one ∷ [])) beside (queue (one ∷ [])) → ⊥
not_lost put = let count : 1 ≡ 2 = ap (λ (q : Queue). length q.held) put.held in omega (arith, count)

not_instead : IsPutIn 1 (queue (one ∷ [])) beside (queue (beside ∷ [])) → ⊥
not_instead put = let count : 1 ≡ 2 = ap (λ (q : Queue). length q.held) put.held in omega (arith, count)

-- nor does the room change
not_with_more_room : IsPutIn 1 (queue (one ∷ [])) beside (record (queue (one ∷ beside ∷ [])) { capacity = 3 }) → ⊥
not_with_more_room put = let room : 3 ≡ 2 = ap (λ (q : Queue). q.capacity) put.held in omega (arith, room)

-- ---- a full queue

full : IsFull (queue (one ∷ beside ∷ [])) (queue (one ∷ beside ∷ []))
full = record { full = refl; same = refl }

not_where_room_is_left : IsFull (queue (one ∷ [])) (queue (one ∷ [])) → ⊥
not_where_room_is_left is = let count = is.full in omega (arith, count)

-- nothing of what is held goes away
not_where_one_goes : IsFull (queue (one ∷ beside ∷ [])) (queue (one ∷ [])) → ⊥
not_where_one_goes is = let count : 1 ≡ 2 = ap (λ (q : Queue). length q.held) is.same in omega (arith, count)

-- ---- what a lane sent ends in what is held of it

nothing_sent : EndsInHeld (queue (beside ∷ [])) 0 []
nothing_sent = ([], refl)

all_held : EndsInHeld (queue (one ∷ beside ∷ [])) 0 (one ∷ [])
all_held = ([], refl)

-- one was taken, and all were
one_taken : EndsInHeld (queue (beside ∷ two ∷ [])) 0 (one ∷ two ∷ [])
one_taken = (one ∷ [], refl)

all_taken : EndsInHeld (queue (beside ∷ [])) 0 (one ∷ two ∷ [])
all_taken = (one ∷ two ∷ [], refl)

-- what is held was sent, and nothing was sent behind it
not_unsent : EndsInHeld (queue (one ∷ [])) 0 [] → ⊥
not_unsent ends =
    let count : 0 ≡ length (ends.0 ++ one ∷ []) = ap length ends.1 in omega (arith, count, length-append ends.0 (one ∷ []))

-- the number of the last of them
abbrev last_number : List Bundle → ℕ
last_number [] = 0
last_number (first ∷ []) = first.key.seq
last_number (first ∷ next ∷ rest) = last_number (next ∷ rest)

last_of : (earlier : List Bundle) (last : Bundle) → last_number (earlier ++ last ∷ []) ≡ last.key.seq
last_of [] last = refl
last_of (first ∷ []) last = refl
last_of (first ∷ next ∷ rest) last = last_of (next ∷ rest) last

not_sent_behind : EndsInHeld (queue (one ∷ [])) 0 (one ∷ two ∷ []) → ⊥
not_sent_behind ends =
    let number : 6 ≡ 4 = ap last_number ends.1 ∙ last_of ends.0 one in omega (arith, number)

-- nor is it of another lane
not_of_both_lanes : EndsInHeld (queue (beside ∷ [])) 1 (beside ∷ one ∷ []) → ⊥
not_of_both_lanes ends =
    let number : 4 ≡ 5 = ap last_number ends.1 ∙ last_of ends.0 beside in omega (arith, number)
