-- Worked queues and outlets that an entity is opened with.
use Rattle.std.proofs.Common.{◌≡◌, ℕ, ◌+◌, List, [], ◌∷◌, length, Some, slice_get, vec_len, refl, sym, ap, ◌∙◌, arith}
use Rattle.std.specs.List.{sum_by}
use Rattle.atomic_table.specs.Seated.{TableId}
use Rattle.config_reading.specs.Values.{ConfigValue}
use Rattle.user_queues.specs.Names.{no_queue}
use Rattle.user_queues.specs.Shared.{OutletEnd}
use Rattle.user_queues.specs.declared.queues.Queues.{Queues}
use Rattle.user_queues.specs.declared.queues.UserQueue.{UserQueue}
use Rattle.shared_entity.specs.Opening.{IsFresh, queue_at, AreOpenedFor, lanes_in, AreQueuesFor, queue_in}
use Rattle.shared_entity.proofs.QueueFacts.{picked}
use Rattle.shared_rows.proofs.HeldRows.{queue, outlet, after_put}

fresh_outlet : IsFresh queue (outlet 1 2 [])
fresh_outlet = record { of_queue = refl; none_sent = refl }

not_of_bobs_queue : IsFresh queue (record (outlet 0 2 []) { queue = queue 1 }) → ⊥
not_of_bobs_queue is = let user : 1 ≡ 0 = ap (λ (q : TableId). q.words) is.of_queue in omega (arith, user)

not_used : IsFresh queue after_put.outlet → ⊥
not_used is = let count : 1 ≡ 0 = ap length is.none_sent in omega (arith, count)

-- each user's queue is the one at the user's place, and beyond them there is none
abbrev opened : List OutletEnd
opened = outlet 5 0 [] ∷ outlet 7 1 [] ∷ []

queue_of_alice : queue_at (λ end. end.queue) opened 0 ≡ queue 5
queue_of_alice = refl

queue_of_bob : queue_at (λ end. end.queue) opened 1 ≡ queue 7
queue_of_bob = refl

queue_of_nobody : queue_at (λ end. end.queue) opened 2 ≡ no_queue 2
queue_of_nobody = refl

-- ---- queues for a configuration

-- a run names the queues that were opened: each user's is the one at the user's place
as_opened : {R : Type 0} (config : ConfigValue) (queues : Queues R) → AreOpenedFor config queues
    → AreQueuesFor (queue_in queues) (lanes_in queues) config queues
as_opened config queues opened = picked config queues opened

named_in_order : {R : Type 0} (queues : Queues R) (alice bob : UserQueue R) → queues.users.items ≡ alice ∷ bob ∷ [] → queue_in queues 1 ≡ bob.port.queue
named_in_order {R} queues alice bob is = ap (λ (l : List (UserQueue R)). queue_at (λ ends. ends.port.queue) l 1) is

counted : {R : Type 0} (queues : Queues R) (alice bob : UserQueue R) → queues.users.items ≡ alice ∷ bob ∷ [] → vec_len alice.outlets ≡ 3
    → vec_len bob.outlets ≡ 2 → lanes_in queues ≡ 5
counted {R} queues alice bob is three two =
    let each : lanes_in queues ≡ 0 + vec_len alice.outlets + vec_len bob.outlets =
    ap (λ (l : List (UserQueue R)). sum_by (λ ends. vec_len ends.outlets) l) is in omega (arith, each, three, two)

-- not for another number of users, or of lanes, nor under another name
not_for_one_more : {R : Type 0} (config : ConfigValue) (name : List ℕ) (queues : Queues R) → AreOpenedFor config queues
    → AreOpenedFor (record config { users = name ∷ config.users }) queues → ⊥
not_for_one_more config name queues one two = let first = one.users in let second = two.users in grind (arith, first, second)

not_for_another_count : {R : Type 0} (config : ConfigValue) (queues : Queues R) → AreQueuesFor queue 5 config queues → AreQueuesFor queue 4 config queues → ⊥
not_for_another_count config queues five four = let both : 5 ≡ 4 = five.lanes_named ∙ sym four.lanes_named in omega (arith, both)

not_named_alike : {R : Type 0} (config : ConfigValue) (queues : Queues R) (bob : UserQueue R) → slice_get queues.users.items 1 ≡ Some bob
    → bob.port.queue ≡ queue 0 → AreQueuesFor queue 5 config queues → ⊥
not_named_alike config queues bob there is are =
    let words : 0 ≡ 1 = ap (λ (q : TableId). q.words) (sym is ∙ are.named 1 bob there) in omega (arith, words)
