-- The queues and outlets that an entity is opened with.
use Rattle.std.proofs.Common.{◌≡◌, ℕ, zero, suc, ◌<◌, All, List, [], ◌∷◌, ◌++◌, length, Option, Some, slice_get, slice_index, slice_index_or, Result, Ok, Err, IfOk, refl, sym, ap, ◌∙◌, subst, vec_len, arith}
use Rattle.std.specs.Option.{option_map, unwrap_or}
use Rattle.std.proofs.lemmas.Option.{slice_get_within, slice_get-get_or}
use Rattle.std.proofs.lemmas.List.Elements.{All-nil, All-push}
use Rattle.std.proofs.lemmas.List.{append-nil}
use Rattle.atomic_table.specs.Seated.{TableId}
use Rattle.config_reading.specs.Values.{ConfigValue}
use Rattle.entity_routing.specs.Places.{lanes_of}
use Rattle.queue_rule.specs.declared.view.PortView.{PortView}
use Rattle.user_queues.specs.Opened.{fresh_outlet, fresh_outlets, IsOpenedFor}
use Rattle.user_queues.specs.Names.{no_queue}
use Rattle.user_queues.specs.Shared.{OutletEnd, PortEnd}
use Rattle.user_queues.specs.declared.queues.Queues.{Queues}
use Rattle.user_queues.specs.declared.queues.UserQueue.{UserQueue}
use Rattle.shared_entity.specs.Opening.{IsFresh, AreOpenedFor, lanes_in, AreQueuesFor, queue_in}

-- ---- outlets

all_fresh : (queue : ℕ → TableId) (of : TableId) (user room lanes : ℕ) → of ≡ queue user → All (IsFresh queue) (fresh_outlets of user room lanes)
all_fresh queue of user room zero named = All-nil (IsFresh queue)
all_fresh queue of user room (suc lanes) named =
    All-push (IsFresh queue) (fresh_outlets of user room lanes) (fresh_outlet of user room lanes) (all_fresh queue of user room lanes named)
    (record { of_queue = named; none_sent = refl })

-- those of a queue that was just opened
pub opened_fresh : (queue : ℕ → TableId) (user lanes room : ℕ) (port : PortEnd) (outlets : List OutletEnd) → IsOpenedFor user lanes room port outlets
    → port.queue ≡ queue user → All (IsFresh queue) outlets
opened_fresh queue user lanes room port outlets opened named =
    subst (All (IsFresh queue)) (sym opened.of_lanes) (all_fresh queue port.queue user room lanes named)

-- an outlet of its user's queue beside others
pub one_named : (queue : ℕ → TableId) (outlets more : List OutletEnd) (outlet : OutletEnd) → more ≡ outlets ++ outlet ∷ []
    → All (λ (o : OutletEnd). o.queue ≡ queue o.knows.user) outlets → outlet.queue ≡ queue outlet.knows.user
    → All (λ (o : OutletEnd). o.queue ≡ queue o.knows.user) more
one_named queue outlets more outlet is were named =
    subst (All (λ (o : OutletEnd). o.queue ≡ queue o.knows.user)) (sym is) (All-push (λ (o : OutletEnd). o.queue ≡ queue o.knows.user) outlets outlet were named)

-- ---- ports

-- what holds of each at its place holds of all
pub all_by_place : {A : Type 0} (P : A → Type 0) (items : List A) → ((place : ℕ) (item : A) → slice_get items place ≡ Some item → P item) → All P items
all_by_place P items each = λ place otherwise within.
    each place (slice_index_or items place otherwise) (slice_get-get_or items place otherwise within)

-- the port of a queue that was just opened
pub opened_named : (queue : ℕ → TableId) (user lanes room : ℕ) (port : PortEnd) (outlets : List OutletEnd) → IsOpenedFor user lanes room port outlets
    → port.queue ≡ queue user → port.queue ≡ queue port.knows.user
opened_named queue user lanes room port outlets opened named = named ∙ ap queue (sym (ap (λ (p : PortView). p.user) opened.of_port))

-- ---- items of a list, one after the other

pub get_middle : {A : Type 0} (all before : List A) (x : A) (behind : List A) → before ++ x ∷ behind ≡ all → slice_get all (length before) ≡ Some x
get_middle all before x behind is = ap (λ l. slice_get l (length before)) (sym is) ∙ there before x behind
  where
    there : {A : Type 0} (before : List A) (x : A) (behind : List A) → slice_get (before ++ x ∷ behind) (length before) ≡ Some x
    there [] x behind = refl
    there (y ∷ ys) x behind = there ys x behind

none_left : {A : Type 0} (rest : List A) → length rest ≡ 0 → rest ≡ []
none_left [] none = refl
none_left (x ∷ xs) none = absurd (omega (arith, none))

-- where none is left, all came
pub all_yielded : {A : Type 0} (yielded rest all : List A) → yielded ++ rest ≡ all → length rest ≡ 0 → yielded ≡ all
all_yielded {A} yielded rest all is none =
    sym (append-nil yielded) ∙ ap (λ (l : List A). yielded ++ l) (sym (none_left rest none)) ∙ is

-- ---- counts

-- what is said of each count is said of the one that stands at a place
pub count_at : {A : Type 0} (f : ℕ → ℕ) (counts : List ℕ) (items : List A) (place : ℕ) (item : A) → length items ≡ length counts
    → slice_get items place ≡ Some item → ((k count : ℕ) → slice_get counts k ≡ Some count → count ≡ f k) → slice_index counts place ≡ f place
count_at f counts items place item long is each =
    let within : place < length counts = subst (λ n. place < n) long (slice_get_within items place item is) in
    each place (slice_index counts place) (slice_get-get_or counts place 0 within)

-- each user's queue has the lanes that are counted for the user
pub opened_as_counted : {Q B E : Type 0} (result : Result Q E) (long_of : Q → ℕ) (users_of : Q → List B) (port : B → PortEnd) (outlets : B → List OutletEnd)
    → ((queues : Q) → long_of queues ≡ length (users_of queues)) → (counts : List ℕ) (f : ℕ → ℕ) (room same : ℕ) → same ≡ room
    → ((k count : ℕ) → slice_get counts k ≡ Some count → count ≡ f k) → IfOk result (λ queues. long_of queues ≡ length counts)
    → IfOk result (λ queues. (user : ℕ) (ends : B) → slice_get (users_of queues) user ≡ Some ends
    → IsOpenedFor user (slice_index counts user) same (port ends) (outlets ends))
    → IfOk result (λ queues. (user : ℕ) (ends : B) → slice_get (users_of queues) user ≡ Some ends → IsOpenedFor user (f user) room (port ends) (outlets ends))
opened_as_counted (Err why) long_of users_of port outlets long counts f room same is each many opened = tt
opened_as_counted (Ok queues) long_of users_of port outlets long counts f room same is each many opened = λ user ends there.
    subst (λ r. IsOpenedFor user (f user) r (port ends) (outlets ends)) is
    (subst (λ n. IsOpenedFor user n same (port ends) (outlets ends))
    (count_at f counts (users_of queues) user ends (sym (long queues) ∙ many) there each) (opened user ends there))

-- ---- what a run picks

-- where queues were opened, the run may name them so
pub picked : {R : Type 0} (config : ConfigValue) (queues : Queues R) → AreOpenedFor config queues
    → AreQueuesFor (queue_in queues) (lanes_in queues) config queues
picked {R} config queues opened = record {
  opened = opened;
  named = λ user ends is.
      sym (ap (λ (o : Option (UserQueue R)). unwrap_or (option_map (λ (e : UserQueue R). e.port.queue) o) (no_queue user)) is);
  lanes_named = refl;
}

-- a queue for each user, and each with the user's lanes
pub both_opened : {R E : Type 0} (config : ConfigValue) (result : Result (Queues R) E) → IfOk result (λ queues. vec_len queues.users ≡ length config.users)
    → IfOk result (λ queues. (user : ℕ) (ends : UserQueue R) → slice_get queues.users.items user ≡ Some ends
    → IsOpenedFor user (lanes_of config user) config.entity.capacity ends.port ends.outlets.items)
    → IfOk result (AreOpenedFor config)
both_opened config (Err why) many opened = tt
both_opened config (Ok queues) many opened = record { users = many; opened = opened }
