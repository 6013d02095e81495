-- Where users stand after what happens next.
use Rattle.std.proofs.Common.{◌≡◌, ℕ, ◌<◌, Bool, if◌then◌else◌, List, [], ◌∷◌, ◌++◌, length, None, Some, slice_get, slice_set, slice_index_or, Option, Result, Ok, Err, IfOk, IfErr, IfSome, IfNone, refl, sym, ap, ◌∙◌, subst, ⊎_elim}
use Rattle.std.proofs.lemmas.Bool.{cases_eq, ne_eqb, eq-eqb}
use Rattle.std.proofs.lemmas.Option.{slice_get_read}
use Rattle.indications.specs.declared.bundle.Bundle.{Bundle}
use Rattle.indications.specs.LaneLists.{of_lane}
use Rattle.indications.proofs.LaneLemmas.{of_lane-append}
use Rattle.txn_events.specs.declared.event.Event.{Event}
use Rattle.lane_table.specs.declared.done.Done.{Done}
use Rattle.lane_table.specs.declared.refused.Refused.{Refused}
use Rattle.lane_table.specs.Lane.{State}
use Rattle.lane_table.specs.Keeping.{bundle_of}
use Rattle.lane_table.specs.Steps.{IsKeyed, refusal_at, stepped, IsDone}
use Rattle.user_queues.specs.Queue.{Queue, EndsInHeld, with_front}
use Rattle.world_table.specs.Histories.{Happening, steps, takes, rest_of, told_by, mine, held_for, taken_by}
use Rattle.world_table.proofs.HistoryFacts.{runs, takes_all, lane_here, lane_beside, other_user, other_lane}
use Rattle.world_core.specs.Posts.{Post, with_told, HasRoomFor, IsWhyRefused, MayStep, post_stepped, IsStepOf, IsNoStepOf}
use Rattle.world_core.specs.Standing.{Layout, IsLaneIn, lane_in, queue_in, IsPostAfter, UsersStandAfter, IsTakenAt, IsRefusedAt, IsTakenFrom}
use Rattle.world_core.proofs.ListFacts.{some_is, set_length, set_here, set_beside, get_within}

-- ---- before a step

pub post_at : (layout : Layout) (history : List Happening) (posts : List Post) (user : ℕ) (current : Post) → UsersStandAfter layout history posts
    → user < layout.users → current ≡ slice_index_or posts user current → slice_get posts user ≡ Some current
post_at layout history posts user current stand within at =
    slice_get_read posts (length posts) user current refl (subst (λ n. user < n) (sym stand.count) within) at

pub may_step : (layout : Layout) (history : List Happening) (posts : List Post) (user lane : ℕ) (post : Post) → UsersStandAfter layout history posts
    → IsLaneIn layout user lane → slice_get posts user ≡ Some post → MayStep post lane
may_step layout history posts user lane post stand at is =
    let after : IsPostAfter layout history user post = stand.each user post is in
    let run = runs layout.lanes history user lane stand.idle stand.legal in
    let state : State = lane_in layout history user lane in
    let sent : List Bundle = of_lane lane (mine layout.lanes history user) in
    record {
      state = state;
      is = after.lanes lane at.lane_is;
      fits = record {
        of_user = ap (λ (q : Queue). q.user) after.queue ∙ sym run.of_user;
        of_lane = run.of_lane;
        in_queue = subst (λ (q : Queue). lane < q.lanes) (sym after.queue) at.lane_is;
        kept = (
          sent,
          subst (λ q. EndsInHeld q lane sent) (sym after.queue) (
            of_lane lane (taken_by layout.lanes history user),
            ap (of_lane lane) (sym (takes_all layout.lanes history user))
                ∙ of_lane-append lane (taken_by layout.lanes history user) (held_for layout.lanes history user),
          ),
          run.keeps,
        );
      };
    }

-- ---- after a step

held_here : (lanes : ℕ → ℕ → State) (earlier : List Happening) (user lane : ℕ) (event : Event)
    → held_for lanes (steps user lane event ∷ earlier) user ≡ held_for lanes earlier user ++ told_by lanes earlier user lane event
held_here lanes earlier user lane event =
    ap (λ (b : Bool). if b then held_for lanes earlier user ++ told_by lanes earlier user lane event else held_for lanes earlier user) (eq-eqb user user refl)

held_beside : (lanes : ℕ → ℕ → State) (earlier : List Happening) (user lane : ℕ) (event : Event) (other : ℕ) → (user ≡ other → ⊥)
    → held_for lanes (steps user lane event ∷ earlier) other ≡ held_for lanes earlier other
held_beside lanes earlier user lane event other apart =
    ap (λ (b : Bool). if b then held_for lanes earlier other ++ told_by lanes earlier user lane event else held_for lanes earlier other) (ne_eqb user other apart)

-- a user's queue that holds these bundles
abbrev pub queue_with : (layout : Layout) (user : ℕ) → List Bundle → Queue
queue_with layout user held = record { user = user; lanes = layout.lanes_of user; capacity = layout.capacity; held = held }

stepped_here : (layout : Layout) (history : List Happening) (user lane : ℕ) (event : Event) (post : Post) → lane < layout.lanes_of user
    → IsPostAfter layout history user post
    → IsPostAfter layout (steps user lane event ∷ history) user (post_stepped post lane (stepped (lane_in layout history user lane) event))
stepped_here layout history user lane event post less after =
    let next : State = stepped (lane_in layout history user lane) event in
    record {
      queue = ap (λ (q : Queue). with_told q (bundle_of next)) after.queue
          ∙ ap (queue_with layout user) (sym (held_here layout.lanes history user lane event));
      count = set_length post.lanes lane next ∙ after.count;
      lanes = λ other within.
          ⊎_elim
          (λ (this : lane ≡ other).
          subst (λ l. slice_get (slice_set post.lanes lane next) l ≡ Some (lane_in layout (steps user lane event ∷ history) user l)) this
          (set_here post.lanes lane next (subst (λ n. lane < n) (sym after.count) less) ∙ ap Some (sym (lane_here layout.lanes history user lane event))))
          (λ (apart : lane ≡ other → ⊥).
          set_beside post.lanes lane other next apart ∙ after.lanes other within
          ∙ ap Some (sym (lane_beside layout.lanes history user lane event user other (other_lane user lane user other apart))))
          (cases_eq lane other);
    }

stepped_beside : (layout : Layout) (history : List Happening) (user lane : ℕ) (event : Event) (other : ℕ) (post : Post) → (user ≡ other → ⊥)
    → IsPostAfter layout history other post → IsPostAfter layout (steps user lane event ∷ history) other post
stepped_beside layout history user lane event other post apart after = record {
  queue = after.queue ∙ ap (queue_with layout other) (sym (held_beside layout.lanes history user lane event other apart));
  count = after.count;
  lanes = λ l within. after.lanes l within
      ∙ ap Some (sym (lane_beside layout.lanes history user lane event other l (other_user user lane other l apart)));
}

-- one user changed
posts_with : (layout : Layout) (history later : List Happening) (posts : List Post) (user : ℕ) (old new : Post) → slice_get posts user ≡ Some old
    → UsersStandAfter layout history posts → IsPostAfter layout later user new
    → ((other : ℕ) (post : Post) → (user ≡ other → ⊥) → IsPostAfter layout history other post → IsPostAfter layout later other post)
    → (of_user : ℕ) (post : Post) → slice_get (slice_set posts user new) of_user ≡ Some post → IsPostAfter layout later of_user post
posts_with layout history later posts user old new is stand here beside of_user post found =
    ⊎_elim
    (λ (this : user ≡ of_user).
    subst (λ u. IsPostAfter layout later u post) this
    (subst (IsPostAfter layout later user)
    (some_is new post (sym (set_here posts user new (get_within posts user old is)) ∙ ap (slice_get (slice_set posts user new)) this ∙ found)) here))
    (λ (apart : user ≡ of_user → ⊥).
    beside of_user post apart (stand.each of_user post (sym (set_beside posts user of_user new apart) ∙ found)))
    (cases_eq user of_user)

pub taken_at : (layout : Layout) (history : List Happening) (posts : List Post) (user lane : ℕ) (event : Event) (old new : Post) (done : Done)
    → UsersStandAfter layout history posts → IsLaneIn layout user lane → IsKeyed event → slice_get posts user ≡ Some old → IsStepOf old lane event new done
    → IsTakenAt layout history user lane event (slice_set posts user new) done
taken_at layout history posts user lane event old new done stand at keyed is step =
    let after : IsPostAfter layout history user old = stand.each user old is in
    let here : step.state ≡ lane_in layout history user lane = some_is step.state _ (sym step.is ∙ after.lanes lane at.lane_is) in
    let free : refusal_at (lane_in layout history user lane) event ≡ None = subst (λ s. refusal_at s event ≡ None) here step.free in
    let stands : IsPostAfter layout (steps user lane event ∷ history) user new =
    subst (IsPostAfter layout (steps user lane event ∷ history) user)
    (ap (λ (s : State). post_stepped old lane (stepped s event)) (sym here) ∙ sym step.new_is)
    (stepped_here layout history user lane event old at.lane_is after) in
    record {
      takes_it = record {
        free = free;
        room = subst (λ s. HasRoomFor (queue_in layout history user) (bundle_of (stepped s event))) here
            (subst (λ q. HasRoomFor q (bundle_of (stepped step.state event))) after.queue step.room);
        done_is = subst (λ s. IsDone (stepped s event) done) here step.done_is;
      };
      stand = record {
        idle = stand.idle;
        legal = (keyed, free, stand.legal);
        count = set_length posts user new ∙ stand.count;
        each = posts_with layout history (steps user lane event ∷ history) posts user old new is stand stands
            (λ other post apart was. stepped_beside layout history user lane event other post apart was);
      };
    }

pub refused_at : (layout : Layout) (history : List Happening) (posts : List Post) (user lane : ℕ) (event : Event) (old new : Post) (refused : Refused)
    → UsersStandAfter layout history posts → IsLaneIn layout user lane → slice_get posts user ≡ Some old → IsNoStepOf old lane event new refused
    → IsRefusedAt layout history user lane event refused
refused_at layout history posts user lane event old new refused stand at is step =
    let after : IsPostAfter layout history user old = stand.each user old is in
    let here : step.state ≡ lane_in layout history user lane = some_is step.state _ (sym step.is ∙ after.lanes lane at.lane_is) in
    subst (λ s. IsWhyRefused s (queue_in layout history user) event refused) here
    (subst (λ q. IsWhyRefused step.state q event refused) after.queue step.why)

-- ---- after a take

taken_held : (lanes : ℕ → ℕ → State) (history : List Happening) (user : ℕ) → held_for lanes (takes user ∷ history) user ≡ rest_of (held_for lanes history user)
taken_held lanes history user =
    ap (λ (b : Bool). if b then rest_of (held_for lanes history user) else held_for lanes history user) (eq-eqb user user refl)

untaken_held : (lanes : ℕ → ℕ → State) (history : List Happening) (user other : ℕ) → (user ≡ other → ⊥)
    → held_for lanes (takes user ∷ history) other ≡ held_for lanes history other
untaken_held lanes history user other apart =
    ap (λ (b : Bool). if b then rest_of (held_for lanes history other) else held_for lanes history other) (ne_eqb user other apart)

some_held : (bundle : Bundle) (rest : List Bundle) → bundle ∷ rest ≡ [] → ⊥
some_held bundle rest e = cc

pub taken_from : (layout : Layout) (history : List Happening) (posts : List Post) (user : ℕ) (old new : Post) (bundle : Bundle)
    → UsersStandAfter layout history posts → slice_get posts user ≡ Some old → old ≡ record { queue = with_front new.queue bundle; lanes = new.lanes }
    → IsTakenFrom layout history user (slice_set posts user new) bundle
taken_from layout history posts user old new bundle stand is was =
    let after : IsPostAfter layout history user old = stand.each user old is in
    let queue : with_front new.queue bundle ≡ queue_in layout history user = ap (λ (p : Post). p.queue) (sym was) ∙ after.queue in
    let held : bundle ∷ new.queue.held ≡ held_for layout.lanes history user = ap (λ (q : Queue). q.held) queue in
    let rest : new.queue.held ≡ held_for layout.lanes (takes user ∷ history) user =
    ap rest_of held ∙ sym (taken_held layout.lanes history user) in
    let lanes : old.lanes ≡ new.lanes = ap (λ (p : Post). p.lanes) was in
    record {
      front = sym held ∙ ap (λ (l : List Bundle). bundle ∷ l) rest;
      stand = record {
        idle = stand.idle;
        legal = ((λ none. some_held bundle new.queue.held (held ∙ none)), stand.legal);
        count = set_length posts user new ∙ stand.count;
        each = posts_with layout history (takes user ∷ history) posts user old new is stand
            (record {
              queue = ap (λ (q : Queue). record q { held = new.queue.held }) queue ∙ ap (queue_with layout user) rest;
              count = ap (λ (l : List State). length l) (sym lanes) ∙ after.count;
              lanes = λ l within. ap (λ (all : List State). slice_get all l) (sym lanes) ∙ after.lanes l within;
            })
            (λ other post apart other_after. record {
              queue = other_after.queue ∙ ap (queue_with layout other) (sym (untaken_held layout.lanes history user other apart));
              count = other_after.count;
              lanes = other_after.lanes;
            });
      };
    }

pub none_from : (layout : Layout) (history : List Happening) (posts : List Post) (user : ℕ) (old : Post) → UsersStandAfter layout history posts
    → slice_get posts user ≡ Some old → old.queue.held ≡ [] → held_for layout.lanes history user ≡ []
none_from layout history posts user old stand is none = ap (λ (q : Queue). q.held) (sym (stand.each user old is).queue) ∙ none

-- ---- of what is answered

pub ok_then : {T E : Type 0} {P Q : T → Type 0} (r : Result T E) → IfOk r P → ((x : T) → P x → Q x) → IfOk r Q
ok_then (Ok x) p f = f x p
ok_then (Err e) p f = tt

pub err_then : {T E : Type 0} {P Q : E → Type 0} (r : Result T E) → IfErr r P → ((e : E) → P e → Q e) → IfErr r Q
err_then (Ok x) p f = tt
err_then (Err e) p f = f e p

pub some_then : {T : Type 0} {P Q : T → Type 0} (o : Option T) → IfSome o P → ((x : T) → P x → Q x) → IfSome o Q
some_then (Some x) p f = f x p
some_then None p f = tt

pub none_then : {T P Q : Type 0} (o : Option T) → IfNone o P → (P → Q) → IfNone o Q
none_then (Some x) p f = tt
none_then None p f = f p
