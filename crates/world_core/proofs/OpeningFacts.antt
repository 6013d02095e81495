-- What is made one by one, and where users stand to whom nothing has happened.
use Rattle.std.proofs.Common.{◌≡◌, ℕ, zero, suc, ◌+◌, ◌<◌, ◌≤◌, List, [], ◌∷◌, ◌++◌, length, length-append, Option, Some, None, slice_get, refl, ap, sym, ◌∙◌, subst, ⊎_elim, arith}
use Rattle.std.proofs.lemmas.Bool.{cases_eq}
use Rattle.config_reading.specs.Values.{ConfigValue, PeerValue}
use Rattle.lane_table.specs.Lane.{State, idle, IsNumbered}
use Rattle.user_queues.specs.Queue.{Queue, empty}
use Rattle.world_table.specs.Histories.{AreIdle}
use Rattle.entity_routing.specs.Places.{lanes_of, source_of_lane}
use Rattle.world_core.specs.Posts.{Post}
use Rattle.world_core.specs.Standing.{IsPostAfter, UsersStandAfter}
use Rattle.world_core.proofs.ListFacts.{some_is, get_within, within_get}
use Rattle.entity_parts.specs.FirstLanes.{lane_for, first_lane}
use Rattle.world_core.specs.Opening.{layout_of, AreMade}

-- ---- one by one

pub none_made : {A : Type 0} (IsAt : ℕ → A → Type 0) → AreMade IsAt [] 0
none_made IsAt = record { counted = refl; each = λ place item is. absurd cc }

get_front : {A : Type 0} (xs : List A) (last : A) (i : ℕ) → i < length xs → slice_get (xs ++ last ∷ []) i ≡ slice_get xs i
get_front [] last i less = absurd (omega (arith, less))
get_front (x ∷ xs) last zero less = refl
get_front (x ∷ xs) last (suc i) less = get_front xs last i (omega (arith, less))

get_last : {A : Type 0} (xs : List A) (last : A) → slice_get (xs ++ last ∷ []) (length xs) ≡ Some last
get_last [] last = refl
get_last (x ∷ xs) last = get_last xs last

pub one_made : {A : Type 0} (IsAt : ℕ → A → Type 0) (made more : List A) (count : ℕ) (last : A) → AreMade IsAt made count → more ≡ made ++ last ∷ []
    → IsAt count last → AreMade IsAt more (count + 1)
one_made IsAt made more count last were is here = record {
  counted = ap length is ∙ length-append made (last ∷ []) ∙ ap (λ n. n + 1) were.counted;
  each = λ place item found.
      let there : slice_get (made ++ last ∷ []) place ≡ Some item = ap (λ l. slice_get l place) (sym is) ∙ found in
      let within : place < length (made ++ last ∷ []) = get_within (made ++ last ∷ []) place item there in
      let all = length-append made (last ∷ []) in
      ⊎_elim
      (λ (this : place ≡ length made).
      let same : last ≡ item = some_is last item (sym (get_last made last) ∙ ap (slice_get (made ++ last ∷ [])) (sym this) ∙ there) in
      subst (λ p. IsAt p item) (sym (this ∙ were.counted)) (subst (IsAt count) same here))
      (λ (other : place ≡ length made → ⊥).
      were.each place item (sym (get_front made last place (omega (arith, within, all, other))) ∙ there))
      (cases_eq place (length made));
}

-- ---- nothing has happened

lane_is_idle : (config : ConfigValue) (user lane : ℕ) (source : Option PeerValue)
    → lane_for config user lane source ≡ idle (lane_for config user lane source).side user lane (lane_for config user lane source).source
lane_is_idle config user lane None = refl
lane_is_idle config user lane (Some peer) = refl

lane_is_numbered : (config : ConfigValue) (user lane : ℕ) (source : Option PeerValue) → 0 < config.entity.put_lanes → 0 < length config.users
    → IsNumbered (lane_for config user lane source).side
lane_is_numbered config user lane None lanes users = (lanes, users)
lane_is_numbered config user lane (Some peer) lanes users = tt

pub are_idle : (config : ConfigValue) → 0 < config.entity.put_lanes → 0 < length config.users → AreIdle (first_lane config)
are_idle config lanes users = record {
  numbered = λ user lane. lane_is_numbered config user lane (source_of_lane config user lane) lanes users;
  idle_is = λ user lane. lane_is_idle config user lane (source_of_lane config user lane);
}

pub post_made : (config : ConfigValue) (user count : ℕ) (queue : Queue) (lanes : List State) → count ≡ lanes_of config user
    → queue ≡ empty user count config.entity.capacity → AreMade (λ place lane. lane ≡ first_lane config user place) lanes count
    → IsPostAfter (layout_of config) [] user (record { queue = queue; lanes = lanes })
post_made config user count queue lanes counted is made = record {
  queue = is ∙ ap (λ (n : ℕ). empty user n config.entity.capacity) counted;
  count = made.counted ∙ counted;
  lanes = λ lane within.
      let found = within_get lanes lane (subst (λ n. lane < n) (sym (made.counted ∙ counted)) within) in
      found.1 ∙ ap Some (made.each lane found.0 found.1);
}

pub users_made : (config : ConfigValue) (posts : List Post) (count : ℕ) → count ≡ length config.users → 0 < config.entity.put_lanes → 0 < length config.users
    → AreMade (λ place part. IsPostAfter (layout_of config) [] place part) posts count → UsersStandAfter (layout_of config) [] posts
users_made config posts count counted lanes users made = record {
  idle = are_idle config lanes users;
  legal = tt;
  count = made.counted ∙ counted;
  each = made.each;
}

-- all of them
pub all_made : (count all : ℕ) → all ≤ count → count ≤ all → count ≡ all
all_made count all more most = omega (arith, more, most)

pub made_at : {A : Type 0} (IsAt : ℕ → A → Type 0) (made : List A) (count all : ℕ) → AreMade IsAt made count → count ≡ all → AreMade IsAt made all
made_at IsAt made count all were is = subst (AreMade IsAt made) is were

pub ready_made : (config : ConfigValue) (user : ℕ) (part : Post) {post : Post} → IsPostAfter (layout_of config) [] user post → part ≡ post
    → IsPostAfter (layout_of config) [] user part
ready_made config user part after is = subst (IsPostAfter (layout_of config) [] user) (sym is) after
