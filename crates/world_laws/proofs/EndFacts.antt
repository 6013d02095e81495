-- Behind the end of a transaction nothing more is told of it, to any user.
use Rattle.std.proofs.Common.{◌≡◌, ℕ, Bool, true, false, cond, IsTrue, ◌&&◌, ◌==◌, if◌then◌else◌, All, List, [], ◌∷◌, ◌++◌, Option, Some, None, refl, sym, ap, ◌∙◌, subst, ⊎_elim, append_assoc}
use Rattle.std.specs.List.{filter, list_any}
use Rattle.std.proofs.lemmas.Bool.{cases_eq, eq-eqb, eqb-true, false≢true, ne_eqb}
use Rattle.std.proofs.lemmas.List.{append-nil}
use Rattle.std.proofs.lemmas.List.Elements.{All-head, All-tail}
use Rattle.cfdp_types.specs.declared.key.EntityId.{EntityId}
use Rattle.cfdp_types.specs.declared.key.TxnKey.{TxnKey}
use Rattle.config_reading.specs.Values.{ConfigValue, PeerValue, is_config}
use Rattle.indications.specs.declared.bundle.Bundle.{Bundle}
use Rattle.indications.specs.declared.indication.Indication.{Indication}
use Rattle.indications.specs.LaneLists.{number_of, of_lane, of_number, told_in, told_of, IsLaneList, IsWordGroup}
use Rattle.indications.specs.Words.{is_end}
use Rattle.indications.proofs.LaneLemmas.{of_lane-append, told_of-append, told_of-none, told_of-over}
use Rattle.lane_table.specs.Lane.{State}
use Rattle.lane_table.proofs.StepFacts.{both_true}
use Rattle.world_table.specs.Histories.{Happening, steps, takes, told_by, mine, AreIdle, IsHistory}
use Rattle.world_table.proofs.HistoryFacts.{tells_lane_lists}
use Rattle.entity_routing.specs.declared.place.Place.{Place}
use Rattle.entity_routing.specs.Places.{is_local, place_of}
use Rattle.entity_routing.proofs.PlaceFacts.{own_sent, others_received}
use Rattle.entity_parts.specs.FirstLanes.{first_lane}
use Rattle.world_core.specs.Routed.{AreRouted}
use Rattle.world_laws.specs.EntityLaws.{IsAtHome, TellsNothingMore, has_key, told_under}
use Rattle.world_laws.proofs.KeyFacts.{idle_lanes, tells_at_home}

abbrev pub at : ℕ → ℕ → Option Place
at user lane = Some (record { user = user; lane = lane })

some_place : (one other : Place) → Some one ≡ Some other → one ≡ other
some_place one other e = cc

-- ---- a lane's transactions have one source

same_id : (one other : EntityId) → one.0 ≡ other.0 → one ≡ other
same_id one other is = ap (λ (n : ℕ). let id : EntityId = record { 0 = n } in id) is

none_is_some : (peer : PeerValue) → None ≡ Some peer → ⊥
none_is_some peer e = cc

same_peer : (one other : PeerValue) → Some one ≡ Some other → one ≡ other
same_peer one other e = cc

same_sources : (config : ConfigValue) (one other : TxnKey) (place : Place) → IsTrue (is_config config)
    → place_of config one ≡ Some place → place_of config other ≡ Some place
    → (own own' : Bool) → is_local config one.source ≡ own → is_local config other.source ≡ own' → one.source ≡ other.source
same_sources config one other place holds is is' true true own own' =
    same_id one.source other.source
    (eqb-true one.source.0 config.entity.local.0 own ∙ sym (eqb-true other.source.0 config.entity.local.0 own'))
same_sources config one other place holds is is' true false own own' =
    let from = others_received config other place holds own' is' in
    absurd (none_is_some from.peer (sym (own_sent config one place holds own is).1 ∙ from.found))
same_sources config one other place holds is is' false true own own' =
    let from = others_received config one place holds own is in
    absurd (none_is_some from.peer (sym (own_sent config other place holds own' is').1 ∙ from.found))
same_sources config one other place holds is is' false false own own' =
    let from = others_received config one place holds own is in
    let from' = others_received config other place holds own' is' in
    sym from.id ∙ ap (λ (p : PeerValue). p.remote.id) (same_peer from.peer from'.peer (sym from.found ∙ from'.found)) ∙ from'.id

-- ---- the bundles of a transaction

pub key_is : (key : TxnKey) (bundle : Bundle) → has_key key bundle ≡ true → bundle.key ≡ key
key_is key bundle is =
    let both = both_true (bundle.key.source.0 == key.source.0) (bundle.key.seq == key.seq) is in
    ap (λ (n : ℕ). let k : TxnKey = record { source = record { 0 = n }; seq = bundle.key.seq } in k) (eqb-true bundle.key.source.0 key.source.0 both.0)
    ∙ ap (λ (n : ℕ). let k : TxnKey = record { source = key.source; seq = n } in k) (eqb-true bundle.key.seq key.seq both.1)

is_false : (b : Bool) → (b ≡ true → ⊥) → b ≡ false
is_false true never = absurd (never refl)
is_false false never = refl

-- a bundle of the transaction is told by its lane, to its user
at_place : (config : ConfigValue) (key : TxnKey) (user lane other : ℕ) (bundle : Bundle) → place_of config key ≡ at user lane → IsAtHome config other bundle
    → has_key key bundle ≡ true → (user ≡ other) × (bundle.lane ≡ lane)
at_place config key user lane other bundle is home has =
    let same = some_place (record { user = user; lane = lane }) (record { user = other; lane = bundle.lane })
    (sym is ∙ ap (place_of config) (sym (key_is key bundle has)) ∙ home) in
    (ap (λ (p : Place). p.user) same, sym (ap (λ (p : Place). p.lane) same))

-- another user is told nothing of it
none_under : (config : ConfigValue) (key : TxnKey) (user lane other : ℕ) (bundles : List Bundle) → place_of config key ≡ at user lane → (user ≡ other → ⊥)
    → All (IsAtHome config other) bundles → told_under key bundles ≡ []
none_under config key user lane other [] is away homes = refl
none_under config key user lane other (x ∷ xs) is away homes =
    let of_rest : List Bundle = filter (has_key key) xs in
    let not_here : has_key key x ≡ false =
    is_false (has_key key x) (λ has. away (at_place config key user lane other x is (All-head (IsAtHome config other) x xs homes) has).0) in
    ap (λ (b : Bool). told_in (cond b (x ∷ of_rest) of_rest)) not_here
    ∙ none_under config key user lane other xs is away (All-tail (IsAtHome config other) x xs homes)

-- the user is told of it what its lane tells of its number
pub same_bundles : (config : ConfigValue) (key : TxnKey) (user lane : ℕ) (bundles : List Bundle) → IsTrue (is_config config) → place_of config key ≡ at user lane
    → All (IsAtHome config user) bundles → filter (has_key key) bundles ≡ of_number key.seq (of_lane lane bundles)
same_bundles config key user lane [] holds is homes = refl
same_bundles config key user lane (x ∷ xs) holds is homes =
    let home = All-head (IsAtHome config user) x xs homes in
    let rest = same_bundles config key user lane xs holds is (All-tail (IsAtHome config user) x xs homes) in
    let of_rest : List Bundle = filter (has_key key) xs in
    let lane_rest : List Bundle = of_lane lane xs in
    ⊎_elim
    (λ (here : x.lane ≡ lane).
    let source : x.key.source ≡ key.source =
    same_sources config x.key key (record { user = user; lane = lane }) holds (home ∙ ap (at user) here) is
    (is_local config x.key.source) (is_local config key.source) refl refl in
    let test : has_key key x ≡ (number_of x == key.seq) =
    ap (λ (b : Bool). b && (x.key.seq == key.seq)) (eq-eqb x.key.source.0 key.source.0 (ap (λ (id : EntityId). id.0) source)) in
    ap (λ (b : Bool). cond b (x ∷ of_rest) of_rest) test
    ∙ ap (λ (l : List Bundle). cond (number_of x == key.seq) (x ∷ l) l) rest
    ∙ sym (ap (λ (b : Bool). of_number key.seq (cond b (x ∷ lane_rest) lane_rest)) (eq-eqb x.lane lane here)))
    (λ (beside : x.lane ≡ lane → ⊥).
    let not_here : has_key key x ≡ false = is_false (has_key key x) (λ has. beside (at_place config key user lane user x is home has).1) in
    ap (λ (b : Bool). cond b (x ∷ of_rest) of_rest) not_here ∙ rest
    ∙ sym (ap (λ (b : Bool). of_number key.seq (cond b (x ∷ lane_rest) lane_rest)) (ne_eqb x.lane lane beside)))
    (cases_eq x.lane lane)

-- a transaction that was told of has a lane
found_by : (config : ConfigValue) (key : TxnKey) (user : ℕ) (x : Bundle) (of_rest : List Bundle) → IsAtHome config user x → (has : Bool) → has_key key x ≡ has
    → (list_any is_end (told_in of_rest) ≡ true → (lane : ℕ) × (place_of config key ≡ at user lane))
    → list_any is_end (told_in (cond has (x ∷ of_rest) of_rest)) ≡ true → (lane : ℕ) × (place_of config key ≡ at user lane)
found_by config key user x of_rest home true has later ended = (x.lane, ap (place_of config) (sym (key_is key x has)) ∙ home)
found_by config key user x of_rest home false has later ended = later ended

lane_of : (config : ConfigValue) (key : TxnKey) (user : ℕ) (bundles : List Bundle) → All (IsAtHome config user) bundles
    → list_any is_end (told_under key bundles) ≡ true → (lane : ℕ) × (place_of config key ≡ at user lane)
lane_of config key user [] homes ended = absurd (false≢true ended)
lane_of config key user (x ∷ xs) homes ended =
    found_by config key user x (filter (has_key key) xs) (All-head (IsAtHome config user) x xs homes) (has_key key x) refl
    (lane_of config key user xs (All-tail (IsAtHome config user) x xs homes)) ended

-- ---- longer histories

earlier_legal : (lanes : ℕ → ℕ → State) (later earlier : List Happening) → IsHistory lanes (later ++ earlier) → IsHistory lanes earlier
earlier_legal lanes [] earlier legal = legal
earlier_legal lanes (steps user lane event ∷ later) earlier legal = earlier_legal lanes later earlier legal.2
earlier_legal lanes (takes user ∷ later) earlier legal = earlier_legal lanes later earlier legal.1

earlier_routed : (config : ConfigValue) (later earlier : List Happening) → AreRouted config (later ++ earlier) → AreRouted config earlier
earlier_routed config [] earlier routed = routed
earlier_routed config (steps user lane event ∷ later) earlier routed = earlier_routed config later earlier routed.1
earlier_routed config (takes user ∷ later) earlier routed = earlier_routed config later earlier routed

more_by : (all before told : List Bundle) (b : Bool) → ((more : List Bundle) × (all ≡ before ++ more))
    → (more : List Bundle) × ((if b then all ++ told else all) ≡ before ++ more)
more_by all before told true more = (more.0 ++ told, ap (λ (l : List Bundle). l ++ told) more.1 ∙ append_assoc before more.0 told)
more_by all before told false more = more

told_later : (lanes : ℕ → ℕ → State) (later earlier : List Happening) (user : ℕ)
    → (more : List Bundle) × (mine lanes (later ++ earlier) user ≡ mine lanes earlier user ++ more)
told_later lanes [] earlier user = ([], sym (append-nil (mine lanes earlier user)))
told_later lanes (steps stepper lane event ∷ later) earlier user =
    more_by (mine lanes (later ++ earlier) user) (mine lanes earlier user) (told_by lanes (later ++ earlier) stepper lane event) (stepper == user)
    (told_later lanes later earlier user)
told_later lanes (takes taker ∷ later) earlier user = told_later lanes later earlier user

-- a lane tells nothing more of a number whose word has ended
lane_over : (lanes : ℕ → ℕ → State) (later earlier : List Happening) (user lane number : ℕ) → AreIdle lanes → IsHistory lanes (later ++ earlier)
    → list_any is_end (told_of number (of_lane lane (mine lanes earlier user))) ≡ true
    → told_of number (of_lane lane (mine lanes (later ++ earlier) user)) ≡ told_of number (of_lane lane (mine lanes earlier user))
lane_over lanes later earlier user lane number idle legal ended =
    let more = told_later lanes later earlier user in
    let xs : List Bundle = of_lane lane (mine lanes earlier user) in
    let ys : List Bundle = of_lane lane more.0 in
    let split : of_lane lane (mine lanes (later ++ earlier) user) ≡ xs ++ ys =
    ap (of_lane lane) more.1 ∙ of_lane-append lane (mine lanes earlier user) more.0 in
    let list : IsLaneList user lane (lanes user lane).source (xs ++ ys) =
    subst (IsLaneList user lane (lanes user lane).source) split (tells_lane_lists lanes (later ++ earlier) user lane idle legal).0 in
    let before = (tells_lane_lists lanes earlier user lane idle (earlier_legal lanes later earlier legal)).0 in
    let word : IsWordGroup (told_of number xs) = (before.begun number, ended) in
    ap (told_of number) split ∙ told_of-append number xs ys
    ∙ ap (λ (l : List Indication). told_of number xs ++ l)
    (told_of-none number ys (told_of-over user lane (lanes user lane).source number xs ys list word))
    ∙ append-nil (told_of number xs)

-- ---- the law

own_more : (config : ConfigValue) (later earlier : List Happening) (user lane : ℕ) (key : TxnKey) → IsTrue (is_config config)
    → AreRouted config (later ++ earlier) → IsHistory (first_lane config) (later ++ earlier) → place_of config key ≡ at user lane
    → list_any is_end (told_under key (mine (first_lane config) earlier user)) ≡ true
    → told_under key (mine (first_lane config) (later ++ earlier) user) ≡ told_under key (mine (first_lane config) earlier user)
own_more config later earlier user lane key holds routed legal is ended =
    let lanes : ℕ → ℕ → State = first_lane config in
    let before : told_under key (mine lanes earlier user) ≡ told_of key.seq (of_lane lane (mine lanes earlier user)) =
    ap told_in (same_bundles config key user lane (mine lanes earlier user) holds is
    (tells_at_home config earlier user holds (earlier_routed config later earlier routed) (earlier_legal lanes later earlier legal))) in
    ap told_in (same_bundles config key user lane (mine lanes (later ++ earlier) user) holds is (tells_at_home config (later ++ earlier) user holds routed legal))
    ∙ lane_over lanes later earlier user lane key.seq (idle_lanes config holds) legal
    (subst (λ (l : List Indication). list_any is_end l ≡ true) before ended)
    ∙ sym before

pub tells_nothing_more : TellsNothingMore
tells_nothing_more config later earlier user other key holds routed legal ended =
    let lanes : ℕ → ℕ → State = first_lane config in
    let routed' = earlier_routed config later earlier routed in
    let legal' = earlier_legal lanes later earlier legal in
    let found = lane_of config key user (mine lanes earlier user) (tells_at_home config earlier user holds routed' legal') ended in
    ⊎_elim
    (λ (this : user ≡ other).
    subst (λ (u : ℕ). told_under key (mine lanes (later ++ earlier) u) ≡ told_under key (mine lanes earlier u)) this
    (own_more config later earlier user found.0 key holds routed legal found.1 ended))
    (λ (away : user ≡ other → ⊥).
    none_under config key user found.0 other (mine lanes (later ++ earlier) other) found.1 away (tells_at_home config (later ++ earlier) other holds routed legal)
    ∙ sym (none_under config key user found.0 other (mine lanes earlier other) found.1 away (tells_at_home config earlier other holds routed' legal')))
    (cases_eq user other)
