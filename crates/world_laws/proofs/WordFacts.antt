-- What users are told of transactions are words, and complete deliveries are of good files, by key.
use Rattle.std.proofs.Common.{◌≡◌, ℕ, ◌⊎◌, inl, inr, Bool, true, false, cond, IsTrue, if◌then◌else◌, All, List, [], ◌∷◌, Contains, refl, sym, ap, ◌∙◌, subst, ⊎_elim, arith}
use Rattle.std.specs.List.{filter}
use Rattle.std.proofs.lemmas.List.Elements.{All-head, All-tail}
use Rattle.cfdp_types.specs.declared.key.EntityId.{EntityId}
use Rattle.cfdp_types.specs.declared.key.TxnKey.{TxnKey}
use Rattle.cfdp_types.specs.declared.names.Delivery.TheVariants.{Complete}
use Rattle.cfdp_types.specs.declared.names.FileStatus.{FileStatus}
use Rattle.config_reading.specs.Values.{ConfigValue, is_config}
use Rattle.indications.specs.declared.bundle.Bundle.{Bundle}
use Rattle.indications.specs.declared.indication.Indication.{Indication}
use Rattle.indications.specs.declared.indication.Indication.TheVariants as told
use Rattle.indications.specs.declared.side.Side.{Side}
use Rattle.indications.specs.declared.side.Side.TheVariants.{Sender, Receiver}
use Rattle.indications.specs.LaneLists.{of_lane, told_in, told_of, IsBegunGroup}
use Rattle.indications.specs.Words.{IsBegunOf}
use Rattle.lane_table.specs.Keeping.{IsOfSide}
use Rattle.lane_table.specs.Lane.{State, key_at}
use Rattle.lane_table.specs.Logs.{end_of}
use Rattle.world_table.specs.Histories.{Happening, mine, IsHistory}
use Rattle.world_table.proofs.HistoryFacts.{tells_lane_lists}
use Rattle.world_table.proofs.LogFacts.{delivers_good}
use Rattle.entity_routing.specs.Places.{is_local, place_of}
use Rattle.entity_routing.proofs.PlaceFacts.{own_sent, others_received}
use Rattle.entity_parts.specs.FirstLanes.{first_lane, lane_for}
use Rattle.world_core.specs.Routed.{AreRouted}
use Rattle.world_laws.specs.EntityLaws.{IsAtHome, DeliversFiles, HasFile, TellsWords, has_key, told_under}
use Rattle.world_laws.proofs.EndFacts.{at, key_is, same_bundles}
use Rattle.world_laws.proofs.KeyFacts.{idle_lanes, tells_at_home}

-- ---- a transaction that a user is told of has a lane of the user

home_by : (config : ConfigValue) (key : TxnKey) (user : ℕ) (x : Bundle) (rest : List Bundle) → IsAtHome config user x → (has : Bool) → has_key key x ≡ has
    → ((lane : ℕ) × (place_of config key ≡ at user lane)) ⊎ (rest ≡ [])
    → ((lane : ℕ) × (place_of config key ≡ at user lane)) ⊎ (cond has (x ∷ rest) rest ≡ [])
home_by config key user x rest home true has later = inl (x.lane, ap (place_of config) (sym (key_is key x has)) ∙ home)
home_by config key user x rest home false has later = later

home_or_none : (config : ConfigValue) (key : TxnKey) (user : ℕ) (bundles : List Bundle) → All (IsAtHome config user) bundles
    → ((lane : ℕ) × (place_of config key ≡ at user lane)) ⊎ (filter (has_key key) bundles ≡ [])
home_or_none config key user [] homes = inr refl
home_or_none config key user (x ∷ xs) homes =
    home_by config key user x (filter (has_key key) xs) (All-head (IsAtHome config user) x xs homes) (has_key key x) refl
    (home_or_none config key user xs (All-tail (IsAtHome config user) x xs homes))

-- ---- which end that lane has

end_by : (config : ConfigValue) (key : TxnKey) (user lane : ℕ) → IsTrue (is_config config) → place_of config key ≡ at user lane
    → (own : Bool) → is_local config key.source ≡ own → end_of (first_lane config user lane).side ≡ (if own then Sender else Receiver)
end_by config key user lane holds is true own =
    ap (λ (s : State). end_of s.side) (ap (lane_for config user lane) (own_sent config key (record { user = user; lane = lane }) holds own is).1)
end_by config key user lane holds is false other =
    ap (λ (s : State). end_of s.side) (ap (lane_for config user lane) (others_received config key (record { user = user; lane = lane }) holds other is).found)

-- the source of what it receives
source_is : (config : ConfigValue) (key : TxnKey) (user lane : ℕ) → IsTrue (is_config config) → place_of config key ≡ at user lane
    → is_local config key.source ≡ false → (first_lane config user lane).source ≡ key.source
source_is config key user lane holds is other =
    let from = others_received config key (record { user = user; lane = lane }) holds other is in
    ap (λ (s : State). s.source) (ap (lane_for config user lane) from.found) ∙ from.id

-- ---- the laws

-- a beginning of a word, by its side
begun_by : (side : Side) (told : List Indication) → IsOfSide side told → IsBegunGroup told → IsBegunOf side told
begun_by side [] sided begun = tt
begun_by side (first ∷ rest) sided begun = subst (λ (s : Side). IsBegunOf s (first ∷ rest)) (sym sided) begun

lane_words : (config : ConfigValue) (history : List Happening) (user lane : ℕ) (key : TxnKey) → IsTrue (is_config config) → AreRouted config history
    → IsHistory (first_lane config) history → place_of config key ≡ at user lane
    → IsBegunOf (end_of (first_lane config user lane).side) (told_under key (mine (first_lane config) history user))
lane_words config history user lane key holds routed legal is =
    let list = tells_lane_lists (first_lane config) history user lane (idle_lanes config holds) legal in
    let same = ap told_in (same_bundles config key user lane (mine (first_lane config) history user) holds is (tells_at_home config history user holds routed legal)) in
    subst (IsBegunOf (end_of (first_lane config user lane).side)) (sym same)
    (begun_by (end_of (first_lane config user lane).side) (told_of key.seq (of_lane lane (mine (first_lane config) history user)))
    (list.1 key.seq) (list.0.begun key.seq))

pub tells_words : TellsWords
tells_words config history user key holds routed legal =
    let side : Side = (if is_local config key.source then Sender else Receiver) in
    let bundles : List Bundle = mine (first_lane config) history user in
    ⊎_elim
    (λ (found : (lane : ℕ) × (place_of config key ≡ at user lane)).
    subst (λ (s : Side). IsBegunOf s (told_under key bundles))
    (end_by config key user found.0 holds found.1 (is_local config key.source) refl)
    (lane_words config history user found.0 key holds routed legal found.1))
    (λ (none : filter (has_key key) bundles ≡ []). subst (IsBegunOf side) (ap told_in (sym none)) tt)
    (home_or_none config key user bundles (tells_at_home config history user holds routed legal))

none_told : (x : Indication) → Contains [] x → ⊥
none_told x contained = let within = contained.1 in omega (arith, within)

file_at : (config : ConfigValue) (history : List Happening) (user lane : ℕ) (key : TxnKey) (condition : ℕ) (status : FileStatus) → IsTrue (is_config config)
    → AreRouted config history → IsHistory (first_lane config) history → is_local config key.source ≡ false → place_of config key ≡ at user lane
    → Contains (told_under key (mine (first_lane config) history user)) (told.TransactionFinished condition Complete status)
    → HasFile config history user key
file_at config history user lane key condition status holds routed legal other is contained =
    let same = ap told_in (same_bundles config key user lane (mine (first_lane config) history user) holds is (tells_at_home config history user holds routed legal)) in
    let file = delivers_good (first_lane config) history user lane key.seq condition status (idle_lanes config holds) legal
    (end_by config key user lane holds is false other)
    (subst (λ (l : List Indication). Contains l (told.TransactionFinished condition Complete status)) same contained) in
    record {
      lane = lane;
      place = is;
      file = file;
      key_is = file.is_received.key_is ∙ ap (λ (source : EntityId). key_at source key.seq) (source_is config key user lane holds is other);
    }

pub delivers_files : DeliversFiles
delivers_files config history user key condition status holds routed legal other contained =
    ⊎_elim
    (λ (found : (lane : ℕ) × (place_of config key ≡ at user lane)).
    file_at config history user found.0 key condition status holds routed legal other found.1 contained)
    (λ (none : filter (has_key key) (mine (first_lane config) history user) ≡ []).
    absurd (none_told (told.TransactionFinished condition Complete status)
    (subst (λ (l : List Indication). Contains l (told.TransactionFinished condition Complete status)) (ap told_in none) contained)))
    (home_or_none config key user (mine (first_lane config) history user) (tells_at_home config history user holds routed legal))
