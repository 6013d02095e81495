-- A configuration keeps its limits where a setting changes it.
use Rattle.std.proofs.Common.{◌≡◌, ℕ, Bool, true, false, IsTrue, ◌&&◌, if◌then◌else◌, nat_le, length, map, Result, Ok, Err, refl, subst}
use Rattle.std.specs.List.{list_all}
use Rattle.std.proofs.lemmas.Bool.{and_parts}
use Rattle.cfdp_types.specs.declared.limits.TheConstants.{CONFIGURED_NUMBER, EXPIRATIONS, ID_OCTETS, QUEUE_BUNDLES, RECEIVING_LANES, SEGMENT_OCTETS_LEAST, SEGMENT_OCTETS_MOST, SENDING_LANES}
use Rattle.cfdp_types.specs.Handlers.{is_allowed}
use Rattle.config_reading.specs.declared.entity.EntitySettings.{EntitySettings}
use Rattle.config_reading.specs.declared.fault.ConfigFault.{ConfigFault}
use Rattle.config_reading.specs.declared.fault.ConfigFault.TheVariants as fault
use Rattle.config_reading.specs.declared.fault.Key.{Key}
use Rattle.config_reading.specs.declared.fault.Key.TheVariants as key
use Rattle.config_reading.specs.Faults.{table_key}
use Rattle.config_reading.specs.Texts.{is_within}
use Rattle.config_reading.specs.Values.{ConfigValue, are_of, are_routes, are_users, is_config, is_entity, is_id, route_of}
use Rattle.entity_config.specs.declared.setting.Setting.{Setting}
use Rattle.entity_config.specs.declared.setting.Setting.TheVariants as setting
use Rattle.entity_config.specs.Settings.{if_within, with_all_params, with_checksum, with_role_handler, with_setting}
use Rattle.entity_config.proofs.Kept.{config_kept}

-- a test that held is put in another's place
middle : (a old new b : Bool) → (a && old && b) ≡ true → new ≡ true → (a && new && b) ≡ true
middle true true true b all is = all
middle true true false b all is = absurd cc
middle true false new b all is = absurd cc
middle false old new b all is = absurd cc

behind : (a old new b c d e : Bool) → (a && old && b && c && d && e) ≡ true → new ≡ true → (a && new && b && c && d && e) ≡ true
behind true true true b c d e all is = all
behind true true false b c d e all is = absurd cc
behind true false new b c d e all is = absurd cc
behind false old new b c d e all is = absurd cc

first : (old new a b c : Bool) → (old && a && b && c) ≡ true → (old ≡ true → new ≡ true) → (new && a && b && c) ≡ true
first true true a b c all is = all
first true false a b c all is = let same = is refl in absurd cc
first false new a b c all is = absurd cc

-- ---- the entity's own settings

capacity_kept : (config : ConfigValue) (n : ℕ) → is_within 1 QUEUE_BUNDLES n ≡ true → IsTrue (is_config config)
    → IsTrue (is_config (record config { entity = record config.entity { capacity = n } }))
capacity_kept config n within holds =
    let entity : EntitySettings = config.entity in
    first (is_entity entity) (is_entity (record entity { capacity = n })) (are_users config.users)
    (are_routes entity (length config.users) (map route_of config.peers)) (list_all (λ peer. are_of entity peer.remote.params) config.peers) holds
    (λ was. middle
    (is_within 1 ID_OCTETS entity.lengths.entity_octets && is_within 1 ID_OCTETS entity.lengths.sequence_octets
    && is_id entity.lengths.entity_octets entity.local.0 && nat_le entity.first CONFIGURED_NUMBER && is_within 1 SENDING_LANES entity.put_lanes
    && is_within 1 RECEIVING_LANES entity.receive_lanes)
    (is_within 1 QUEUE_BUNDLES entity.capacity) (is_within 1 QUEUE_BUNDLES n) (is_within SEGMENT_OCTETS_LEAST SEGMENT_OCTETS_MOST entity.segment_octets) was within)

first_kept : (config : ConfigValue) (n : ℕ) → nat_le n CONFIGURED_NUMBER ≡ true → IsTrue (is_config config)
    → IsTrue (is_config (record config { entity = record config.entity { first = n } }))
first_kept config n within holds =
    let entity : EntitySettings = config.entity in
    first (is_entity entity) (is_entity (record entity { first = n })) (are_users config.users)
    (are_routes entity (length config.users) (map route_of config.peers)) (list_all (λ peer. are_of entity peer.remote.params) config.peers) holds
    (λ was. behind
    (is_within 1 ID_OCTETS entity.lengths.entity_octets && is_within 1 ID_OCTETS entity.lengths.sequence_octets && is_id entity.lengths.entity_octets entity.local.0)
    (nat_le entity.first CONFIGURED_NUMBER) (nat_le n CONFIGURED_NUMBER) (is_within 1 SENDING_LANES entity.put_lanes)
    (is_within 1 RECEIVING_LANES entity.receive_lanes) (is_within 1 QUEUE_BUNDLES entity.capacity)
    (is_within SEGMENT_OCTETS_LEAST SEGMENT_OCTETS_MOST entity.segment_octets) was within)

-- ---- all settings

-- what is kept, or refused, stays kept
abbrev pub IsKept : Result ConfigValue ConfigFault → Type 0
IsKept (Ok config) = IsTrue (is_config config)
IsKept (Err why) = Unit {0}

kept_within : (k : Key) (least most n : ℕ) (config : ConfigValue) → (is_within least most n ≡ true → IsTrue (is_config config)) → IsKept (if_within k least most n config)
kept_within k least most n config holds = by (is_within least most n) refl
  where
    by : (within : Bool) → is_within least most n ≡ within → IsKept (if within then Ok config else Err (fault.OutOfRange k))
    by true is = holds is
    by false is = tt

setting_kept : (change : Setting) (config : ConfigValue) → IsTrue (is_config config) → IsKept (with_setting change config)
setting_kept (setting.Capacity n) config holds =
    kept_within key.Capacity 1 QUEUE_BUNDLES n (record config { entity = record config.entity { capacity = n } }) (λ within. capacity_kept config n within holds)
setting_kept (setting.First n) config holds =
    kept_within key.First 0 CONFIGURED_NUMBER n (record config { entity = record config.entity { first = n } }) (λ within. first_kept config n (and_parts (nat_le 0 n) (nat_le n CONFIGURED_NUMBER) within).1 holds)
setting_kept (setting.AckLimit n) config holds = kept_within key.AckLimit 1 EXPIRATIONS n _ (λ within. config_kept _ config (λ params. refl) holds)
setting_kept (setting.NakLimit n) config holds = kept_within key.NakLimit 1 EXPIRATIONS n _ (λ within. config_kept _ config (λ params. refl) holds)
setting_kept (setting.CheckLimit n) config holds = kept_within key.CheckLimit 1 EXPIRATIONS n _ (λ within. config_kept _ config (λ params. refl) holds)
setting_kept (setting.Checksum checksum) config holds = config_kept (with_checksum checksum) config (λ params. refl) holds
setting_kept (setting.Handler role condition handler) config holds = by (is_allowed role condition handler)
  where
    by : (allowed : Bool) → IsKept (if allowed then Ok (with_all_params (with_role_handler role condition handler) config) else Err (fault.HandlerNotAllowed (table_key role)))
    by true = config_kept (with_role_handler role condition handler) config (λ params. refl) holds
    by false = tt

pub set_kept : (change : Setting) (config after : ConfigValue) → with_setting change config ≡ Ok after → IsTrue (is_config config) → IsTrue (is_config after)
set_kept change config after is holds = subst IsKept is (setting_kept change config holds)
