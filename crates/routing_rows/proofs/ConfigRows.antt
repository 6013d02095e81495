-- Worked values of configurations: texts, limits and settings.
use Rattle.std.proofs.Common.{◌≡◌, ℕ, true, false, List, [], ◌∷◌, map, replicate, Option, Some, None, Ok, Err, codes, refl}
use Rattle.cfdp_types.specs.declared.names.Checksum.TheVariants.{Null}
use Rattle.cfdp_types.specs.declared.names.Handler.TheVariants.{Suspend, Ignore}
use Rattle.cfdp_types.specs.declared.names.Role.TheVariants.{RecvOne}
use Rattle.config_reading.specs.declared.fault.ConfigFault.TheVariants as fault
use Rattle.config_reading.specs.declared.fault.Key.TheVariants as key
use Rattle.entity_config.specs.declared.setting.Setting.TheVariants as setting
use Rattle.entity_config.specs.Reference.{reference_config}
use Rattle.entity_config.specs.Settings.{with_setting, with_params}
use Rattle.config_reading.specs.Texts.{is_address, is_user_name}
use Rattle.config_reading.specs.Values.{Route, are_routes, is_config, is_id}

addresses : map is_address (codes "127.0.0.1:7001" ∷ codes "0.0.0.0:0" ∷ codes "255.255.255.255:65535" ∷ []) ≡ true ∷ true ∷ true ∷ []
addresses = refl

no_addresses : map is_address
    (codes "host:1" ∷ codes "127.0.0.1" ∷ codes "127.0.0.1:" ∷ codes "127.0.0:1" ∷ codes "256.0.0.1:1" ∷ codes "1.2.3.4:65536" ∷ codes "01.2.3.4:1" ∷ codes "1.2.3.4:01"
    ∷ codes "1.2.3.4:1 " ∷ codes "1.2.3.4.5:1" ∷ [] ∷ [])
    ≡ replicate 11 false
no_addresses = refl

user_names : map is_user_name (codes "alice" ∷ codes "7" ∷ replicate 32 97 ∷ []) ≡ true ∷ true ∷ true ∷ []
user_names = refl

no_user_names : map is_user_name ([] ∷ codes "Alice" ∷ codes "a b" ∷ replicate 33 97 ∷ []) ≡ false ∷ false ∷ false ∷ false ∷ []
no_user_names = refl

ids_of_one_octet : map (is_id 1) (0 ∷ 255 ∷ 256 ∷ []) ≡ true ∷ true ∷ false ∷ []
ids_of_one_octet = refl

ids_of_eight_octets : map (is_id 8) (9223372036854775807 ∷ 9223372036854775808 ∷ []) ≡ true ∷ false ∷ []
ids_of_eight_octets = refl

reference_keeps_limits : is_config reference_config ≡ true
reference_keeps_limits = refl

abbrev route : ℕ → Option ℕ → Route
route id user = record { id = record { 0 = id }; user = user; address = codes "1.2.3.4:5" }

-- an ID may not be the entity's own, nor stand twice, and the user has to be there
routes_refused : map (are_routes reference_config.entity 2)
    ((route 2 None ∷ []) ∷ (route 1 None ∷ route 1 None ∷ []) ∷ (route 1 (Some 2) ∷ []) ∷ (route 256 None ∷ []) ∷ []) ≡ replicate 4 false
routes_refused = refl

abbrev sources : List ℕ → List Route
sources ids = map (λ id. route id (Some 0)) ids

-- eight sources of one user, and not nine
eight_sources : are_routes reference_config.entity 2 (sources (10 ∷ 11 ∷ 12 ∷ 13 ∷ 14 ∷ 15 ∷ 16 ∷ 17 ∷ [])) ≡ true
eight_sources = refl

nine_sources : are_routes reference_config.entity 2 (sources (10 ∷ 11 ∷ 12 ∷ 13 ∷ 14 ∷ 15 ∷ 16 ∷ 17 ∷ 18 ∷ [])) ≡ false
nine_sources = refl

-- settings
capacity_zero : with_setting (setting.Capacity 0) reference_config ≡ Err (fault.OutOfRange key.Capacity)
capacity_zero = refl

capacity_most : with_setting (setting.Capacity 1024) reference_config ≡ Ok (record reference_config { entity = record reference_config.entity { capacity = 1024 } })
capacity_most = refl

capacity_above : with_setting (setting.Capacity 1025) reference_config ≡ Err (fault.OutOfRange key.Capacity)
capacity_above = refl

first_set : with_setting (setting.First 63) reference_config ≡ Ok (record reference_config { entity = record reference_config.entity { first = 63 } })
first_set = refl

first_above : with_setting (setting.First 9223372036854775808) reference_config ≡ Err (fault.OutOfRange key.First)
first_above = refl

limits_above : map (λ s. with_setting s reference_config) (setting.AckLimit 256 ∷ setting.NakLimit 0 ∷ setting.CheckLimit 300 ∷ [])
    ≡ Err (fault.OutOfRange key.AckLimit) ∷ Err (fault.OutOfRange key.NakLimit) ∷ Err (fault.OutOfRange key.CheckLimit) ∷ []
limits_above = refl

nak_limit_set : with_setting (setting.NakLimit 7) reference_config
    ≡ Ok (record reference_config { peers = map (with_params (λ params. record params { limits = record { ack = 2; nak = 7; check = 2 } })) reference_config.peers })
nak_limit_set = refl

checksum_set : with_setting (setting.Checksum Null) reference_config
    ≡ Ok (record reference_config { peers = map (with_params (λ params. record params { checksum = Null })) reference_config.peers })
checksum_set = refl

suspend_refused : with_setting (setting.Handler RecvOne 8 Suspend) reference_config ≡ Err (fault.HandlerNotAllowed key.ReceiveOne)
suspend_refused = refl

ignore_set : with_setting (setting.Handler RecvOne 10 Ignore) reference_config
    ≡ Ok (record reference_config {
      peers = map (with_params (λ params. record params {
        tables = record params.tables {
          receive_one = record params.tables.receive_one {
            handlers = record params.tables.receive_one.handlers { check_limit = Ignore };
          };
        };
      })) reference_config.peers;
    })
ignore_set = refl
