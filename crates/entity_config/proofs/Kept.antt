-- A configuration keeps its limits where the parameters of its remote entities change.
use Rattle.std.proofs.Common.{◌≡◌, Bool, IsTrue, ◌&&◌, List, [], ◌∷◌, length, map, refl, ap, sym, subst}
use Rattle.std.specs.List.{list_all}
use Rattle.cfdp_types.specs.declared.params.ParamsParts.{ParamsParts}
use Rattle.config_reading.specs.declared.entity.EntitySettings.{EntitySettings}
use Rattle.entity_config.specs.Settings.{with_all_params, with_params}
use Rattle.config_reading.specs.Values.{ConfigValue, PeerValue, are_of, are_routes, are_users, is_config, is_entity, route_of}

same_routes : (change : ParamsParts → ParamsParts) (peers : List PeerValue) → map route_of (map (with_params change) peers) ≡ map route_of peers
same_routes change [] = refl
same_routes change (peer ∷ peers) = ap (λ routes. route_of peer ∷ routes) (same_routes change peers)

same_params : (entity : EntitySettings) (change : ParamsParts → ParamsParts) → ((params : ParamsParts) → are_of entity (change params) ≡ are_of entity params) → (peers : List PeerValue)
    → list_all (λ peer. are_of entity peer.remote.params) (map (with_params change) peers) ≡ list_all (λ peer. are_of entity peer.remote.params) peers
same_params entity change keeps [] = refl
same_params entity change keeps (peer ∷ peers) = (λ i. keeps peer.remote.params i && same_params entity change keeps peers i)

pub config_kept : (change : ParamsParts → ParamsParts) (config : ConfigValue) → ((params : ParamsParts) → are_of config.entity (change params) ≡ are_of config.entity params)
    → IsTrue (is_config config) → IsTrue (is_config (with_all_params change config))
config_kept change config keeps holds =
    let P : Bool → Type 0 = λ b. IsTrue b in
    subst P
    (λ i. is_entity config.entity && are_users config.users && are_routes config.entity (length config.users) (sym (same_routes change config.peers) i)
    && sym (same_params config.entity change keeps config.peers) i)
    holds
