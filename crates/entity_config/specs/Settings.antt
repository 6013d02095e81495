-- Meaning. How a setting changes a configuration.
use Rattle.std.specs.Prelude.{ℕ, if◌then◌else◌, map, Result, Ok, Err}
use Rattle.cfdp_types.specs.declared.limits.TheConstants.{CONFIGURED_NUMBER, EXPIRATIONS, QUEUE_BUNDLES}
use Rattle.cfdp_types.specs.declared.names.Checksum.{Checksum}
use Rattle.cfdp_types.specs.declared.names.Handler.{Handler}
use Rattle.cfdp_types.specs.declared.names.Role.{Role}
use Rattle.cfdp_types.specs.declared.names.Role.TheVariants.{Send, RecvOne, RecvTwo}
use Rattle.cfdp_types.specs.declared.params.FaultTables.{FaultTables}
use Rattle.cfdp_types.specs.Handlers.{is_allowed, with_handler}
use Rattle.cfdp_types.specs.declared.params.ParamsParts.{ParamsParts}
use Rattle.config_reading.specs.declared.fault.ConfigFault.{ConfigFault}
use Rattle.config_reading.specs.declared.fault.ConfigFault.TheVariants as fault
use Rattle.config_reading.specs.declared.fault.Key.{Key}
use Rattle.config_reading.specs.declared.fault.Key.TheVariants as key
use Rattle.cfdp_types.specs.declared.params.ExpirationLimits.{ExpirationLimits}
use Rattle.entity_config.specs.declared.change.Limited.{Limited}
use Rattle.entity_config.specs.declared.change.Limited.TheVariants.{Ack, Nak, Check}
use Rattle.entity_config.specs.declared.setting.Setting.{Setting}
use Rattle.entity_config.specs.declared.setting.Setting.TheVariants as setting
use Rattle.config_reading.specs.Faults.{table_key}
use Rattle.config_reading.specs.Texts.{is_within}
use Rattle.config_reading.specs.Values.{ConfigValue, PeerValue}

-- a remote entity with other parameters
abbrev pub with_params : (ParamsParts → ParamsParts) → PeerValue → PeerValue
with_params change peer = record { remote = record { id = peer.remote.id; user = peer.remote.user; params = change peer.remote.params }; address = peer.address }

-- the configuration with each remote's parameters changed
abbrev pub with_all_params : (ParamsParts → ParamsParts) → ConfigValue → ConfigValue
with_all_params change config = record config { peers = map (with_params change) config.peers }

-- limits of expirations, one of them changed
abbrev pub limit_changed : Limited → ℕ → ExpirationLimits → ExpirationLimits
limit_changed Ack limit limits = record limits { ack = limit }
limit_changed Nak limit limits = record limits { nak = limit }
limit_changed Check limit limits = record limits { check = limit }

-- parameters with one limit of expirations changed
abbrev pub with_limit : Limited → ℕ → ParamsParts → ParamsParts
with_limit limited limit params = record params { limits = limit_changed limited limit params.limits }

-- fault tables with one handler changed in the table of the role
abbrev pub tables_changed : Role → ℕ → Handler → FaultTables → FaultTables
tables_changed Send condition handler tables = record tables { send = with_handler tables.send condition handler }
tables_changed RecvOne condition handler tables = record tables { receive_one = with_handler tables.receive_one condition handler }
tables_changed RecvTwo condition handler tables = record tables { receive_two = with_handler tables.receive_two condition handler }

-- parameters with one handler changed
abbrev pub with_role_handler : Role → ℕ → Handler → ParamsParts → ParamsParts
with_role_handler role condition handler params = record params { tables = tables_changed role condition handler params.tables }

-- parameters with another checksum
abbrev pub with_checksum : Checksum → ParamsParts → ParamsParts
with_checksum checksum params = record params { checksum = checksum }

-- the configuration where the number is in the range, else OutOfRange for the key
abbrev pub if_within : Key → ℕ → ℕ → ℕ → ConfigValue → Result ConfigValue ConfigFault
if_within k least most n config = if is_within least most n then Ok config else Err (fault.OutOfRange k)

-- the configuration with a limit changed for every remote entity, or OutOfRange for the key
abbrev pub limit_set : Limited → Key → ℕ → ConfigValue → Result ConfigValue ConfigFault
limit_set limited k n config = if_within k 1 EXPIRATIONS n (with_all_params (with_limit limited n) config)

-- the configuration with the setting changed, or the fault
abbrev pub with_setting : Setting → ConfigValue → Result ConfigValue ConfigFault
with_setting (setting.Capacity n) config = if_within key.Capacity 1 QUEUE_BUNDLES n (record config { entity = record config.entity { capacity = n } })
with_setting (setting.First n) config = if_within key.First 0 CONFIGURED_NUMBER n (record config { entity = record config.entity { first = n } })
with_setting (setting.AckLimit n) config = limit_set Ack key.AckLimit n config
with_setting (setting.NakLimit n) config = limit_set Nak key.NakLimit n config
with_setting (setting.CheckLimit n) config = limit_set Check key.CheckLimit n config
with_setting (setting.Handler role condition handler) config =
    if is_allowed role condition handler then Ok (with_all_params (with_role_handler role condition handler) config) else Err (fault.HandlerNotAllowed (table_key role))
with_setting (setting.Checksum checksum) config = Ok (with_all_params (with_checksum checksum) config)
