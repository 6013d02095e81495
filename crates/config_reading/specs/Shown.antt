-- Of the code. What contracts see of a configuration.
use Rattle.std.specs.Prelude.{map, string_bytes, String, Vec}
use Rattle.std.specs.declared.alloc.Global.{Global}
use Rattle.config_reading.specs.declared.entity.EntitySettings.{EntitySettings}
use Rattle.config_reading.specs.declared.parts.ConfigParts.{ConfigParts}
use Rattle.config_reading.specs.declared.remote.Peer.{Peer}
use Rattle.config_reading.specs.Values.{ConfigValue, PeerValue}

-- a remote entity, with its address as text
abbrev pub peer_shown : Peer → PeerValue
peer_shown peer = record { remote = peer.remote; address = string_bytes peer.address }

-- the configuration, with its names and addresses as texts
abbrev pub shown : EntitySettings → Vec (String Global) Global → Vec Peer Global → ConfigValue
shown entity users peers = record { entity = entity; users = map string_bytes users.items; peers = map peer_shown peers.items }

-- the parts that were read, with their names and addresses as texts
abbrev pub parts_shown : ConfigParts → ConfigValue
parts_shown parts = shown parts.entity parts.users parts.peers
