-- Meaning. Where a PDU goes.
use Rattle.std.specs.Prelude.{◌≡◌, ◌⊎◌, ◌==◌, ℕ, List, [], ◌∷◌, Option, Some, None, find, slice_get, if◌then◌else◌}
use Rattle.std.specs.Option.{option_map}
use Rattle.std.specs.Net.Grammar.{IsSocketText}
use Rattle.std.specs.Net.Socket.{socket_ip}
use Rattle.std.specs.declared.net.socket_addr.SocketAddr.{SocketAddr}
use Rattle.cfdp_types.specs.declared.key.EntityId.{EntityId}
use Rattle.pdu_values.specs.Pdu.{PduValue, is_toward_sender}
use Rattle.config_reading.specs.Values.{ConfigValue, has_id}
use Rattle.program_udp.specs.declared.addresses.Compared.{Compared}
use Rattle.program_udp.specs.declared.addresses.Compared.TheVariants.{Whole, Host}
use Rattle.program_udp.specs.declared.addresses.PeerAddress.{PeerAddress}

-- the entity that a PDU goes to: the one that sends the file, or the one that receives it, by the PDU's direction
abbrev pub other_end_of : PduValue → EntityId
other_end_of pdu = if is_toward_sender pdu.body then pdu.header.source else pdu.header.destination

-- the entity that a PDU comes from, where it goes the way that it says
abbrev pub near_end_of : PduValue → EntityId
near_end_of pdu = if is_toward_sender pdu.body then pdu.header.destination else pdu.header.source

-- the address of an entity in a configuration, as text
abbrev pub address_text : ConfigValue → EntityId → Option (List ℕ)
address_text config id = option_map (λ peer. peer.address) (find (has_id id) config.peers)

-- the entity listens at this address, by the configuration
abbrev pub ListensAt : ConfigValue → EntityId → SocketAddr → Type 0
ListensAt config id address = (text : List ℕ) × (address_text config id ≡ Some text) × IsSocketText text address

-- the entity has this number among the remote entities of the configuration
abbrev pub StandsAt : ConfigValue → PeerAddress → Type 0
StandsAt config peer =
    option_map (λ remote. remote.id) (option_map (λ other. other.remote) (slice_get config.peers peer.place)) ≡ Some peer.id

-- an address fits another: it is the same, or has the same host
abbrev pub Fits : Compared → SocketAddr → SocketAddr → Type 0
Fits Whole one other = one ≡ other
Fits Host one other = socket_ip one ≡ socket_ip other

-- the number of the first of these entities whose address fits this one
abbrev pub FirstAt : Compared → List PeerAddress → SocketAddr → Option ℕ → Type 0
FirstAt compared [] address place = place ≡ None
FirstAt compared (first ∷ rest) address place =
    (Fits compared first.address address × (place ≡ Some first.place)) ⊎ ((Fits compared first.address address → ⊥) × FirstAt compared rest address place)

-- the first of these entities with this ID
abbrev pub peer_among : List PeerAddress → EntityId → Option PeerAddress
peer_among peers id = find (λ peer. peer.id.0 == id.0) peers

-- there is an entity, and it has this address
abbrev pub IsAt : Option PeerAddress → SocketAddr → Type 0
IsAt None address = ⊥
IsAt (Some peer) address = peer.address ≡ address
