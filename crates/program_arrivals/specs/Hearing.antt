-- Meaning. Whose datagrams are taken.
use Rattle.std.specs.Prelude.{Bool, true}
use Rattle.program_arrivals.specs.declared.arrivals.Sources.{Sources}
use Rattle.program_arrivals.specs.declared.arrivals.Sources.TheVariants.{Any, HostsAlone, KnownAlone, OwnAlone}
use Rattle.program_udp.specs.declared.addresses.Compared.{Compared}
use Rattle.program_udp.specs.declared.addresses.Compared.TheVariants.{Whole, Host}

-- a datagram is taken where all are, or if its source address is in the configuration
abbrev pub is_heard : Sources → Bool → Bool
is_heard Any is_known = true
is_heard HostsAlone is_known = is_known
is_heard KnownAlone is_known = is_known
is_heard OwnAlone is_known = is_known

-- what of a source address is looked up in the configuration
abbrev pub compared_by : Sources → Compared
compared_by HostsAlone = Host
compared_by other = Whole
