-- Meaning. The numbers of configuration faults, the keys as they are written, and the key of each handler table.
use Rattle.std.specs.Prelude.{ℕ, List, codes}
use Rattle.cfdp_types.specs.declared.names.Role.{Role}
use Rattle.cfdp_types.specs.declared.names.Role.TheVariants.{Send, RecvOne, RecvTwo}
use Rattle.config_reading.specs.declared.fault.ConfigFault.{ConfigFault}
use Rattle.config_reading.specs.declared.fault.ConfigFault.TheVariants as fault
use Rattle.config_reading.specs.declared.fault.Key.{Key}
use Rattle.config_reading.specs.declared.fault.Key.TheVariants as key

-- the number of a fault
abbrev pub fault_number : ConfigFault → ℕ
fault_number fault.BadToml = 1
fault_number (fault.MissingKey k) = 2
fault_number (fault.WrongType k) = 3
fault_number (fault.OutOfRange k) = 4
fault_number (fault.UnknownKey s) = 5
fault_number fault.DuplicateUser = 6
fault_number fault.DuplicateRemote = 7
fault_number fault.UnknownUser = 8
fault_number fault.TooManySources = 9
fault_number (fault.HandlerNotAllowed k) = 10
fault_number fault.BadAddress = 11
fault_number fault.NoMemory = 12

-- a key as it is written
abbrev pub key_text : Key → List ℕ
key_text key.Entity = codes "entity"
key_text key.User = codes "user"
key_text key.Remote = codes "remote"
key_text key.Id = codes "id"
key_text key.IdOctets = codes "id_octets"
key_text key.SequenceOctets = codes "seq_octets"
key_text key.First = codes "first"
key_text key.PutLanes = codes "put_lanes"
key_text key.ReceiveLanes = codes "recv_lanes"
key_text key.Capacity = codes "capacity"
key_text key.Segment = codes "segment"
key_text key.Name = codes "name"
key_text key.Address = codes "address"
key_text key.AckMilliseconds = codes "ack_ms"
key_text key.NakMilliseconds = codes "nak_ms"
key_text key.CheckMilliseconds = codes "check_ms"
key_text key.InactivityMilliseconds = codes "inactivity_ms"
key_text key.AckLimit = codes "ack_limit"
key_text key.NakLimit = codes "nak_limit"
key_text key.CheckLimit = codes "check_limit"
key_text key.Send = codes "send"
key_text key.ReceiveOne = codes "recv1"
key_text key.ReceiveTwo = codes "recv2"
key_text key.Checksum = codes "checksum"
key_text key.PositiveAckLimit = codes "positive_ack_limit"
key_text key.FilestoreRejection = codes "filestore_rejection"
key_text key.ChecksumFailure = codes "checksum_failure"
key_text key.FileSizeError = codes "file_size_error"
key_text key.NakLimitReached = codes "nak_limit"
key_text key.Inactivity = codes "inactivity"
key_text key.CheckLimitReached = codes "check_limit"
key_text key.UnsupportedChecksum = codes "unsupported_checksum"

-- the key of the handler table of a role
abbrev pub table_key : Role → Key
table_key Send = key.Send
table_key RecvOne = key.ReceiveOne
table_key RecvTwo = key.ReceiveTwo
