-- Rows. Parameters for worked examples: all handlers cancel, two expirations of each timer, a second each, the modular checksum.
use Rattle.cfdp_types.specs.Handlers.{FaultTableValue}
use Rattle.cfdp_types.specs.declared.names.Checksum.TheVariants.{Modular}
use Rattle.cfdp_types.specs.declared.names.Handler.TheVariants.{Cancel}
use Rattle.cfdp_types.specs.declared.names.Role.{Role}
use Rattle.cfdp_types.specs.declared.names.Role.TheVariants.{Send, RecvOne, RecvTwo}
use Rattle.cfdp_types.specs.declared.params.ParamsParts.{ParamsParts}

-- a role's table in which every fault cancels
abbrev pub all_cancel : Role → FaultTableValue
all_cancel role = record {
  role = role;
  handlers = record {
    positive_ack_limit = Cancel;
    filestore_rejection = Cancel;
    file_checksum_failure = Cancel;
    file_size_error = Cancel;
    nak_limit = Cancel;
    inactivity = Cancel;
    check_limit = Cancel;
    unsupported_checksum_type = Cancel;
  };
}

-- the parameters of entity 2, with IDs and sequence numbers of one octet
abbrev pub reference : ParamsParts
reference = record {
  local = record { 0 = 2 };
  lengths = record { entity_octets = 1; sequence_octets = 1 };
  segment_octets = 256;
  timers = record { ack = 1000; nak = 1000; check = 1000; inactivity = 1000 };
  limits = record { ack = 2; nak = 2; check = 2 };
  tables = record { send = all_cancel Send; receive_one = all_cancel RecvOne; receive_two = all_cancel RecvTwo };
  checksum = Modular;
}
