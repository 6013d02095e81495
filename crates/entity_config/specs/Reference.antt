-- Rows. The configuration that worked examples and scripts use.
use Rattle.std.specs.Prelude.{[], ◌∷◌, Some, codes}
use Rattle.cfdp_types.specs.Reference.{reference}
use Rattle.config_reading.specs.Values.{ConfigValue}

-- entity 2, for alice and bob, and entity 1, whose files go to alice
abbrev pub reference_config : ConfigValue
reference_config = record {
  entity = record {
    local = record { 0 = 2 };
    lengths = record { entity_octets = 1; sequence_octets = 1 };
    first = 1;
    put_lanes = 2;
    receive_lanes = 2;
    capacity = 8;
    segment_octets = 256;
  };
  users = codes "alice" ∷ codes "bob" ∷ [];
  peers = record { remote = record { id = record { 0 = 1 }; user = Some 0; params = reference }; address = codes "127.0.0.1:7001" } ∷ [];
}
