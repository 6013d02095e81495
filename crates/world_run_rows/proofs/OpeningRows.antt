-- Worked lanes of configurations, as they stand at first.
use Rattle.std.proofs.Common.{◌≡◌, ℕ, [], ◌∷◌, Option, Some, codes, refl}
use Rattle.cfdp_types.specs.declared.params.ParamsParts.{ParamsParts}
use Rattle.cfdp_types.specs.Reference.{reference}
use Rattle.config_reading.specs.Values.{ConfigValue, PeerValue}
use Rattle.entity_config.specs.Reference.{reference_config}
use Rattle.lane_table.specs.declared.lane_side.LaneSide.TheVariants.{Sending, Receiving}
use Rattle.lane_table.specs.Lane.{idle}
use Rattle.entity_parts.specs.FirstLanes.{first_lane, greatest_of, numbers_of}
use Rattle.world_core.specs.Opening.{layout_of}

-- parameters and a remote entity that differ from others
abbrev params : ℕ → ParamsParts
params segment_octets = record reference { segment_octets = segment_octets }

abbrev peer : ℕ → Option ℕ → ℕ → PeerValue
peer id user segment_octets = record {
  remote = record { id = record { 0 = id }; user = user; params = params segment_octets };
  address = codes "127.0.0.1:7001";
}

-- three sending lanes of each of two users, numbers of two octets from 7 on, and sources of both users
abbrev wide : ConfigValue
wide = record reference_config {
  entity = record reference_config.entity {
    lengths = record { entity_octets = 1; sequence_octets = 2 };
    first = 7;
    put_lanes = 3;
    capacity = 5;
  };
  peers = peer 1 (Some 0) 300 ∷ peer 4 (Some 1) 400 ∷ peer 3 (Some 0) 500 ∷ [];
}

-- ---- numbers

numbers : numbers_of wide ≡ record { first = 7; lanes = 3; users = 2 }
numbers = refl

greatest_of_one_octet : greatest_of reference_config ≡ 255
greatest_of_one_octet = refl

greatest_of_two_octets : greatest_of wide ≡ 65535
greatest_of_two_octets = refl

-- ---- lanes

first_of_alice : first_lane wide 0 0 ≡ idle (Sending (record { first = 7; lanes = 3; users = 2 }) 65535) 0 0 (record { 0 = 2 })
first_of_alice = refl

last_sending_of_bob : first_lane wide 1 2 ≡ idle (Sending (record { first = 7; lanes = 3; users = 2 }) 65535) 1 2 (record { 0 = 2 })
last_sending_of_bob = refl

-- behind them those for what comes, two of each source, by the source's own parameters
from_one : first_lane wide 0 3 ≡ idle (Receiving (params 300)) 0 3 (record { 0 = 1 })
from_one = refl

from_one_again : first_lane wide 0 4 ≡ idle (Receiving (params 300)) 0 4 (record { 0 = 1 })
from_one_again = refl

from_three : first_lane wide 0 5 ≡ idle (Receiving (params 500)) 0 5 (record { 0 = 3 })
from_three = refl

from_four : first_lane wide 1 3 ≡ idle (Receiving (params 400)) 1 3 (record { 0 = 4 })
from_four = refl

-- ---- the layout

users : (layout_of wide).users ≡ 2
users = refl

lanes_of_alice : (layout_of wide).lanes_of 0 ≡ 7
lanes_of_alice = refl

lanes_of_bob : (layout_of wide).lanes_of 1 ≡ 5
lanes_of_bob = refl

room : (layout_of wide).capacity ≡ 5
room = refl

lane_from_three : (layout_of wide).lanes 0 6 ≡ idle (Receiving (params 500)) 0 6 (record { 0 = 3 })
lane_from_three = refl
