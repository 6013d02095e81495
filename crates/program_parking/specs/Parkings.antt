-- Meaning. The datagrams that wait for all lanes, within one room.
use Rattle.std.specs.Prelude.{ℕ, zero, suc, ◌+◌, ◌-◌, ◌/◌, ◌≤◌, All, ◌==◌, ◌||◌, ◌&&◌, min, max, Bool, nat_le, nat_lt, if◌then◌else◌, List, [], ◌∷◌, get_or, set, slice_get, Option, Some, None}
use Rattle.std.specs.List.{sum_by}
use Rattle.program_parking.specs.declared.parked.Lent.{Lent}
use Rattle.program_parking.specs.declared.sharing.Holder.{Holder}
use Rattle.program_parking.specs.declared.sharing.Rules.{Rules}
use Rattle.program_parking.specs.Lanes.{LaneValue, costs, lendable, parked_in, shortened}

-- what waits for each lane, and each lane's source; how many datagrams were parked so far; how many octets may wait, and
-- how many of one source; how many remote entities there are, whose numbers as sources are below that
pub record ParkingValue : Type 0 where
  pub lanes : List LaneValue
  pub sources : List ℕ
  pub arrivals : ℕ
  pub room : ℕ
  pub share : ℕ
  pub remotes : ℕ

-- a source's share of the room: a quarter, or its equal part among so many remote entities where that is more
abbrev pub share_of : ℕ → ℕ → ℕ
share_of room remotes = max (room / 4) (room / max remotes 1)

-- how much of the room a lane takes up, and all lanes do
abbrev pub lane_costs : LaneValue → ℕ
lane_costs lane = costs lane.waiting

abbrev pub used : List LaneValue → ℕ
used lanes = sum_by lane_costs lanes

-- how much the lanes of a source take up
abbrev pub part : ℕ → ℕ → LaneValue → ℕ
part source own lane = if own == source then lane_costs lane else 0

abbrev pub held : ℕ → List ℕ → List LaneValue → ℕ
held source [] lanes = 0
held source (own ∷ sources) [] = 0
held source (own ∷ sources) (lane ∷ lanes) = part source own lane + held source sources lanes

-- the source of the lane at a place
abbrev pub source_at : ℕ → List ℕ → ℕ
source_at place sources = get_or sources place 0

-- how much a lane of a source may take up: a quarter of the room, what the others leave of it, and what the source's other
-- lanes leave of its share
abbrev pub limit : LaneValue → ℕ → ParkingValue → ℕ
limit lane source p = min (p.room / 4)
    (min (p.room - (used p.lanes - lane_costs lane)) (p.share - (held source p.sources p.lanes - lane_costs lane)))

-- a datagram comes too late: its lane took one with a greater number
abbrev pub is_late : ℕ → LaneValue → Bool
is_late number lane = nat_lt number lane.floor

-- a datagram is not parked: it comes too late, or no more can be counted
abbrev pub is_refused : ℕ → LaneValue → ParkingValue → Bool
is_refused number lane p = is_late number lane || (p.arrivals == 18446744073709551615)

-- one more datagram waits for the lane at a place, if there is such a lane and the datagram isn't refused
abbrev pub parked_at : ℕ → Option LaneValue → ℕ → ℕ → List ℕ → ParkingValue → ParkingValue
parked_at place None number since octets p = p
parked_at place (Some lane) number since octets p = if is_refused number lane p then p else record p {
  lanes = set p.lanes place (parked_in (limit lane (source_at place p.sources) p) (record { number = number; arrival = p.arrivals; since = since; octets = octets }) lane);
  arrivals = p.arrivals + 1;
}

abbrev pub parked : ℕ → ℕ → ℕ → List ℕ → ParkingValue → ParkingValue
parked place number since octets p = parked_at place (slice_get p.lanes place) number since octets p

-- the lanes keep to the room: all of them together, each to a quarter of it, and those of each source to its share
abbrev pub IsKept : ℕ → ℕ → List ℕ → List LaneValue → Type 0
IsKept room share sources lanes = (used lanes ≤ room) × All (λ lane. lane_costs lane ≤ room / 4) lanes × ((source : ℕ) → held source sources lanes ≤ share)

-- the lane at a place, if there is one, becomes another
abbrev pub replaced_at : ℕ → Option LaneValue → (LaneValue → LaneValue) → List LaneValue → List LaneValue
replaced_at place None change lanes = lanes
replaced_at place (Some lane) change lanes = set lanes place (change lane)

abbrev pub replaced : ℕ → (LaneValue → LaneValue) → ParkingValue → ParkingValue
replaced place change p = record p { lanes = replaced_at place (slice_get p.lanes place) change p.lanes }

-- the datagram that is handed in next of the lane at a place
abbrev pub lendable_at : Option LaneValue → Option Lent
lendable_at None = None
lendable_at (Some lane) = lendable lane

-- ---- who gives way where there is no room

-- the lane of a source that takes up most, the first of equals: from a place on, and one lane more
abbrev pub larger_of : ℕ → ℕ → ℕ → LaneValue → Holder → Holder
larger_of source place own lane best =
    if (own == source) && nat_lt best.octets (lane_costs lane) then record { place = place; octets = lane_costs lane } else best

abbrev pub larger : ℕ → ℕ → List ℕ → List LaneValue → Holder → Holder
larger source place [] lanes best = best
larger source place (own ∷ sources) [] best = best
larger source place (own ∷ sources) (lane ∷ lanes) best = larger source (place + 1) sources lanes (larger_of source place own lane best)

abbrev pub largest_lane : ℕ → List ℕ → List LaneValue → Holder
largest_lane source sources lanes = larger source 0 sources lanes (record { place = 0; octets = 0 })

-- the source that takes up most: the entity itself, if none takes up more, or the first of equals, of so many
abbrev pub greater_of : List ℕ → List LaneValue → ℕ → ℕ → ℕ
greater_of sources lanes best source = if nat_lt (held best sources lanes) (held source sources lanes) then source else best

abbrev pub greatest : ℕ → ℕ → List ℕ → List LaneValue → ℕ
greatest zero remotes sources lanes = remotes
greatest (suc count) remotes sources lanes = greater_of sources lanes (greatest count remotes sources lanes) count

-- how many octets a datagram of a source lacks, of its share or of the whole room
abbrev pub missing : Rules → ℕ → ℕ → List ℕ → List LaneValue → ℕ
missing rules cost source sources lanes = max (cost - (rules.share - held source sources lanes)) (cost - (rules.room - used lanes))

-- the source that gives way: the datagram's own, if it has no share left, or takes up most with the datagram; else the one
-- that takes up most
abbrev pub source_giving : Rules → ℕ → ℕ → List ℕ → List LaneValue → ℕ
source_giving rules cost own sources lanes =
    if nat_lt (rules.share - held own sources lanes) cost then own
    else (if nat_le (held (greatest rules.remotes rules.remotes sources lanes) sources lanes - held own sources lanes) cost then own
    else greatest rules.remotes rules.remotes sources lanes)

-- the lane that gives way, and how much it keeps; none, where that is the datagram's own lane
abbrev pub keeps_of : Holder → Bool → ℕ → ℕ → ℕ → Option Holder
keeps_of largest is_own own cost lacks =
    if is_own && nat_le (largest.octets - own) cost then None else Some (record { place = largest.place; octets = largest.octets - lacks })

-- only a datagram's own lane may give way to it: it comes too late, or its lane has no quarter left
abbrev pub is_alone : Rules → ℕ → ℕ → LaneValue → Bool
is_alone rules number cost lane = is_late number lane || nat_lt (rules.room / 4 - lane_costs lane) cost

abbrev pub giving_by : Rules → ℕ → ℕ → LaneValue → ℕ → List ℕ → List LaneValue → Option Holder
giving_by rules number cost lane own sources lanes =
    if is_alone rules number cost lane || (missing rules cost own sources lanes == 0) then None
    else keeps_of (largest_lane (source_giving rules cost own sources lanes) sources lanes) (source_giving rules cost own sources lanes == own) (lane_costs lane) cost
    (missing rules cost own sources lanes)

abbrev pub giving_at : Rules → ℕ → ℕ → Option LaneValue → ℕ → List ℕ → List LaneValue → Option Holder
giving_at rules number cost None own sources lanes = None
giving_at rules number cost (Some lane) own sources lanes = giving_by rules number cost lane own sources lanes

-- the lane that gives way to a datagram, of a number and so many octets, for the lane at a place
abbrev pub rules_of : ParkingValue → Rules
rules_of p = record { room = p.room; share = p.share; remotes = p.remotes }

abbrev pub giving : ℕ → ℕ → ℕ → ParkingValue → Option Holder
giving place number octets p = giving_at (rules_of p) number (min (octets + 64) 18446744073709551615) (slice_get p.lanes place)
    (source_at place p.sources) p.sources p.lanes
