-- Worked lines of datagrams.
use Rattle.std.proofs.Common.{◌≡◌, ℕ, ◌-◌, true, false, List, [], ◌∷◌, Some, None, map, refl}
use Rattle.std.specs.List.{list_any}
use Rattle.program_parking.specs.declared.outcome.Outcome.TheVariants.{Taken, Refused, Waits}
use Rattle.program_parking.specs.declared.parked.Parked.{Parked}
use Rattle.program_parking.specs.Lanes.{LaneValue, cost, halved, inserted, is_crowded, is_one, lendable, lending, oldest, parked_in, settled, shortened, transactions, without_number}
use Rattle.program_parking.specs.Parkings.{ParkingValue, giving, held, limit, parked, share_of}

-- a datagram of two octets, of a transaction, that came so late
abbrev pub datagram : ℕ → ℕ → Parked
datagram number arrival = record { number = number; arrival = arrival; since = 100 - arrival; octets = 7 ∷ 8 ∷ [] }

-- a line of three: two of the lower number, then one of the higher
abbrev pub three : List Parked
three = datagram 8 0 ∷ datagram 8 2 ∷ datagram 16 1 ∷ []

abbrev pub lane : LaneValue
lane = record { waiting = three; is_lent = false; floor = 8 }

two_and_more : cost (datagram 8 0) ≡ 66
two_and_more = refl

behind_its_number : inserted (datagram 8 3) three ≡ datagram 8 0 ∷ datagram 8 2 ∷ datagram 8 3 ∷ datagram 16 1 ∷ []
behind_its_number = refl

before_the_higher : inserted (datagram 4 3) three ≡ datagram 4 3 ∷ three
before_the_higher = refl

-- where there is room for three, the last of the highest number goes
last_one_goes : (parked_in 198 (datagram 8 3) lane).waiting ≡ datagram 8 0 ∷ datagram 8 2 ∷ datagram 8 3 ∷ []
last_one_goes = refl

itself_goes : (parked_in 198 (datagram 24 3) lane).waiting ≡ three
itself_goes = refl

-- the first one is handed in, and one at a time
first_is_lent : lendable lane ≡ Some (record { number = 8; arrival = 0; octets = 7 ∷ 8 ∷ [] })
first_is_lent = refl

one_at_a_time : lendable (record lane { is_lent = true }) ≡ None
one_at_a_time = refl

being_lent : lending lane ≡ record lane { is_lent = true }
being_lent = refl

none_to_lend : lending (record lane { waiting = [] }) ≡ record lane { waiting = [] }
none_to_lend = refl

by_number_and_arrival : list_any (is_one 8 2) three ≡ true
by_number_and_arrival = refl

of_no_other : list_any (is_one 16 2) three ≡ false
of_no_other = refl

-- half of what is taken up goes, of the highest number first
half_goes : (halved lane).waiting ≡ datagram 8 0 ∷ []
half_goes = refl

-- it stays, or is gone with what stands before it, or alone
stays : settled Waits 8 0 (record lane { is_lent = true }) ≡ lane
stays = refl

taken : settled Taken 8 0 lane ≡ record { waiting = datagram 8 2 ∷ datagram 16 1 ∷ []; is_lent = false; floor = 8 }
taken = refl

lower_ones_go : settled Taken 16 1 lane ≡ record { waiting = []; is_lent = false; floor = 16 }
lower_ones_go = refl

refused_alone : settled Refused 16 1 (record lane { is_lent = true }) ≡ record { waiting = datagram 8 0 ∷ datagram 8 2 ∷ []; is_lent = false; floor = 8 }
refused_alone = refl

forgotten : (without_number 8 lane).waiting ≡ datagram 16 1 ∷ []
forgotten = refl

two_transactions : transactions three ≡ 2
two_transactions = refl

crowded : is_crowded 8 three ≡ true
crowded = refl

not_below : is_crowded 7 three ≡ false
not_below = refl

since_when : oldest three ≡ 98
since_when = refl

-- two lanes and a room: a quarter of it for one lane, and what the other leaves
abbrev pub both : ParkingValue
both = record {
  lanes = lane ∷ record { waiting = []; is_lent = false; floor = 0 } ∷ [];
  sources = 0 ∷ 1 ∷ [];
  arrivals = 3;
  room = 1000;
  share = 500;
  remotes = 2;
}

a_quarter : limit lane 0 both ≡ 250
a_quarter = refl

what_is_left : limit (record { waiting = []; is_lent = false; floor = 0 }) 1 (record both { room = 240 }) ≡ 42
what_is_left = refl

-- of a source's share, what its other lanes leave
of_the_share : limit (record { waiting = []; is_lent = false; floor = 0 }) 0 (record both { share = 200 }) ≡ 2
of_the_share = refl

a_source_holds : held 0 (0 ∷ 1 ∷ []) both.lanes ≡ 198
a_source_holds = refl

-- a quarter, or more where there are fewer than four remote entities
shares : map (share_of 1200) (0 ∷ 1 ∷ 2 ∷ 3 ∷ 4 ∷ 5 ∷ []) ≡ 1200 ∷ 1200 ∷ 600 ∷ 400 ∷ 300 ∷ 300 ∷ []
shares = refl

one_more : (parked 1 5 60 (1 ∷ []) both).arrivals ≡ 4
one_more = refl

too_late : parked 0 7 60 (1 ∷ []) both ≡ both
too_late = refl

-- five lanes that take up 198 octets each, the first two of one source, and one more lane
abbrev pub nothing : LaneValue
nothing = record { waiting = []; is_lent = false; floor = 0 }

abbrev pub full : ParkingValue
full = record {
  lanes = lane ∷ lane ∷ lane ∷ lane ∷ lane ∷ nothing ∷ [];
  sources = 0 ∷ 0 ∷ 1 ∷ 2 ∷ 3 ∷ 4 ∷ [];
  arrivals = 15;
  room = 1000;
  share = 396;
  remotes = 5;
}

-- where the room is full, the source that takes up most gives way, of its lanes the largest, by what is missing
largest_gives_way : giving 5 5 2 full ≡ Some (record { place = 0; octets = 142 })
largest_gives_way = refl

not_less_than_the_share : giving 0 8 2 full ≡ None
not_less_than_the_share = refl

within_the_share : giving 1 8 2 (record full { lanes = nothing ∷ lane ∷ lane ∷ []; room = 2000; share = 250 }) ≡ None
within_the_share = refl

own_source_gives_way : giving 0 8 2 (record full { lanes = nothing ∷ lane ∷ lane ∷ []; room = 2000; share = 250 }) ≡ Some (record { place = 1; octets = 184 })
own_source_gives_way = refl

there_is_room : giving 5 5 2 (record full { room = 2000 }) ≡ None
there_is_room = refl

last_ones_go : (shortened 142 lane).waiting ≡ datagram 8 0 ∷ datagram 8 2 ∷ []
last_ones_go = refl
