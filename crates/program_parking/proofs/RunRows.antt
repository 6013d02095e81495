-- Worked runs of a lane.
use Rattle.std.proofs.Common.{◌≡◌, ℕ, ◌-◌, true, List, [], ◌∷◌, arith, refl}
use Rattle.program_parking.specs.declared.parked.Parked.{Parked}
use Rattle.program_parking.specs.declared.outcome.Outcome.TheVariants.{Taken, Refused}
use Rattle.program_parking.specs.ParkingLaws.{AreMoves, Move, forgets, gives_way, lends, line_of, parks, run_of, settles, times}

-- a datagram of two octets, of a transaction, that came so late
abbrev pub datagram : ℕ → ℕ → Parked
datagram number arrival = record { number = number; arrival = arrival; since = 100 - arrival; octets = 7 ∷ 8 ∷ [] }

-- a run whose later datagram has the lower number, and comes out first
lower_first : line_of (run_of (settles Taken ∷ lends ∷ parks 1000 (datagram 8 1) ∷ parks 1000 (datagram 16 0) ∷ []))
    ≡ record { number = 8; arrival = 1 } ∷ record { number = 16; arrival = 0 } ∷ []
lower_first = refl

-- datagrams of other lanes may come in between
with_gaps : AreMoves (parks 1000 (datagram 8 7) ∷ parks 1000 (datagram 8 2) ∷ [])
with_gaps = ((omega arith, omega arith), ((omega arith, omega arith), tt))

-- the next datagram of a transaction comes after one of it was taken
goes_on : AreMoves (parks 1000 (datagram 8 1) ∷ settles Taken ∷ lends ∷ parks 1000 (datagram 8 0) ∷ [])
goes_on = ((omega arith, omega arith), (tt, (tt, ((omega arith, omega arith), tt))))

-- a datagram that is lent and taken while a lower one comes: that one is gone, and this one isn't
abbrev pub lower_comes : List Move
lower_comes = settles Taken ∷ parks 1000 (datagram 4 1) ∷ lends ∷ parks 1000 (datagram 8 0) ∷ []

lower_may_come : AreMoves lower_comes
lower_may_come = (tt, ((omega arith, omega arith), (tt, ((omega arith, omega arith), tt))))

taken_is_out : (run_of lower_comes).out ≡ record { number = 8; arrival = 0 } ∷ []
taken_is_out = refl

lower_is_gone : (run_of lower_comes).dropped ≡ record { number = 4; arrival = 1 } ∷ []
lower_is_gone = refl

-- one that is taken after its transaction was forgotten is out
abbrev pub forgotten_meanwhile : List Move
forgotten_meanwhile = settles Taken ∷ forgets 8 ∷ lends ∷ parks 1000 (datagram 8 1) ∷ parks 1000 (datagram 8 0) ∷ []

still_out : (run_of forgotten_meanwhile).out ≡ record { number = 8; arrival = 0 } ∷ []
still_out = refl

other_is_gone : (run_of forgotten_meanwhile).dropped ≡ record { number = 8; arrival = 1 } ∷ []
other_is_gone = refl

-- one that is refused for good is gone alone, and lower ones may still come
abbrev pub refused_alone : List Move
refused_alone = parks 1000 (datagram 8 1) ∷ settles Refused ∷ lends ∷ parks 1000 (datagram 16 0) ∷ []

lower_may_come_then : AreMoves refused_alone
lower_may_come_then = ((omega arith, omega arith), (tt, (tt, ((omega arith, omega arith), tt))))

refused_is_gone : (run_of refused_alone).dropped ≡ record { number = 16; arrival = 0 } ∷ []
refused_is_gone = refl

lower_waits : line_of (run_of refused_alone) ≡ record { number = 8; arrival = 1 } ∷ []
lower_waits = refl

-- nothing is lent where nothing waits, and one at a time
none_to_lend : run_of (lends ∷ []) ≡ run_of []
none_to_lend = refl

being_lent : (run_of (lends ∷ parks 1000 (datagram 8 0) ∷ [])).lane.is_lent ≡ true
being_lent = refl

one_at_a_time : run_of (lends ∷ lends ∷ parks 1000 (datagram 8 0) ∷ []) ≡ run_of (lends ∷ parks 1000 (datagram 8 0) ∷ [])
one_at_a_time = refl

twice_there : times (record { number = 8; arrival = 0 }) (record { number = 8; arrival = 0 } ∷ record { number = 8; arrival = 1 } ∷ record { number = 8; arrival = 0 } ∷ []) ≡ 2
twice_there = refl

-- where memory ran out the later half goes, and may come again
abbrev pub without_memory : List Move
without_memory = gives_way ∷ parks 1000 (datagram 16 1) ∷ parks 1000 (datagram 8 0) ∷ []

later_half_goes : (run_of without_memory).dropped ≡ record { number = 16; arrival = 1 } ∷ []
later_half_goes = refl

first_half_stays : line_of (run_of without_memory) ≡ record { number = 8; arrival = 0 } ∷ []
first_half_stays = refl
