-- Worked calls at a seat.
use Rattle.std.proofs.Common.{◌≡◌, true, false, [], ◌∷◌, map, refl, arith}
use Rattle.program_seats.specs.declared.outbox.Way.TheVariants.{Open}
use Rattle.program_seats.specs.declared.seat.Given.TheVariants.{Taken, Dropped, Gone}
use Rattle.program_seats.specs.Seating.{SeatValue, IsAnswered, IsTold, after_writing, behind, cut, followed, free_seat, is_here, is_spare_seat, is_watchers_seat, left, may_sit, sat, taken}

-- the third client of a seat, who has asked
abbrev third : SeatValue
third = record (sat free_seat) { visits = 3; is_asking = true }

-- an answer to the third visit stands behind what waits, and the client may ask again
answers_third : IsAnswered 9 (7 ∷ []) 3 third Taken (record third { is_asking = false; outbox = record { waiting = 7 ∷ []; way = Open } })
answers_third = record { was_open = refl; has_room = omega arith; new_is = refl }

-- an answer to the second comes late and changes nothing
late_changes_nothing : IsAnswered 9 (7 ∷ []) 2 third Gone third
late_changes_nothing = (refl, refl)

-- an answer without room cuts the client off, who isn't waiting for it any more
full_is_cut : IsAnswered 0 (7 ∷ []) 3 third Dropped (cut third)
full_is_cut = (refl, refl)

-- who doesn't read events receives none
no_reader_no_event : IsTold 9 (7 ∷ []) third Gone third
no_reader_no_event = (refl, refl)

-- who follows in an earlier visit doesn't now
late_follow : followed 2 third ≡ third
late_follow = refl

-- a seat is taken until its client leaves, and the next one doesn't follow
is_taken : may_sit third ≡ false
is_taken = refl

free_again : may_sit (left third) ≡ true
free_again = refl

next_reads_no_events : (sat (left (followed 3 third))).follows ≡ false
next_reads_no_events = refl

-- a client that follows lacks what is being written and what waits; one that doesn't follow isn't behind
abbrev reader : SeatValue
reader = record (followed 3 third) { under_way = 5; outbox = record { waiting = 7 ∷ 8 ∷ []; way = Open } }

reader_is_behind : map behind (reader ∷ taken reader ∷ after_writing 3 4 reader ∷ after_writing 2 4 reader ∷ []) ≡ 7 ∷ 2 ∷ 3 ∷ 7 ∷ []
reader_is_behind = refl

no_reader_is_not : behind (record reader { follows = false }) ≡ 0
no_reader_is_not = refl

-- what the client before didn't get is forgotten, and what was written to it is not
next_lacks_nothing : (sat (left (after_writing 3 4 reader))).under_way ≡ 0
next_lacks_nothing = refl

cut_lacks_nothing : behind (cut reader) ≡ 0
cut_lacks_nothing = refl

written_stays : (sat (left (after_writing 3 4 reader))).written ≡ 4
written_stays = refl

left_is_gone : is_here 3 (left third) ≡ false
left_is_gone = refl

-- the last of the sixteen seats, the spare one, and the first of those that only watch
spare : map is_spare_seat (15 ∷ 16 ∷ 17 ∷ []) ≡ false ∷ true ∷ false ∷ []
spare = refl

watchers : map is_watchers_seat (15 ∷ 16 ∷ 17 ∷ []) ≡ false ∷ false ∷ true ∷ []
watchers = refl
