-- Worked rows: how much waits for a client that follows events.
use Rattle.std.proofs.Common.{◌≡◌, Bool, true, false, [], ◌∷◌, refl}
use Rattle.program_seats.specs.declared.outbox.Way.{Way}
use Rattle.program_seats.specs.declared.outbox.Way.TheVariants.{Open, Ending, Cut}
use Rattle.program_seats.specs.Seating.{SeatValue, behind, free_seat, sat}

-- a client that follows or not, for which two octets wait
abbrev waiting : Bool → Way → SeatValue
waiting follows way = record (sat free_seat) { follows = follows; outbox = record { waiting = 7 ∷ 8 ∷ []; way = way } }

-- only a client that follows and takes more is behind
behind_by : behind (waiting true Open) ∷ behind (waiting false Open) ∷ behind (waiting true Ending) ∷ behind (waiting true Cut) ∷ []
    ≡ 2 ∷ 0 ∷ 0 ∷ 0 ∷ []
behind_by = refl
