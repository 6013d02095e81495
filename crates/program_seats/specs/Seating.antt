-- Meaning. A seat for one client, and what each call does to it.
use Rattle.std.specs.Prelude.{◌≡◌, ◌≢◌, ◌⊎◌, ◌+◌, ◌-◌, ◌++◌, ◌==◌, ◌&&◌, ◌||◌, ◌≤◌, ℕ, min, nat_lt, Bool, true, false, if◌then◌else◌, List, [], length, not}
use Rattle.program_seats.specs.Outboxes.{OutboxValue, cut_off, empty, ended}
use Rattle.program_seats.specs.declared.outbox.Way.{Way}
use Rattle.program_seats.specs.declared.outbox.Way.TheVariants.{Open}
use Rattle.program_seats.specs.declared.seat.Given.{Given}
use Rattle.program_seats.specs.declared.seat.Given.TheVariants.{Taken, Dropped, Gone}

-- how many clients have sat there; whether one sits there, follows events, and awaits an answer; whether nobody may sit
-- down any more; what waits for the client; how many octets that were taken for it aren't written yet, and how many
-- were written to all clients of the seat
pub record SeatValue : Type 0 where
  pub visits : ℕ
  pub is_taken : Bool
  pub follows : Bool
  pub is_asking : Bool
  pub is_closed : Bool
  pub outbox : OutboxValue
  pub under_way : ℕ
  pub written : ℕ

-- the spare seat comes after the sixteen, and then those of clients that only watch
abbrev pub is_spare_seat : ℕ → Bool
is_spare_seat seat = seat == 16

abbrev pub is_watchers_seat : ℕ → Bool
is_watchers_seat seat = nat_lt 16 seat

-- nobody has sat there
abbrev pub free_seat : SeatValue
free_seat = record { visits = 0; is_taken = false; follows = false; is_asking = false; is_closed = false; outbox = empty; under_way = 0; written = 0 }

-- a visit lasts
abbrev pub is_here : ℕ → SeatValue → Bool
is_here visit seat = seat.is_taken && (seat.visits == visit)

-- a client may sit down
abbrev pub may_sit : SeatValue → Bool
may_sit seat = not (seat.is_closed || seat.is_taken)

-- how many octets a client that follows events hasn't got: those being written, and those that wait if it takes more
-- text
abbrev pub behind : SeatValue → ℕ
behind seat = if seat.follows then by_way seat.outbox.way else 0
  where
    by_way : Way → ℕ
    by_way Open = min (seat.under_way + length seat.outbox.waiting) 18446744073709551615
    by_way way = seat.under_way

-- the next client has sat down, with nothing of the one before
abbrev pub sat : SeatValue → SeatValue
sat seat = record seat {
  visits = seat.visits + 1;
  is_taken = true;
  follows = false;
  is_asking = false;
  outbox = empty;
  under_way = 0;
}

-- the client is cut off: nothing is on its way to it any more
abbrev pub cut : SeatValue → SeatValue
cut seat = record seat { is_asking = false; outbox = cut_off; under_way = 0 }

-- nothing more is read from the client, and what waits for it is still sent
abbrev pub closing : SeatValue → SeatValue
closing seat = record seat { is_asking = false; outbox = ended seat.outbox }

-- the client has left
abbrev pub left : SeatValue → SeatValue
left seat = record seat { is_taken = false; follows = false; is_asking = false; outbox = cut_off; under_way = 0 }

-- the client has asked, and will be answered if its way is open
abbrev pub asked : ℕ → SeatValue → Bool → SeatValue → Type 0
asked visit old true new =
    (is_here visit old ≡ true) × ((old.outbox.way ≡ Open) × (new ≡ record old { is_asking = true }))
asked visit old false new =
    ((is_here visit old ≡ false) ⊎ (old.outbox.way ≢ Open)) × (new ≡ old)

-- events are sent to the client, too, if the visit lasts
abbrev pub followed : ℕ → SeatValue → SeatValue
followed visit seat = if is_here visit seat then record seat { follows = true } else seat

-- what waited was taken, to be written
abbrev pub taken : SeatValue → SeatValue
taken seat = record seat { outbox = record { waiting = []; way = seat.outbox.way }; under_way = length seat.outbox.waiting }

-- so many of the octets that were taken for a visit are written
abbrev pub after_writing : ℕ → ℕ → SeatValue → SeatValue
after_writing visit octets seat =
    if is_here visit seat
    then record seat { under_way = seat.under_way - octets; written = min (seat.written + octets) 18446744073709551615 }
    else seat

-- ---- texts

-- a text is appended to what waits, within the room
pub record IsBehind (room : ℕ) (text : List ℕ) (old new : SeatValue) : Type 0 where
  pub was_open : old.outbox.way ≡ Open
  pub has_room : length old.outbox.waiting + length text ≤ room
  pub new_is : new ≡ record old { outbox = record { waiting = old.outbox.waiting ++ text; way = Open } }

-- a text for the client that sits there: it is appended to what waits, or the client is cut off since room or memory
-- ran out, or the way isn't open and nothing happens
abbrev pub IsSent : ℕ → List ℕ → SeatValue → Given → SeatValue → Type 0
IsSent room text old Taken new = IsBehind room text old new
IsSent room text old Dropped new = (old.outbox.way ≡ Open) × (new ≡ cut old)
IsSent room text old Gone new = (old.outbox.way ≢ Open) × (new ≡ old)

-- nothing happens
abbrev pub IsGone : SeatValue → Given → SeatValue → Type 0
IsGone old given new = (given ≡ Gone) × (new ≡ old)

-- a text for a visit: after the visit, nothing happens
abbrev pub IsSentTo : ℕ → List ℕ → ℕ → SeatValue → Given → SeatValue → Type 0
IsSentTo room text visit old given new = by_here (is_here visit old)
  where
    by_here : Bool → Type 0
    by_here true = IsSent room text old given new
    by_here false = IsGone old given new

-- the answer to a visit's command: the client may ask again then
abbrev pub IsAnswered : ℕ → List ℕ → ℕ → SeatValue → Given → SeatValue → Type 0
IsAnswered room text visit old given new = by_here (is_here visit old)
  where
    by_here : Bool → Type 0
    by_here true = IsSent room text (record old { is_asking = false }) given new
    by_here false = IsGone old given new

-- an event: if the client doesn't follow events, nothing happens
abbrev pub IsTold : ℕ → List ℕ → SeatValue → Given → SeatValue → Type 0
IsTold room text old given new = by_following old.follows
  where
    by_following : Bool → Type 0
    by_following true = IsSent room text old given new
    by_following false = IsGone old given new
