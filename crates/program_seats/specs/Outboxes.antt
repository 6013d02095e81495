-- Meaning. Text on its way to one client, and what each call does to it.
use Rattle.std.specs.Prelude.{◌≡◌, ◌≤◌, ◌+◌, ◌++◌, ℕ, Bool, true, false, List, [], length}
use Rattle.program_seats.specs.declared.outbox.Way.{Way}
use Rattle.program_seats.specs.declared.outbox.Way.TheVariants.{Open, Ending, Cut}

-- what waits to be sent, and whether more may come
pub record OutboxValue : Type 0 where
  pub waiting : List ℕ
  pub way : Way

-- nothing waits, and more may come
abbrev pub empty : OutboxValue
empty = record { waiting = []; way = Open }

-- nothing is sent any more, and what waited is dropped
abbrev pub cut_off : OutboxValue
cut_off = record { waiting = []; way = Cut }

-- a text is appended to what waits, within the room
pub record Takes (room : ℕ) (text : List ℕ) (old new : OutboxValue) : Type 0 where
  pub was_open : old.way ≡ Open
  pub has_room : length old.waiting + length text ≤ room
  pub new_is : new ≡ record { waiting = old.waiting ++ text; way = Open }

-- a text is not taken: an open way is cut, since room or memory ran out, and any other way stays as it is
abbrev pub Refuses : OutboxValue → OutboxValue → Type 0
Refuses old new = by_way old.way
  where
    by_way : Way → Type 0
    by_way Open = new ≡ cut_off
    by_way way = new ≡ old

-- putting a text, by whether it was taken
abbrev pub IsPut : ℕ → List ℕ → OutboxValue → Bool → OutboxValue → Type 0
IsPut room text old true new = Takes room text old new
IsPut room text old false new = Refuses old new

-- nothing more is taken, what waits is still sent, and a way that was cut stays cut
abbrev pub ended : OutboxValue → OutboxValue
ended old = by_way old.way
  where
    by_way : Way → OutboxValue
    by_way Open = record old { way = Ending }
    by_way way = old
