-- Meaning. What was received for one command so far: its answer, and the events in between.
use Rattle.std.specs.Prelude.{◌++◌, ℕ, Bool, true, List, [], ◌∷◌, drop, length, nat_lt}
use Rattle.station_client.specs.declared.lines.LineKind.{LineKind}
use Rattle.station_client.specs.declared.lines.LineKind.TheVariants as kinds

-- the lines of the answer, each with its line feed, and the events without their word, the oldest first
pub record ExchangeValue : Type 0 where
  pub answer : List ℕ
  pub events : List (List ℕ)

-- the effect of a line
abbrev pub with_line : LineKind → List ℕ → ExchangeValue → ExchangeValue
with_line kinds.Answer line old = record old { answer = old.answer ++ line ++ 10 ∷ [] }
with_line kinds.Event line old = record old { events = old.events ++ drop 6 line ∷ [] }
with_line kinds.End line old = old
with_line kinds.Busy line old = old

-- there is room for a line: fewer than 65,536 events are kept, if it is one
abbrev pub has_room : LineKind → ExchangeValue → Bool
has_room kinds.Event old = nat_lt (length old.events) 65536
has_room kinds.Answer old = true
has_room kinds.End old = true
has_room kinds.Busy old = true
