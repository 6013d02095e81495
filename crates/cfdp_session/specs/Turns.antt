-- Meaning. The sending lanes of an entity in turn.
use Rattle.std.specs.Prelude.{ℕ, ◌+◌, ◌%◌, ◌==◌, Bool, true, false, if◌then◌else◌, List, [], ◌∷◌, length, take, drop, set, replicate, slice_get, Option, Some, None}

-- for each lane the number of its transaction, if that may have something to send; and the lane whose turn it is
pub record TurnsValue : Type 0 where
  pub ready : List (Option ℕ)
  pub turn : ℕ

-- the lane of a transaction among so many: numbers go round
abbrev pub lane_of : ℕ → ℕ → ℕ
lane_of seq lanes = seq % lanes

-- no lane has anything to send, and the first one has its turn
abbrev pub begun : ℕ → TurnsValue
begun lanes = record { ready = replicate lanes None; turn = 0 }

-- the transaction with this number may have something to send
abbrev pub woken : ℕ → TurnsValue → TurnsValue
woken seq turns = record turns { ready = set turns.ready (lane_of seq (length turns.ready)) (Some seq) }

-- whether a lane has this transaction
abbrev pub has : ℕ → Option (Option ℕ) → Bool
has seq (Some (Some other)) = seq == other
has seq _ = false

-- the transaction with this number has nothing to send
abbrev pub rested : ℕ → TurnsValue → TurnsValue
rested seq turns =
    if has seq (slice_get turns.ready (lane_of seq (length turns.ready)))
    then record turns { ready = set turns.ready (lane_of seq (length turns.ready)) None } else turns

-- the lane of the transaction with this number has had its turn: it is the next one's
abbrev pub passed : ℕ → TurnsValue → TurnsValue
passed seq turns = record turns { turn = (lane_of seq (length turns.ready) + 1) % length turns.ready }

-- the first transaction of these lanes that may have something to send
abbrev pub first_ready : List (Option ℕ) → Option ℕ
first_ready [] = None
first_ready (Some seq ∷ lanes) = Some seq
first_ready (None ∷ lanes) = first_ready lanes

-- one, or else the other
abbrev pub or_else : Option ℕ → Option ℕ → Option ℕ
or_else (Some seq) other = Some seq
or_else None other = other

-- the transaction that is next: the first one from the lane on whose turn it is, round all lanes
abbrev pub next : TurnsValue → Option ℕ
next turns = or_else (first_ready (drop turns.turn turns.ready)) (first_ready (take turns.turn turns.ready))
