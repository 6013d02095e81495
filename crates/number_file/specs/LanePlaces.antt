-- Meaning. The numbers of sending lanes are those of rounds: each lane of each user has a place of its own in a round.
use Rattle.std.specs.Prelude.{◌≡◌, ℕ, ◌+◌, ◌*◌, ◌<◌, max}
use Rattle.number_file.specs.declared.rounds.Rounds.{Rounds}
use Rattle.number_file.specs.Rounds.{number_at}

-- the place of a lane's numbers in a round, with so many users
abbrev pub place_of : ℕ → ℕ → ℕ → ℕ
place_of users user lane = lane * users + user

-- a lane's number in each round, as an entity with so many users and lanes counts it, is the one at its place, and no other
-- lane has that place
pub record IsPlaced (users lanes : ℕ) (rounds : Rounds) (user lane : ℕ) : Type 0 where
  pub inside : place_of users user lane < max rounds.width 1
  pub number : (round : ℕ) → (round * lanes + lane) * users + user ≡ number_at round rounds + place_of users user lane
  pub own : (other_user other_lane : ℕ) → other_user < users → place_of users other_user other_lane ≡ place_of users user lane → (other_user ≡ user) × (other_lane ≡ lane)

-- so it is for each sending lane of each user, where a round has a number for each
abbrev pub LanesArePlaced : Type 0
LanesArePlaced = (users lanes : ℕ) (rounds : Rounds) (user lane : ℕ) → rounds.width ≡ users * lanes → user < users → lane < lanes → IsPlaced users lanes rounds user lane
