-- Meaning. How a file of numbers keeps the numbers of all lanes apart, whatever programs run, wherever they stop, and whenever
-- the power is cut.
use Rattle.std.specs.Prelude.{◌≡◌, ◌≢◌, ◌⊎◌, ℕ, ◌+◌, ◌<◌, ◌==◌, if◌then◌else◌, max, All, List, [], ◌∷◌, ◌++◌, Option, Some, None}
use Rattle.disk.specs.Steps.{Step}
use Rattle.disk.specs.Steps.Step.{saw, cut}
use Rattle.disk.specs.Crash.{MayFind}
use Rattle.number_file.specs.declared.file.NumbersFault.{NumbersFault}
use Rattle.number_file.specs.declared.rounds.Cover.TheVariants as cover
use Rattle.number_file.specs.declared.rounds.Rounds.{Rounds}
use Rattle.number_file.specs.Rounds.{cover_of, given, number_at}
use Rattle.number_file.specs.Files.{Covered, Covers, Opens, OpensNot, covered_by}

-- how a program starts: its first round, the width of a round, and how many rounds are covered at once
pub record Start : Type 0 where
  pub first : ℕ
  pub width : ℕ
  pub block : ℕ

-- a program that runs: its rounds, and the round that each lane gives next, by the place of the lane's number in a round
pub record Run : Type 0 where
  pub rounds : Rounds
  pub lanes : ℕ → ℕ

-- a number that was given: in which run, at which place of a round, and the number
pub record Given : Type 0 where
  pub run : ℕ
  pub place : ℕ
  pub number : ℕ

-- what happens: a program opens the file; it covers the next Put's round, or fails to; the lane at a place puts; the program
-- stops at a moment of an open, or of a cover; the power is cut; the disk goes on with other things
pub data Happening : Type 0 where
  opens : Start → List Step → Rounds → Happening
  covers : List Step → Rounds → Happening
  puts : ℕ → Happening
  stops_opening : Start → List Step → List Step → Happening
  stops_covering : List Step → List Step → Happening
  cuts : Happening
  goes_on : List Step → Happening

-- the steps of the disk, the program, if one runs, how many have run, and the numbers that lanes gave, newest first
pub record Station : Type 0 where
  pub steps : List Step
  pub run : Option Run
  pub runs : ℕ
  pub gave : List Given

-- the next number of the lane at a place
abbrev pub next_number : ℕ → Run → ℕ
next_number place run = number_at (run.lanes place) run.rounds + place

-- each lane's next round, once the one at a place gave its own
abbrev pub next_lanes : ℕ → (ℕ → ℕ) → ℕ → ℕ
next_lanes place lanes other = if other == place then lanes place + 1 else lanes other

-- the program once the lane at a place gave its round
abbrev pub noting : ℕ → Run → Run
noting place run = record { rounds = given (run.lanes place) run.rounds; lanes = next_lanes place run.lanes }

-- the lane at a place puts
abbrev pub putting : ℕ → Option Run → Station → Station
putting place None station = station
putting place (Some run) station =
    record station { run = Some (noting place run); gave = record { run = station.runs; place = place; number = next_number place run } ∷ station.gave }

-- the program has these rounds
abbrev pub covering : Rounds → Option Run → Option Run
covering rounds None = None
covering rounds (Some run) = Some (record run { rounds = rounds })

-- the station after something happened
abbrev pub after : Happening → Station → Station
after (opens start now rounds) station = record station { steps = now; run = Some (record { rounds = rounds; lanes = λ place. rounds.next }); runs = station.runs + 1 }
after (covers now rounds) station = record station { steps = now; run = covering rounds station.run }
after (puts place) station = putting place station.run station
after (stops_opening start moment now) station = record station { steps = moment; run = None }
after (stops_covering moment now) station = record station { steps = moment; run = None }
after cuts station = record station { steps = cut ∷ station.steps; run = None }
after (goes_on now) station = record station { steps = now }

-- a read of the path that comes first found what might be found there
abbrev pub ReadsTruly : List ℕ → List Step → List Step → Type 0
ReadsTruly path before now = (found : Option (List ℕ)) (later : List Step) → now ≡ later ++ (saw path found ∷ before) → MayFind before path found

-- a moment between two lists of steps
pub record IsMoment (before moment now : List Step) : Type 0 where
  pub later : List Step
  pub earlier : List Step
  pub now_is : now ≡ later ++ (earlier ++ before)
  pub moment_is : moment ≡ earlier ++ before

-- what `open` promises, however it ends
abbrev pub IsOpening : List ℕ → Start → List Step → List Step → Type 0
IsOpening path start before now = ((rounds : Rounds) × Opens path start.first start.width start.block before now rounds)
    ⊎ ((fault : NumbersFault) × OpensNot fault path start.first start.width start.block before now)

-- what `cover` promises, however it ends
abbrev pub IsCovering : List ℕ → Rounds → Rounds → List Step → List Step → Type 0
IsCovering path old new before now = Covers (cover_of old) path old before now ×
    ((new ≡ old) ⊎ ((new ≡ covered_by (cover_of old) old) × Covered (cover_of old) path old now))

-- P of the program, if one runs
abbrev pub InRun : Option Run → (Run → Type 0) → Type 0
InRun None P = ⊥
InRun (Some run) P = P run

-- each call keeps its promise; reads are true; a round is given once it is covered
abbrev pub MayHappen : List ℕ → Happening → Station → Type 0
MayHappen path (opens start now rounds) station =
    Opens path start.first start.width start.block station.steps now rounds × ReadsTruly path station.steps now
MayHappen path (covers now rounds) station = InRun station.run (λ run. IsCovering path run.rounds rounds station.steps now)
MayHappen path (puts place) station = InRun station.run (λ run. (cover_of run.rounds ≡ cover.Covered) × (place < max run.rounds.width 1))
MayHappen path (stops_opening start moment now) station =
    IsOpening path start station.steps now × ReadsTruly path station.steps now × IsMoment station.steps moment now
MayHappen path (stops_covering moment now) station =
    InRun station.run (λ run. Covers (cover_of run.rounds) path run.rounds station.steps now) × IsMoment station.steps moment now
MayHappen path cuts station = Unit {0}
MayHappen path (goes_on now) station = (found : Option (List ℕ)) → MayFind now path found → MayFind station.steps path found

-- the station after all that happened, newest first; at first nothing was given
abbrev pub station : List Step → List Happening → Station
station first [] = record { steps = first; run = None; runs = 0; gave = [] }
station first (happening ∷ earlier) = after happening (station first earlier)

-- each might happen
abbrev pub IsHistory : List ℕ → List Step → List Happening → Type 0
IsHistory path first [] = Unit {0}
IsHistory path first (happening ∷ earlier) = MayHappen path happening (station first earlier) × IsHistory path first earlier

-- a number isn't an earlier one, and is above it if it is of an earlier run or of the same lane
pub record IsAfter (now earlier : Given) : Type 0 where
  pub apart : earlier.number ≢ now.number
  pub above : (earlier.run < now.run) ⊎ (earlier.place ≡ now.place) → earlier.number < now.number

-- each is, of all that were given before it
abbrev pub AreNew : List Given → Type 0
AreNew [] = Unit {0}
AreNew (now ∷ earlier) = All (IsAfter now) earlier × AreNew earlier

-- Whatever may be on the disk at first: in any history, also where the numbers of lanes and users change from one start to
-- the next, no lane gives a number that any lane gave before, in this run or in an earlier one; and numbers rise from run to run,
-- and in a run lane by lane.
abbrev pub NeverTwice : Type 0
NeverTwice = (path : List ℕ) (first : List Step) (history : List Happening) → IsHistory path first history → AreNew (station first history).gave
