-- Meaning. What is asked of the disk of a number file, and what stays there.
use Rattle.std.specs.Prelude.{◌≡◌, ◌⊎◌, ℕ, ◌<◌, ◌≤◌, List, ◌∷◌, Option, Some, None}
use Rattle.disk.specs.Steps.{Step}
use Rattle.disk.specs.Steps.Step.{saw}
use Rattle.disk.specs.Promise.{Changes, HoldsAfterCut, Is, Whole}
use Rattle.number_file.specs.declared.file.NumbersFault.{NumbersFault}
use Rattle.number_file.specs.declared.file.NumbersFault.TheVariants.{Unreadable, Unwritable, Over}
use Rattle.number_file.specs.declared.rounds.Cover.{Cover}
use Rattle.number_file.specs.declared.rounds.Cover.TheVariants as cover
use Rattle.number_file.specs.declared.rounds.Rounds.{Rounds}
use Rattle.number_file.specs.Rounds.{begun, last_number, number_at, written}
use Rattle.number_file.specs.Texts.{beside, number_found, number_text}

-- a number was written, or the write failed: at each moment, what may be found at the path is what might be found
-- before or the whole text of the number; nothing changes at any other path but the one beside it
abbrev pub Writes : List ℕ → ℕ → List Step → List Step → Type 0
Writes path number before now = Changes (Is (beside path)) (Whole path (number_text number)) before now

-- exactly the text of this number is found after any power cut
abbrev pub Lasts : List ℕ → ℕ → List Step → Type 0
Lasts path number now = HoldsAfterCut now path (number_text number)

-- the path was read, and what was found says this number, or none
pub record Reads (number : Option ℕ) (path : List ℕ) (before now : List Step) : Type 0 where
  pub found : Option (List ℕ)
  pub says : number_found found ≡ number
  pub steps : now ≡ saw path found ∷ before

-- a run has its rounds: it began above the number that a read found, and the number of its first round is written and
-- lasts
pub record Opens (path : List ℕ) (first width block : ℕ) (before now : List Step) (rounds : Rounds) : Type 0 where
  pub number : ℕ
  pub read : List Step
  pub reads : Reads (Some number) path before read
  pub begins : rounds ≡ begun first number width block
  pub fits : number_at rounds.next rounds ≤ last_number
  pub writes : Writes path (number_at rounds.next rounds) read now
  pub lasts : Lasts path (number_at rounds.next rounds) now

-- a run has none: the number that a read found, and what came of it
pub record Fails (path : List ℕ) (first width block : ℕ) (Why : Rounds → List Step → Type 0) (before : List Step) : Type 0 where
  pub number : ℕ
  pub read : List Step
  pub reads : Reads (Some number) path before read
  pub why : Why (begun first number width block) read

-- why a run has none: the file can't be read, or a read found no number; the number of the first round is greater than
-- a file may hold; it can't be written
abbrev pub OpensNot : NumbersFault → List ℕ → ℕ → ℕ → ℕ → List Step → List Step → Type 0
OpensNot Unreadable path first width block before now = (now ≡ before) ⊎ Reads None path before now
OpensNot Over path first width block before now =
    Fails path first width block (λ rounds read. (last_number < number_at rounds.next rounds) × (now ≡ read)) before
OpensNot Unwritable path first width block before now =
    Fails path first width block (λ rounds read. (number_at rounds.next rounds ≤ last_number) × Writes path (number_at rounds.next rounds) read now) before

-- what is asked so that the next Put's round is covered: nothing, where it is, or where no round is left
abbrev pub Covers : Cover → List ℕ → Rounds → List Step → List Step → Type 0
Covers cover.Covered path rounds before now = now ≡ before
Covers (cover.Write round) path rounds before now = Writes path (number_at round rounds) before now
Covers cover.Over path rounds before now = now ≡ before

-- what lasts once it is covered
abbrev pub Covered : Cover → List ℕ → Rounds → List Step → Type 0
Covered cover.Covered path rounds now = Unit {0}
Covered (cover.Write round) path rounds now = Lasts path (number_at round rounds) now
Covered cover.Over path rounds now = ⊥

-- the rounds then
abbrev pub covered_by : Cover → Rounds → Rounds
covered_by cover.Covered rounds = rounds
covered_by (cover.Write round) rounds = written round rounds
covered_by cover.Over rounds = rounds

-- the fault where it can't be covered
abbrev pub fault_of : Cover → NumbersFault
fault_of cover.Over = Over
fault_of _ = Unwritable
