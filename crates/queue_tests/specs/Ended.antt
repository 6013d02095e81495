-- Rows. Lane lists of transactions that end at once, with rising numbers.
use Rattle.std.specs.Prelude.{◌≡◌, ℕ, ◌%◌, ◌^◌, ◌≤◌, true, All, List, [], ◌∷◌}
use Rattle.cfdp_types.specs.declared.key.EntityId.{EntityId}
use Rattle.indications.specs.declared.bundle.Bundle.{Bundle}
use Rattle.indications.specs.declared.indication.Indication.{Indication}
use Rattle.indications.specs.declared.indication.Indication.TheVariants.{Abandoned}
use Rattle.indications.specs.LaneLists.{number_of, told_of, of_lane, has_number, IsWordGroup, IsLaneList}

-- all indications of the transaction with this number
abbrev pub told_by : ℕ → List Indication
told_by number = Abandoned 0 (number % 2 ^ 32) ∷ []

-- all bundles so far have numbers up to this one, and their transactions are over
pub record AreEnded (user lane : ℕ) (source : EntityId) (last : ℕ) (bundles : List Bundle) : Type 0 where
  pub list : IsLaneList user lane source bundles
  pub below : All (λ bundle. number_of bundle ≤ last) bundles
  pub words : (number : ℕ) → has_number number bundles ≡ true → IsWordGroup (told_of number bundles)

-- each lane's part is such a list
abbrev pub AllEnded : ℕ → EntityId → ℕ → List Bundle → Type 0
AllEnded user source last bundles = (lane : ℕ) → AreEnded user lane source last (of_lane lane bundles)
