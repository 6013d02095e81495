-- Meaning. What a lane sends to its user: the bundles of its transactions, one transaction after the other.
use Rattle.std.specs.Prelude.{◌≡◌, ℕ, ◌<◌, ◌==◌, Bool, true, not, All, List, [], ◌∷◌, length, flat_map, if◌then◌else◌}
use Rattle.std.specs.List.{filter, list_any}
use Rattle.std.specs.List.Sorted.{IsNonDecreasingBy}
use Rattle.cfdp_types.specs.declared.key.EntityId.{EntityId}
use Rattle.indications.specs.declared.bundle.Bundle.{Bundle}
use Rattle.indications.specs.declared.indication.Indication.{Indication}
use Rattle.indications.specs.declared.side.Side.{Side}
use Rattle.indications.specs.declared.side.Side.TheVariants.{Sender, Receiver}
use Rattle.indications.specs.Words.{IsBegunOf, IsWordOf, is_transaction}

-- the sequence number of a bundle's transaction
abbrev pub number_of : Bundle → ℕ
number_of bundle = bundle.key.seq

-- the bundles of one lane
abbrev pub of_lane : ℕ → List Bundle → List Bundle
of_lane lane bundles = filter (λ bundle. bundle.lane == lane) bundles

-- the bundles of one transaction, by its number
abbrev pub of_number : ℕ → List Bundle → List Bundle
of_number number bundles = filter (λ bundle. number_of bundle == number) bundles

-- all indications in the bundles, in order
abbrev pub told_in : List Bundle → List Indication
told_in bundles = flat_map (λ bundle. bundle.inds) bundles

-- the indications of one transaction, by its number
abbrev pub told_of : ℕ → List Bundle → List Indication
told_of number bundles = told_in (of_number number bundles)

-- whether some bundle is of the transaction with this number
abbrev pub has_number : ℕ → List Bundle → Bool
has_number number bundles = list_any (λ bundle. number_of bundle == number) bundles

-- whether a bundle has at least one indication
abbrev pub tells : Bundle → Bool
tells bundle = not (length bundle.inds == 0)

-- the side that issues this as its first indication: only a sender issues Transaction
abbrev pub side_by : Indication → Side
side_by first = if is_transaction first then Sender else Receiver

-- the side of a transaction, judged by its first indication
abbrev pub side_of : List Indication → Side
side_of [] = Receiver
side_of (first ∷ rest) = side_by first

-- the indications of a transaction so far are the beginning of a word of its side
abbrev pub IsBegunGroup : List Indication → Type 0
IsBegunGroup told = IsBegunOf (side_of told) told

-- the indications of a transaction are a word of its side
abbrev pub IsWordGroup : List Indication → Type 0
IsWordGroup told = IsWordOf (side_of told) told

-- what one lane of a user sends: its transactions in order, all of one source and with rising numbers
pub record IsLaneList (user lane : ℕ) (source : EntityId) (bundles : List Bundle) : Type 0 where
  pub told : All (λ bundle. tells bundle ≡ true) bundles
  pub users : All (λ bundle. bundle.user ≡ user) bundles
  pub lanes : All (λ bundle. bundle.lane ≡ lane) bundles
  pub sources : All (λ bundle. bundle.key.source ≡ source) bundles
  pub rising : IsNonDecreasingBy number_of bundles
  pub begun : (number : ℕ) → IsBegunGroup (told_of number bundles)
  pub ended : (number higher : ℕ) → number < higher → has_number number bundles ≡ true → has_number higher bundles ≡ true
      → IsWordGroup (told_of number bundles)
