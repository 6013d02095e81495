-- Bundles of lanes of one user, and lists that the lanes send.
use Rattle.std.proofs.Common.{◌≡◌, ℕ, ◌<◌, ◌≤◌, true, List, [], ◌∷◌, ◌++◌, refl, arith}
use Rattle.std.proofs.lemmas.Bool.{false≢true}
use Rattle.std.proofs.lemmas.List.Elements.{All-nil, All-cons}
use Rattle.cfdp_types.specs.declared.key.EntityId.{EntityId}
use Rattle.indications.specs.declared.bundle.Bundle.{Bundle}
use Rattle.indications.specs.declared.indication.Indication.TheVariants.{Abandoned}
use Rattle.indications.specs.LaneLists.{number_of, of_lane, has_number, told_of, IsWordGroup, IsLaneList}
use Rattle.indications.proofs.LaneLemmas.{IsLaneList-nil, IsLaneList-more, IsLaneList-next, of_lane-other}
use Rattle.queue_rule.specs.Views.{IsSomeLaneList}

abbrev pub source : EntityId
source = record { 0 = 1 }

-- the only bundle of the transaction with this number
abbrev pub bundle : ℕ → ℕ → Bundle
bundle lane number = record { user = 0; lane = lane; key = record { source = source; seq = number }; inds = Abandoned 15 0 ∷ [] }

pub sends_nothing : (lane : ℕ) → IsSomeLaneList 0 lane []
sends_nothing lane = (source, IsLaneList-nil 0 lane source)

pub sends_one : (lane number : ℕ) → IsLaneList 0 lane source (bundle lane number ∷ [])
sends_one lane number =
    IsLaneList-more 0 lane source [] (bundle lane number) (IsLaneList-nil 0 lane source) refl refl refl refl
    (All-nil (λ (other : Bundle). number_of other ≤ number)) (refl, tt, tt) (λ n less has. absurd (false≢true has))

-- a greater number after a lower one, whose transaction is over
pub sends_two : (lane low high : ℕ) → low < high → has_number low (bundle lane low ∷ []) ≡ true
    → IsWordGroup (told_of low (bundle lane low ∷ [])) → IsLaneList 0 lane source (bundle lane low ∷ bundle lane high ∷ [])
sends_two lane low high less has word =
    IsLaneList-next 0 lane source (bundle lane low ∷ []) (bundle lane high) low (sends_one lane low) refl refl refl refl
    (All-cons (λ (other : Bundle). number_of other ≤ low) (bundle lane low) [] (omega arith) (All-nil (λ (other : Bundle). number_of other ≤ low)))
    less (has, word) (refl, tt, tt)

-- the transactions of a lane are told of in the order of their numbers
pub not_falling : (lane low high : ℕ) → low < high → IsSomeLaneList 0 lane (bundle lane high ∷ bundle lane low ∷ []) → ⊥
not_falling lane low high less all =
    let later : high ≤ low = all.1.rising 0 1 (bundle lane high) (omega arith) (omega arith) in omega (arith, later, less)

-- the number of the bundle at the front
abbrev pub front_number : List Bundle → ℕ
front_number [] = 0
front_number (first ∷ rest) = first.key.seq

-- the number behind that
abbrev pub next_number : List Bundle → ℕ
next_number [] = 0
next_number (first ∷ rest) = front_number rest

-- a bundle of a lower lane is none of this one
pub of_lower : (lane : ℕ) (bundles : List Bundle) (last : Bundle) → last.lane < lane
    → of_lane lane (bundles ++ last ∷ []) ≡ of_lane lane bundles
of_lower lane bundles last less = of_lane-other lane bundles last (λ is. omega (arith, is, less))
