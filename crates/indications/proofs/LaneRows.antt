-- Worked lane lists: what is one, and what is none.
use Rattle.std.proofs.Common.{◌≡◌, ℕ, ◌≤◌, true, All, List, [], ◌∷◌, refl, ap, arith}
use Rattle.std.proofs.lemmas.Bool.{false≢true}
use Rattle.std.proofs.lemmas.List.Elements.{All-nil, All-cons, All-head}
use Rattle.cfdp_types.specs.declared.key.EntityId.{EntityId}
use Rattle.cfdp_types.specs.declared.names.Delivery.TheVariants.{Incomplete}
use Rattle.cfdp_types.specs.declared.names.FileStatus.TheVariants.{Unreported}
use Rattle.indications.specs.declared.bundle.Bundle.{Bundle}
use Rattle.indications.specs.declared.indication.Indication.{Indication}
use Rattle.indications.specs.declared.indication.Indication.TheVariants as told
use Rattle.indications.specs.LaneLists.{number_of, tells, IsLaneList}
use Rattle.indications.proofs.LaneLemmas.{IsLaneList-nil, IsLaneList-more, IsLaneList-same, IsLaneList-next}

abbrev source : EntityId
source = record { 0 = 1 }

abbrev bundle : ℕ → List Indication → Bundle
bundle number told = record { user = 0; lane = 2; key = record { source = source; seq = number }; inds = told }

abbrev one : Bundle → List Bundle
one first = first ∷ []

-- an EOF of number 5, its abandoning, and an EOF of number 7
reception_begun : IsLaneList 0 2 source (one (bundle 5 (told.EofRecv ∷ [])))
reception_begun =
    IsLaneList-more 0 2 source [] (bundle 5 (told.EofRecv ∷ [])) (IsLaneList-nil 0 2 source) refl refl refl refl
    (All-nil (λ (other : Bundle). number_of other ≤ 5)) (refl, refl, tt) (λ number less has. absurd (false≢true has))

at_most : (high : ℕ) (first : Bundle) → number_of first ≤ high → All (λ other. number_of other ≤ high) (one first)
at_most high first le = All-cons (λ (other : Bundle). number_of other ≤ high) first [] le (All-nil (λ (other : Bundle). number_of other ≤ high))

reception_over : IsLaneList 0 2 source (bundle 5 (told.EofRecv ∷ []) ∷ bundle 5 (told.Abandoned 15 0 ∷ []) ∷ [])
reception_over =
    IsLaneList-same 0 2 source (one (bundle 5 (told.EofRecv ∷ []))) (bundle 5 (told.Abandoned 15 0 ∷ [])) reception_begun refl refl refl refl
    (at_most 5 (bundle 5 (told.EofRecv ∷ [])) (omega arith)) refl (refl, refl, (refl, tt, tt))

two_receptions : IsLaneList 0 2 source (
    bundle 5 (told.EofRecv ∷ []) ∷ bundle 5 (told.Abandoned 15 0 ∷ []) ∷ bundle 7 (told.EofRecv ∷ []) ∷ [])
two_receptions =
    IsLaneList-next 0 2 source (bundle 5 (told.EofRecv ∷ []) ∷ bundle 5 (told.Abandoned 15 0 ∷ []) ∷ []) (bundle 7 (told.EofRecv ∷ [])) 5
    reception_over refl refl refl refl
    (All-cons (λ (other : Bundle). number_of other ≤ 5) (bundle 5 (told.EofRecv ∷ [])) (one (bundle 5 (told.Abandoned 15 0 ∷ []))) (omega arith)
    (at_most 5 (bundle 5 (told.Abandoned 15 0 ∷ [])) (omega arith)))
    (omega arith) (refl, ((refl, refl, (refl, tt, tt)), refl)) (refl, refl, tt)

-- a sender's transaction, by its first indication
sending : IsLaneList 0 2 source (one (bundle 4 (told.Transaction ∷ told.EofSent ∷ told.TransactionFinished 0 Incomplete Unreported ∷ [])))
sending =
    IsLaneList-more 0 2 source [] (bundle 4 (told.Transaction ∷ told.EofSent ∷ told.TransactionFinished 0 Incomplete Unreported ∷ []))
    (IsLaneList-nil 0 2 source) refl refl refl refl
    (All-nil (λ (other : Bundle). number_of other ≤ 4)) (refl, refl, (refl, (refl, refl), (refl, refl, tt))) (λ number less has. absurd (false≢true has))

-- a reception that has not ended, and one of a higher number
first_unended : IsLaneList 0 2 source (bundle 5 (told.EofRecv ∷ []) ∷ bundle 7 (told.EofRecv ∷ []) ∷ []) → ⊥
first_unended all = let word = all.ended 5 7 (omega arith) refl refl in false≢true word.1

-- a lower number after a higher one
falling : IsLaneList 0 2 source (bundle 7 (told.Abandoned 15 0 ∷ []) ∷ bundle 5 (told.EofRecv ∷ []) ∷ []) → ⊥
falling all = let later : 7 ≤ 5 = all.rising 0 1 (bundle 5 []) (omega arith) (omega arith) in absurd (omega (arith, later))

-- something after the end, in a bundle of its own
told_after_end : IsLaneList 0 2 source (bundle 5 (told.Abandoned 15 0 ∷ []) ∷ bundle 5 (told.Fault 15 0 ∷ []) ∷ []) → ⊥
told_after_end all = let runs = (all.begun 5).2.0 in absurd cc

-- a bundle that tells nothing
silent_bundle : IsLaneList 0 2 source (one (bundle 5 [])) → ⊥
silent_bundle all = false≢true (All-head (λ (other : Bundle). tells other ≡ true) (bundle 5 []) [] all.told)

-- a bundle of another lane, one of another source, and one of another user
other_lane : IsLaneList 0 3 source (one (bundle 5 (told.EofRecv ∷ []))) → ⊥
other_lane all =
    let lane : 2 ≡ 3 = All-head (λ (other : Bundle). other.lane ≡ 3) (bundle 5 (told.EofRecv ∷ [])) [] all.lanes in absurd (omega (arith, lane))

other_source : IsLaneList 0 2 (record { 0 = 3 }) (one (bundle 5 (told.EofRecv ∷ []))) → ⊥
other_source all =
    let from : source ≡ record { 0 = 3 } = All-head (λ (other : Bundle). other.key.source ≡ record { 0 = 3 }) (bundle 5 (told.EofRecv ∷ [])) [] all.sources in
    let number : 1 ≡ 3 = ap (λ (id : EntityId). id.0) from in absurd (omega (arith, number))

other_user : IsLaneList 1 2 source (one (bundle 5 (told.EofRecv ∷ []))) → ⊥
other_user all =
    let user : 0 ≡ 1 = All-head (λ (other : Bundle). other.user ≡ 1) (bundle 5 (told.EofRecv ∷ [])) [] all.users in absurd (omega (arith, user))
