-- Lane lists of transactions that are over at once, with rising numbers.
use Rattle.std.proofs.Common.{◌≡◌, ℕ, ◌+◌, ◌≤◌, Bool, true, false, List, [], ◌∷◌, ◌++◌, ◌||◌, refl, ap, sym, ◌∙◌, subst, ⊎_elim, arith}
use Rattle.std.proofs.lemmas.Bool.{cases_eq, ne_eqb, false≢true}
use Rattle.std.proofs.lemmas.List.Elements.{All-nil, All-push, All-weaker}
use Rattle.std.proofs.Math.Bool.{or-false}
use Rattle.cfdp_types.specs.declared.key.EntityId.{EntityId}
use Rattle.indications.specs.declared.bundle.Bundle.{Bundle}
use Rattle.indications.specs.declared.indication.Indication.{Indication}
use Rattle.indications.specs.LaneLists.{number_of, told_of, of_lane, has_number, IsBegunGroup, IsWordGroup, IsLaneList}
use Rattle.queue_tests.specs.Ended.{told_by, AreEnded, AllEnded}
use Rattle.indications.proofs.LaneLemmas.{of_lane-more, of_lane-other, told_of-more, told_of-other, told_of-none, has_number-append, has_number-below, IsLaneList-nil, IsLaneList-more}

pub none_ended : (user lane : ℕ) (source : EntityId) → AreEnded user lane source 0 []
none_ended user lane source = record {
  list = IsLaneList-nil user lane source;
  below = All-nil (λ (bundle : Bundle). number_of bundle ≤ 0);
  words = λ number has. absurd (false≢true has);
}

nothing_told : (user lane : ℕ) (source : EntityId) (last : ℕ) (bundles : List Bundle) → AreEnded user lane source last bundles
    → told_of (last + 1) bundles ≡ []
nothing_told user lane source last bundles ended =
    told_of-none (last + 1) bundles (has_number-below last (last + 1) bundles (omega arith) ended.below)

-- one more may be sent
pub next_list : (user lane : ℕ) (source : EntityId) (last : ℕ) (bundles : List Bundle) (bundle : Bundle)
    → AreEnded user lane source last bundles → bundle.user ≡ user → bundle.lane ≡ lane
    → bundle.key ≡ record { source = source; seq = last + 1 } → bundle.inds ≡ told_by (last + 1)
    → IsLaneList user lane source (bundles ++ bundle ∷ [])
next_list user lane source last bundles bundle ended of_user of_lane key told =
    let number : number_of bundle ≡ last + 1 = ap (λ k. k.seq) key in
    let nothing : told_of (number_of bundle) bundles ≡ [] =
    subst (λ (n : ℕ). told_of n bundles ≡ []) (sym number) (nothing_told user lane source last bundles ended) in
    IsLaneList-more user lane source bundles bundle ended.list (rw told refl) of_user of_lane (ap (λ k. k.source) key)
    (All-weaker (λ (other : Bundle). number_of other ≤ last) (λ (other : Bundle). number_of other ≤ number_of bundle)
    (λ (other : Bundle) (le : number_of other ≤ last). omega (arith, le, number)) bundles ended.below)
    (subst (λ (l : List Indication). IsBegunGroup (l ++ bundle.inds)) (sym nothing)
    (subst IsBegunGroup (sym told) (refl, tt, tt)))
    (λ n less has. ended.words n has)

-- and its transaction is over then
pub next_ended : (user lane : ℕ) (source : EntityId) (last : ℕ) (bundles : List Bundle) (bundle : Bundle)
    → AreEnded user lane source last bundles → bundle.user ≡ user → bundle.lane ≡ lane
    → bundle.key ≡ record { source = source; seq = last + 1 } → bundle.inds ≡ told_by (last + 1)
    → AreEnded user lane source (last + 1) (bundles ++ bundle ∷ [])
next_ended user lane source last bundles bundle ended of_user of_lane key told =
    let number : number_of bundle ≡ last + 1 = ap (λ k. k.seq) key in
    let nothing : told_of (number_of bundle) bundles ≡ [] =
    subst (λ (n : ℕ). told_of n bundles ≡ []) (sym number) (nothing_told user lane source last bundles ended) in record {
      list = next_list user lane source last bundles bundle ended of_user of_lane key told;
      below = All-push (λ (other : Bundle). number_of other ≤ last + 1) bundles bundle
          (All-weaker (λ (other : Bundle). number_of other ≤ last) (λ (other : Bundle). number_of other ≤ last + 1)
          (λ (other : Bundle) (le : number_of other ≤ last). omega (arith, le)) bundles ended.below)
          (omega (arith, number));
      words = λ n has. ⊎_elim
          (λ (this : number_of bundle ≡ n).
          let all : told_of n (bundles ++ bundle ∷ []) ≡ told_by (last + 1) =
          told_of-more n bundles bundle this
          ∙ ap (λ (l : List Indication). l ++ bundle.inds) (subst (λ (m : ℕ). told_of m bundles ≡ []) this nothing) ∙ told in
          subst IsWordGroup (sym all) ((refl, tt, tt), refl))
          (λ (other : number_of bundle ≡ n → ⊥).
          let before : has_number n bundles ≡ true =
          sym (or-false (has_number n bundles)) ∙ ap (λ (b : Bool). has_number n bundles || (b || false)) (sym (ne_eqb (number_of bundle) n other))
          ∙ sym (has_number-append n bundles (bundle ∷ [])) ∙ has in
          subst IsWordGroup (sym (told_of-other n bundles bundle other)) (ended.words n before))
          (cases_eq (number_of bundle) n);
    }

-- as the bundle itself says
pub may_go_on : (user lane : ℕ) (source : EntityId) (last : ℕ) (bundles : List Bundle) (bundle : Bundle)
    → AreEnded user lane source last bundles → bundle.user ≡ user → bundle.lane ≡ lane
    → bundle.key ≡ record { source = source; seq = last + 1 } → bundle.inds ≡ told_by (last + 1)
    → IsLaneList bundle.user bundle.lane bundle.key.source (bundles ++ bundle ∷ [])
may_go_on user lane source last bundles bundle ended of_user of_lane key told =
    let all : List Bundle = bundles ++ bundle ∷ [] in
    subst (λ (u : ℕ). IsLaneList u bundle.lane bundle.key.source all) (sym of_user)
    (subst (λ (l : ℕ). IsLaneList user l bundle.key.source all) (sym of_lane)
    (subst (λ (s : EntityId). IsLaneList user lane s all) (sym (ap (λ k. k.source) key))
    (next_list user lane source last bundles bundle ended of_user of_lane key told)))

-- a greater number may be the last
pub ended_by : (user lane : ℕ) (source : EntityId) (last later : ℕ) (bundles : List Bundle) → last ≤ later
    → AreEnded user lane source last bundles → AreEnded user lane source later bundles
ended_by user lane source last later bundles le ended = record {
  list = ended.list;
  below = All-weaker (λ (other : Bundle). number_of other ≤ last) (λ (other : Bundle). number_of other ≤ later)
      (λ (other : Bundle) (below : number_of other ≤ last). omega (arith, le, below)) bundles ended.below;
  words = ended.words;
}

-- so it is of each lane's part
pub none_all_ended : (user : ℕ) (source : EntityId) → AllEnded user source 0 []
none_all_ended user source lane = none_ended user lane source

pub next_all_ended : (user lane : ℕ) (source : EntityId) (last : ℕ) (bundles : List Bundle) (bundle : Bundle)
    → AllEnded user source last bundles → bundle.user ≡ user → bundle.lane ≡ lane
    → bundle.key ≡ record { source = source; seq = last + 1 } → bundle.inds ≡ told_by (last + 1)
    → AllEnded user source (last + 1) (bundles ++ bundle ∷ [])
next_all_ended user lane source last bundles bundle ended of_user is key told other = ⊎_elim
    (λ (this : bundle.lane ≡ other).
    subst (AreEnded user other source (last + 1)) (sym (of_lane-more other bundles bundle this))
    (next_ended user other source last (of_lane other bundles) bundle (ended other) of_user this key told))
    (λ (apart : bundle.lane ≡ other → ⊥).
    subst (AreEnded user other source (last + 1)) (sym (of_lane-other other bundles bundle apart))
    (ended_by user other source last (last + 1) (of_lane other bundles) (omega arith) (ended other)))
    (cases_eq bundle.lane other)
