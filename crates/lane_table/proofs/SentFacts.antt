-- What a lane keeps of its bundles, over one number more and one bundle more.
use Rattle.std.proofs.Common.{◌≡◌, ℕ, ◌≤◌, ◌<◌, Bool, true, false, ◌||◌, eqb, All, List, [], ◌∷◌, ◌++◌, Option, Some, None, refl, sym, ap, ◌∙◌, subst, ⊎_elim, arith}
use Rattle.std.proofs.lemmas.Bool.{cases_eq, ne_eqb, eqb-true, false≢true, or_cases}
use Rattle.std.proofs.lemmas.List.Elements.{All-nil, All-head, All-tail, All-push, All-weaker}
use Rattle.std.proofs.Math.Bool.{or-false}
use Rattle.cfdp_types.specs.declared.key.EntityId.{EntityId}
use Rattle.indications.specs.declared.bundle.Bundle.{Bundle}
use Rattle.indications.specs.declared.indication.Indication.{Indication}
use Rattle.indications.specs.LaneLists.{number_of, told_of, has_number, tells, IsBegunGroup, IsWordGroup}
use Rattle.indications.proofs.LaneLemmas.{IsLaneList-nil, IsLaneList-more, told_of-more, told_of-other, told_of-none, has_number-append}
use Rattle.lane_table.specs.Lane.{IsRisen}
use Rattle.indications.specs.declared.side.Side.{Side}
use Rattle.lane_table.specs.Keeping.{IsUpTo, IsOfSide, AreSent}

pub some_is : {A : Type 0} (a b : A) → Some a ≡ Some b → a ≡ b
some_is a b e = cc

-- ---- no bundle

pub nothing_sent : (side : Side) (user lane : ℕ) (source : EntityId) → AreSent side user lane source None None [] []
nothing_sent side user lane source = record {
  list = IsLaneList-nil user lane source;
  sided = λ number. tt;
  current = λ number is. refl;
  reached = All-nil (λ bundle. IsUpTo None (number_of bundle));
  others = λ number has other. absurd (false≢true has);
}

-- ---- a number more

up_to_of : (last : Option ℕ) (number : ℕ) (bundles : List Bundle) → All (λ bundle. IsUpTo last (number_of bundle)) bundles
    → has_number number bundles ≡ true → IsUpTo last number
up_to_of last number [] below has = absurd (false≢true has)
up_to_of last number (x ∷ xs) below has =
    ⊎_elim
    (λ (this : eqb (number_of x) number ≡ true).
    subst (IsUpTo last) (eqb-true (number_of x) number this) (All-head (λ (bundle : Bundle). IsUpTo last (number_of bundle)) x xs below))
    (λ (later : has_number number xs ≡ true). up_to_of last number xs (All-tail (λ (bundle : Bundle). IsUpTo last (number_of bundle)) x xs below) later)
    (or_cases (eqb (number_of x) number) (has_number number xs) has)

below_risen : (last : Option ℕ) (number other : ℕ) → IsRisen last (Some number) → IsUpTo last other → other < number
below_risen None number other risen up = absurd up
below_risen (Some last) number other risen up = omega (arith, risen, up)

not_true : (b : Bool) → (b ≡ true → ⊥) → b ≡ false
not_true true h = absurd (h refl)
not_true false h = refl

-- no bundle has a number above the last
none_above : (last : Option ℕ) (number : ℕ) (bundles : List Bundle) → IsRisen last (Some number)
    → All (λ bundle. IsUpTo last (number_of bundle)) bundles → has_number number bundles ≡ false
none_above last number bundles risen reached =
    not_true (has_number number bundles)
    (λ has. let less : number < number = below_risen last number number risen (up_to_of last number bundles reached has) in omega (arith, less))

-- the last transaction, if there is one, told a word
abbrev pub IsOver : Option ℕ → List Indication → Type 0
IsOver None told = Unit {0}
IsOver (Some last) told = IsWordGroup told

over_word : (last : Option ℕ) (number : ℕ) (told : List Indication) → last ≡ Some number → IsOver last told → IsWordGroup told
over_word None number told is over = absurd cc
over_word (Some last) number told is over = over

cases_last : (last : Option ℕ) (number : ℕ) (P : Type 0) → (last ≡ Some number → P) → ((last ≡ Some number → ⊥) → P) → P
cases_last None number P same other = other (λ e. absurd cc)
cases_last (Some last) number P same other =
    ⊎_elim (λ (this : last ≡ number). same (ap Some this)) (λ (no : last ≡ number → ⊥). other (λ e. no (some_is last number e))) (cases_eq last number)

-- a transaction with a higher number opens: of it nothing was told
pub number_opens : (side : Side) (user lane : ℕ) (source : EntityId) (last before : Option ℕ) (told : List Indication) (bundles : List Bundle) (number : ℕ)
    → AreSent side user lane source last before told bundles → IsOver last told → IsRisen last (Some number)
    → AreSent side user lane source (Some number) last [] bundles
number_opens side user lane source last before told bundles number was over risen = record {
  list = was.list;
  sided = was.sided;
  current = λ n is.
      subst (λ m. told_of m bundles ≡ []) (some_is number n is) (told_of-none number bundles (none_above last number bundles risen was.reached));
  reached =
      All-weaker (λ (bundle : Bundle). IsUpTo last (number_of bundle)) (λ (bundle : Bundle). number_of bundle ≤ number)
      (λ (bundle : Bundle) (up : IsUpTo last (number_of bundle)). let less = below_risen last number (number_of bundle) risen up in omega (arith, less))
      bundles was.reached;
  others = λ n has other. (
    up_to_of last n bundles was.reached has,
    cases_last last n (IsWordGroup (told_of n bundles))
        (λ this. subst IsWordGroup (sym (was.current n this)) (over_word last n told this over))
        (λ no. (was.others n has no).1),
  );
}

-- ---- a bundle more

has_before : (number : ℕ) (bundles : List Bundle) (bundle : Bundle) → (number_of bundle ≡ number → ⊥)
    → has_number number (bundles ++ bundle ∷ []) ≡ true → has_number number bundles ≡ true
has_before number bundles bundle other has =
    sym (or-false (has_number number bundles)) ∙ ap (λ (b : Bool). has_number number bundles || (b || false)) (sym (ne_eqb (number_of bundle) number other))
    ∙ sym (has_number-append number bundles (bundle ∷ [])) ∙ has

-- a bundle of the last transaction
pub bundle_more : (side : Side) (user lane : ℕ) (source : EntityId) (number : ℕ) (before : Option ℕ) (told : List Indication) (bundles : List Bundle) (bundle : Bundle)
    → AreSent side user lane source (Some number) before told bundles
    → bundle.user ≡ user → bundle.lane ≡ lane → bundle.key ≡ record { source = source; seq = number } → tells bundle ≡ true
    → IsBegunGroup (told ++ bundle.inds) → IsOfSide side (told ++ bundle.inds)
    → AreSent side user lane source (Some number) before (told ++ bundle.inds) (bundles ++ bundle ∷ [])
bundle_more side user lane source number before told bundles bundle was of_user of_lane of_key some begun of_side =
    let is : number_of bundle ≡ number = ap (λ k. k.seq) of_key in
    let of_source : bundle.key.source ≡ source = ap (λ k. k.source) of_key in
    record {
      list =
          IsLaneList-more user lane source bundles bundle was.list some of_user of_lane of_source
          (subst (λ n. All (λ (other : Bundle). number_of other ≤ n) bundles) (sym is) was.reached)
          (rw (is, was.current number refl) begun)
          (λ n less has. (was.others n has (λ e. let same = some_is number n e in omega (arith, less, is, same))).1);
      sided = λ n.
          ⊎_elim
          (λ (this : number ≡ n).
          subst (IsOfSide side)
          (sym (told_of-more n bundles bundle (is ∙ this) ∙ ap (λ (l : List Indication). l ++ bundle.inds) (was.current n (ap Some this)))) of_side)
          (λ (no : number ≡ n → ⊥).
          subst (IsOfSide side) (sym (told_of-other n bundles bundle (λ (e : number_of bundle ≡ n). no (sym is ∙ e)))) (was.sided n))
          (cases_eq number n);
      current = λ n this.
          let same : number ≡ n = some_is number n this in
          told_of-more n bundles bundle (is ∙ same) ∙ ap (λ (l : List Indication). l ++ bundle.inds) (was.current n this);
      reached = All-push (λ (other : Bundle). number_of other ≤ number) bundles bundle was.reached (omega (arith, is));
      others = λ n has other.
          let apart : number_of bundle ≡ n → ⊥ = λ e. other (ap Some (sym is ∙ e)) in
          let old = was.others n (has_before n bundles bundle apart has) other in
          (old.0, subst IsWordGroup (sym (told_of-other n bundles bundle apart)) old.1);
    }
