-- Laws of lane lists.
use Rattle.std.proofs.Common.{◌≡◌, ℕ, ◌<◌, ◌≤◌, ◌+◌, ◌-◌, Bool, true, false, ◌||◌, ◌==◌, not, cond, eqb, All, List, [], ◌∷◌, ◌++◌, length, length-append, suc, refl, ap, sym, ◌∙◌, arith, subst, ⊎_elim}
use Rattle.std.specs.List.Sorted.{IsNonDecreasingBy}
use Rattle.std.proofs.lemmas.Bool.{cases_eq, eq-eqb, ne_eqb, eqb-true, or_left, or_cases, false≢true, true≢false}
use Rattle.std.proofs.lemmas.List.{append-nil, get_or_append_left, get_or-append-add}
use Rattle.std.proofs.lemmas.List.Concat.{flat_map-append}
use Rattle.std.proofs.lemmas.List.Elements.{All-nil, All-cons, All-head, All-tail, All-push, All-weaker, filter-append}
use Rattle.std.proofs.lemmas.List.Folds.{list_any-append}
use Rattle.std.proofs.lemmas.List.Sorted.{IsNonDecreasingBy-push, IsNonDecreasingBy-short}
use Rattle.std.proofs.Math.Bool.{or-false}
use Rattle.cfdp_types.specs.declared.key.EntityId.{EntityId}
use Rattle.indications.specs.declared.bundle.Bundle.{Bundle}
use Rattle.indications.specs.declared.indication.Indication.{Indication}
use Rattle.indications.specs.LaneLists.{number_of, of_lane, of_number, told_in, told_of, has_number, tells, side_by, IsBegunGroup, IsWordGroup, IsLaneList}
use Rattle.indications.proofs.WordLemmas.{MayFollowOf-front, word_is_over}
use Rattle.indications.specs.declared.kind.IndicationKind.{IndicationKind}
use Rattle.indications.specs.declared.kind.IndicationKind.TheVariants as kind
use Rattle.indications.specs.declared.side.Side.TheVariants.{Sender, Receiver}
use Rattle.indications.specs.Kinds.{kind_of, is_opening}
use Rattle.indications.specs.Words.{IsBegunOf, IsNextKind, is_transaction}

-- ---- the side of a transaction

pub sender_side : (first : Indication) → is_transaction first ≡ true → side_by first ≡ Sender
sender_side first is = rw is refl

not_opening : (first : IndicationKind) → IsNextKind [] first → is_opening first ≡ false
not_opening kind.Opening may = absurd may
not_opening kind.EofSent may = refl
not_opening kind.EofRecv may = refl
not_opening kind.Metadata may = refl
not_opening (kind.Segment offset length) may = refl
not_opening kind.Suspension may = refl
not_opening kind.Resumption may = refl
not_opening (kind.End delivery) may = refl
not_opening kind.Notice may = refl

pub receiver_side : (first : Indication) (rest : List Indication) → IsBegunOf Receiver (first ∷ rest) → side_by first ≡ Receiver
receiver_side first rest begun = rw (not_opening (kind_of first) begun.1) refl

-- a filter by lane and one by number, over lists one after the other
pub of_lane-append : (lane : ℕ) (xs ys : List Bundle) → of_lane lane (xs ++ ys) ≡ of_lane lane xs ++ of_lane lane ys
of_lane-append lane xs ys = filter-append (λ bundle. eqb bundle.lane lane) xs ys

pub of_number-append : (number : ℕ) (xs ys : List Bundle) → of_number number (xs ++ ys) ≡ of_number number xs ++ of_number number ys
of_number-append number xs ys = filter-append (λ bundle. eqb (number_of bundle) number) xs ys

pub told_in-append : (xs ys : List Bundle) → told_in (xs ++ ys) ≡ told_in xs ++ told_in ys
told_in-append xs ys = flat_map-append (λ bundle. bundle.inds) xs ys

pub told_of-append : (number : ℕ) (xs ys : List Bundle) → told_of number (xs ++ ys) ≡ told_of number xs ++ told_of number ys
told_of-append number xs ys =
    ap told_in (of_number-append number xs ys) ∙ told_in-append (of_number number xs) (of_number number ys)

pub has_number-append : (number : ℕ) (xs ys : List Bundle) → has_number number (xs ++ ys) ≡ (has_number number xs || has_number number ys)
has_number-append number xs ys = list_any-append (λ bundle. eqb (number_of bundle) number) xs ys

-- one bundle more, of this lane or another
pub of_lane-more : (lane : ℕ) (xs : List Bundle) (bundle : Bundle) → bundle.lane ≡ lane → of_lane lane (xs ++ bundle ∷ []) ≡ of_lane lane xs ++ bundle ∷ []
of_lane-more lane xs bundle is =
    of_lane-append lane xs (bundle ∷ []) ∙ ap (λ (b : Bool). of_lane lane xs ++ cond b (bundle ∷ []) []) (eq-eqb bundle.lane lane is)

pub of_lane-other : (lane : ℕ) (xs : List Bundle) (bundle : Bundle) → (bundle.lane ≡ lane → ⊥) → of_lane lane (xs ++ bundle ∷ []) ≡ of_lane lane xs
of_lane-other lane xs bundle other =
    of_lane-append lane xs (bundle ∷ []) ∙ ap (λ (b : Bool). of_lane lane xs ++ cond b (bundle ∷ []) []) (ne_eqb bundle.lane lane other)
    ∙ append-nil (of_lane lane xs)

-- one bundle more, of this number or another
pub told_of-more : (number : ℕ) (xs : List Bundle) (bundle : Bundle) → number_of bundle ≡ number
    → told_of number (xs ++ bundle ∷ []) ≡ told_of number xs ++ bundle.inds
told_of-more number xs bundle is =
    told_of-append number xs (bundle ∷ [])
    ∙ ap (λ (b : Bool). told_of number xs ++ told_in (cond b (bundle ∷ []) [])) (eq-eqb (number_of bundle) number is)
    ∙ ap (λ (l : List Indication). told_of number xs ++ l) (append-nil bundle.inds)

pub told_of-other : (number : ℕ) (xs : List Bundle) (bundle : Bundle) → (number_of bundle ≡ number → ⊥)
    → told_of number (xs ++ bundle ∷ []) ≡ told_of number xs
told_of-other number xs bundle other =
    told_of-append number xs (bundle ∷ [])
    ∙ ap (λ (b : Bool). told_of number xs ++ told_in (cond b (bundle ∷ []) [])) (ne_eqb (number_of bundle) number other)
    ∙ append-nil (told_of number xs)

or_both_false : (a b : Bool) → (a || b) ≡ false → (a ≡ false) × (b ≡ false)
or_both_false true b e = absurd (true≢false e)
or_both_false false b e = (refl, e)

-- a number that no bundle has
pub told_of-none : (number : ℕ) (xs : List Bundle) → has_number number xs ≡ false → told_of number xs ≡ []
told_of-none number [] none = refl
told_of-none number (x ∷ xs) none =
    let parts = or_both_false (eqb (number_of x) number) (has_number number xs) none in
    ap (λ (b : Bool). told_in (cond b (x ∷ of_number number xs) (of_number number xs))) parts.0 ∙ told_of-none number xs parts.1

All-front : (P : Bundle → Type 0) (xs ys : List Bundle) → All P (xs ++ ys) → All P xs
All-front P [] ys all = All-nil P
All-front P (x ∷ xs) ys all = All-cons P x xs (All-head P x (xs ++ ys) all) (All-front P xs ys (All-tail P x (xs ++ ys) all))

-- numbers at or above another, and at or below
pub has_number-above : (number low : ℕ) (xs : List Bundle) → number < low → All (λ bundle. low ≤ number_of bundle) xs → has_number number xs ≡ false
has_number-above number low [] less above = refl
has_number-above number low (x ∷ xs) less above =
    let first : low ≤ number_of x = All-head (λ (bundle : Bundle). low ≤ number_of bundle) x xs above in
    rw (ne_eqb (number_of x) number (λ e. omega (arith, first, less, e)))
    (has_number-above number low xs less (All-tail (λ (bundle : Bundle). low ≤ number_of bundle) x xs above))

pub has_number-below : (high number : ℕ) (xs : List Bundle) → high < number → All (λ bundle. number_of bundle ≤ high) xs → has_number number xs ≡ false
has_number-below high number [] less below = refl
has_number-below high number (x ∷ xs) less below =
    let first : number_of x ≤ high = All-head (λ (bundle : Bundle). number_of bundle ≤ high) x xs below in
    rw (ne_eqb (number_of x) number (λ e. omega (arith, first, less, e)))
    (has_number-below high number xs less (All-tail (λ (bundle : Bundle). number_of bundle ≤ high) x xs below))

pub has_number-bound : (number high : ℕ) (xs : List Bundle) → All (λ bundle. number_of bundle ≤ high) xs → has_number number xs ≡ true → number ≤ high
has_number-bound number high [] below has = absurd (false≢true has)
has_number-bound number high (x ∷ xs) below has =
    ⊎_elim
    (λ (this : eqb (number_of x) number ≡ true).
    omega (arith, eqb-true (number_of x) number this, All-head (λ (bundle : Bundle). number_of bundle ≤ high) x xs below))
    (λ (later : has_number number xs ≡ true).
    has_number-bound number high xs (All-tail (λ (bundle : Bundle). number_of bundle ≤ high) x xs below) later)
    (or_cases (eqb (number_of x) number) (has_number number xs) has)

-- after a number in rising bundles there is no lower one
rising_tail : (x : Bundle) (xs : List Bundle) → IsNonDecreasingBy number_of (x ∷ xs) → IsNonDecreasingBy number_of xs
rising_tail x xs rising i j d le within = rising (suc i) (suc j) d (omega arith) (omega arith)

rising_after_first : (x : Bundle) (xs ys : List Bundle) → IsNonDecreasingBy number_of (x ∷ xs ++ ys) → All (λ bundle. number_of x ≤ number_of bundle) ys
rising_after_first x xs ys rising k d within =
    let last : length xs + k < length (xs ++ ys) = omega (arith, within, length-append xs ys) in
    rw (get_or-append-add xs ys k d) at (rising 0 (suc (length xs + k)) d (omega arith) (omega (arith, last)))

pub rising_after : (number : ℕ) (xs ys : List Bundle) → IsNonDecreasingBy number_of (xs ++ ys) → has_number number xs ≡ true
    → All (λ bundle. number ≤ number_of bundle) ys
rising_after number [] ys rising has = absurd (false≢true has)
rising_after number (x ∷ xs) ys rising has =
    ⊎_elim
    (λ (this : eqb (number_of x) number ≡ true).
    subst (λ n. All (λ (bundle : Bundle). n ≤ number_of bundle) ys) (eqb-true (number_of x) number this) (rising_after_first x xs ys rising))
    (λ (later : has_number number xs ≡ true). rising_after number xs ys (rising_tail x (xs ++ ys) rising) later)
    (or_cases (eqb (number_of x) number) (has_number number xs) has)

pub rising_front : (xs ys : List Bundle) → IsNonDecreasingBy number_of (xs ++ ys) → IsNonDecreasingBy number_of xs
rising_front xs ys rising i j d le within =
    rw (get_or_append_left xs ys d i (omega (arith, le, within)), get_or_append_left xs ys d j within)
    at (rising i j d le (omega (arith, within, length-append xs ys)))

-- the beginning of what a transaction has told is one
pub group_front : (xs ys : List Indication) → IsBegunGroup (xs ++ ys) → IsBegunGroup xs
group_front [] ys begun = tt
group_front (x ∷ xs) ys begun = MayFollowOf-front (side_by x) [] (x ∷ xs) ys begun

-- no bundle is a lane list
pub IsLaneList-nil : (user lane : ℕ) (source : EntityId) → IsLaneList user lane source []
IsLaneList-nil user lane source = record {
  told = All-nil (λ bundle. tells bundle ≡ true);
  users = All-nil (λ bundle. bundle.user ≡ user);
  lanes = All-nil (λ bundle. bundle.lane ≡ lane);
  sources = All-nil (λ bundle. bundle.key.source ≡ source);
  rising = IsNonDecreasingBy-short number_of [] (omega arith);
  begun = λ number. tt;
  ended = λ number higher less has has'. absurd (false≢true has);
}

-- the beginning of a lane list is a lane list
pub IsLaneList-front : (user lane : ℕ) (source : EntityId) (xs ys : List Bundle)
    → IsLaneList user lane source (xs ++ ys) → IsLaneList user lane source xs
IsLaneList-front user lane source xs ys all = record {
  told = All-front (λ bundle. tells bundle ≡ true) xs ys all.told;
  users = All-front (λ bundle. bundle.user ≡ user) xs ys all.users;
  lanes = All-front (λ bundle. bundle.lane ≡ lane) xs ys all.lanes;
  sources = All-front (λ bundle. bundle.key.source ≡ source) xs ys all.sources;
  rising = rising_front xs ys all.rising;
  begun = λ number. group_front (told_of number xs) (told_of number ys) (rw (told_of-append number xs ys) at (all.begun number));
  ended = λ number higher less has has'.
      let none : told_of number ys ≡ [] =
      told_of-none number ys (has_number-above number higher ys less (rising_after higher xs ys all.rising has')) in
      let same : told_of number (xs ++ ys) ≡ told_of number xs =
      told_of-append number xs ys ∙ ap (λ (l : List Indication). told_of number xs ++ l) none ∙ append-nil (told_of number xs) in
      let inside : (n : ℕ) → has_number n xs ≡ true → has_number n (xs ++ ys) ≡ true =
      λ n is. has_number-append n xs ys ∙ or_left (has_number n xs) (has_number n ys) is in
      rw same at (all.ended number higher less (inside number has) (inside higher has'));
}

-- one bundle more: of no lower number than the others, the indications of its number begun, those of lower numbers words
pub IsLaneList-more : (user lane : ℕ) (source : EntityId) (bundles : List Bundle) (bundle : Bundle)
    → IsLaneList user lane source bundles → tells bundle ≡ true
    → bundle.user ≡ user → bundle.lane ≡ lane → bundle.key.source ≡ source
    → All (λ other. number_of other ≤ number_of bundle) bundles
    → IsBegunGroup (told_of (number_of bundle) bundles ++ bundle.inds)
    → ((number : ℕ) → number < number_of bundle → has_number number bundles ≡ true → IsWordGroup (told_of number bundles))
    → IsLaneList user lane source (bundles ++ bundle ∷ [])
IsLaneList-more user lane source bundles bundle all some of_user of_lane of_source highest begun words = record {
  told = All-push (λ bundle. tells bundle ≡ true) bundles bundle all.told some;
  users = All-push (λ bundle. bundle.user ≡ user) bundles bundle all.users of_user;
  lanes = All-push (λ bundle. bundle.lane ≡ lane) bundles bundle all.lanes of_lane;
  sources = All-push (λ bundle. bundle.key.source ≡ source) bundles bundle all.sources of_source;
  rising = IsNonDecreasingBy-push number_of bundles bundle all.rising (λ d filled. highest (length bundles - 1) d (omega arith));
  begun = λ number. ⊎_elim
      (λ (this : number_of bundle ≡ number).
      rw (told_of-more number bundles bundle this) (subst (λ n. IsBegunGroup (told_of n bundles ++ bundle.inds)) this begun))
      (λ (other : number_of bundle ≡ number → ⊥). rw (told_of-other number bundles bundle other) (all.begun number))
      (cases_eq (number_of bundle) number);
  ended = λ number higher less has has'.
      let top : All (λ other. number_of other ≤ number_of bundle) (bundles ++ bundle ∷ []) =
      All-push (λ (other : Bundle). number_of other ≤ number_of bundle) bundles bundle highest (omega arith) in
      let below : number < number_of bundle = omega (arith, less, has_number-bound higher (number_of bundle) (bundles ++ bundle ∷ []) top has') in
      let other : number_of bundle ≡ number → ⊥ = λ e. omega (arith, below, e) in
      let before : has_number number bundles ≡ true =
      sym (or-false (has_number number bundles)) ∙ ap (λ (b : Bool). has_number number bundles || (b || false)) (sym (ne_eqb (number_of bundle) number other))
      ∙ sym (has_number-append number bundles (bundle ∷ [])) ∙ has in
      rw (told_of-other number bundles bundle other) (words number below before);
}

-- one bundle more of the last number
pub IsLaneList-same : (user lane : ℕ) (source : EntityId) (bundles : List Bundle) (bundle : Bundle)
    → IsLaneList user lane source bundles → tells bundle ≡ true
    → bundle.user ≡ user → bundle.lane ≡ lane → bundle.key.source ≡ source
    → All (λ other. number_of other ≤ number_of bundle) bundles → has_number (number_of bundle) bundles ≡ true
    → IsBegunGroup (told_of (number_of bundle) bundles ++ bundle.inds)
    → IsLaneList user lane source (bundles ++ bundle ∷ [])
IsLaneList-same user lane source bundles bundle all some of_user of_lane of_source highest has begun =
    IsLaneList-more user lane source bundles bundle all some of_user of_lane of_source highest begun
    (λ number less has'. all.ended number (number_of bundle) less has' has)

-- one bundle more of a higher number, where the indications of the last one are a word
pub IsLaneList-next : (user lane : ℕ) (source : EntityId) (bundles : List Bundle) (bundle : Bundle) (last : ℕ)
    → IsLaneList user lane source bundles → tells bundle ≡ true
    → bundle.user ≡ user → bundle.lane ≡ lane → bundle.key.source ≡ source
    → All (λ other. number_of other ≤ last) bundles → last < number_of bundle
    → (has_number last bundles ≡ true) × IsWordGroup (told_of last bundles)
    → IsBegunGroup bundle.inds
    → IsLaneList user lane source (bundles ++ bundle ∷ [])
IsLaneList-next user lane source bundles bundle last all some of_user of_lane of_source below higher ended begun =
    let highest : All (λ other. number_of other ≤ number_of bundle) bundles =
    All-weaker (λ (other : Bundle). number_of other ≤ last) (λ (other : Bundle). number_of other ≤ number_of bundle)
    (λ (other : Bundle) (le : number_of other ≤ last). omega (arith, le, higher)) bundles below in
    let none : told_of (number_of bundle) bundles ≡ [] = told_of-none (number_of bundle) bundles (has_number-below last (number_of bundle) bundles higher below) in
    IsLaneList-more user lane source bundles bundle all some of_user of_lane of_source highest
    (subst (λ l. IsBegunGroup (l ++ bundle.inds)) (sym none) begun)
    (λ number less has. ⊎_elim
    (λ (this : number ≡ last). subst (λ n. IsWordGroup (told_of n bundles)) (sym this) ended.1)
    (λ (other : number ≡ last → ⊥).
    let le : number ≤ last = has_number-bound number last bundles below has in
    all.ended number last (omega (arith, le, other)) has ended.0)
    (cases_eq number last))

-- after the end of a number's word no bundle has that number
over_rest : (word rest : List Indication) → IsWordGroup word → IsBegunGroup (word ++ rest) → rest ≡ []
over_rest word [] is begun = refl
over_rest [] (next ∷ rest) is begun = absurd (false≢true is.1)
over_rest (x ∷ xs) (next ∷ rest) is begun = absurd (word_is_over (side_by x) (x ∷ xs) next rest is begun)

-- bundles that tell something, and nothing of a number, do not have it
some_after : (xs ys : List Indication) → not (length xs == 0) ≡ true → xs ++ ys ≡ [] → ⊥
some_after [] ys some e = false≢true some
some_after (x ∷ xs) ys some e = let long = ap length e in absurd cc

silent_test : (test : Bool) (x : Bundle) (of_rest : List Bundle) (rest : Bool) → tells x ≡ true → told_in (cond test (x ∷ of_rest) of_rest) ≡ []
    → (told_in of_rest ≡ [] → rest ≡ false) → (test || rest) ≡ false
silent_test true x of_rest rest some silent later = absurd (some_after x.inds (told_in of_rest) some silent)
silent_test false x of_rest rest some silent later = later silent

has_number-silent : (number : ℕ) (xs : List Bundle) → All (λ bundle. tells bundle ≡ true) xs → told_of number xs ≡ [] → has_number number xs ≡ false
has_number-silent number [] told silent = refl
has_number-silent number (x ∷ xs) told silent =
    silent_test (eqb (number_of x) number) x (of_number number xs) (has_number number xs) (All-head (λ (bundle : Bundle). tells bundle ≡ true) x xs told) silent
    (λ later. has_number-silent number xs (All-tail (λ (bundle : Bundle). tells bundle ≡ true) x xs told) later)

All-rest : (P : Bundle → Type 0) (xs ys : List Bundle) → All P (xs ++ ys) → All P ys
All-rest P [] ys all = all
All-rest P (x ∷ xs) ys all = All-rest P xs ys (All-tail P x (xs ++ ys) all)

pub told_of-over : (user lane : ℕ) (source : EntityId) (number : ℕ) (xs ys : List Bundle)
    → IsLaneList user lane source (xs ++ ys) → IsWordGroup (told_of number xs) → has_number number ys ≡ false
told_of-over user lane source number xs ys all is =
    has_number-silent number ys (All-rest (λ bundle. tells bundle ≡ true) xs ys all.told)
    (over_rest (told_of number xs) (told_of number ys) is (rw (told_of-append number xs ys) at (all.begun number)))

-- what was taken from a queue of several lanes is a lane list of each, where with what is left it is one
pub IsLaneList-taken : (user lane : ℕ) (source : EntityId) (taken held : List Bundle)
    → IsLaneList user lane source (of_lane lane (taken ++ held)) → IsLaneList user lane source (of_lane lane taken)
IsLaneList-taken user lane source taken held all =
    IsLaneList-front user lane source (of_lane lane taken) (of_lane lane held)
    (subst (IsLaneList user lane source) (of_lane-append lane taken held) all)
