-- How loops read items one behind the other, as far as they can be read.
use Rattle.std.proofs.Common.{◌≡◌, ℕ, zero, suc, ◌≤◌, Bool, true, false, List, [], ◌∷◌, length, Option, Some, None, is_some, refl, sym, ap, ◌∙◌, ◌==◌, arith}
use Rattle.std.proofs.lemmas.Bool.{eqb-true}
use Rattle.pdu_reading.specs.Items.{items_within, items_to_end}
use Rattle.pdu_laws.proofs.ItemLaws.{Item, Shortens, items_within-nil, items_within-step, items_to_end-nil, items_to_end-step}
use Rattle.pdu_laws.proofs.FieldLaws.{bind_some, some_is}
use Rattle.pdu_codec.specs.Parts.{first_and_others, items_among}

-- nothing is read where there is nothing
pub none_of_nothing : {A : Type 0} (item : Item A) → Shortens item → item [] ≡ None
none_of_nothing {A} item shortens = by_answer (item []) refl
  where
    by_answer : (found : Option (A × List ℕ)) → item [] ≡ found → item [] ≡ None
    by_answer None e = e
    by_answer (Some x) e = absurd (omega (arith, shortens [] x e))

-- one turn
pub items_among-step : {A : Type 0} (item : Item A) (most : ℕ) (octets : List ℕ) → items_among item (suc most) octets ≡ first_and_others (item octets) (items_among item most)
unfolding items_among
items_among-step item most octets = refl

pub items_among-nil : {A : Type 0} (item : Item A) (most : ℕ) → Shortens item → items_among item most [] ≡ []
unfolding items_among
items_among-nil item zero shortens = refl
items_among-nil item (suc most) shortens = rw (none_of_nothing item shortens) refl

-- more than one turn for each octet changes nothing
items_among_enough : {A : Type 0} (item : Item A) → Shortens item → (most more : ℕ) (octets : List ℕ) → length octets ≤ most → length octets ≤ more
    → items_among item most octets ≡ items_among item more octets
items_among_enough item shortens most more [] le enough = items_among-nil item most shortens ∙ sym (items_among-nil item more shortens)
items_among_enough item shortens zero more (octet ∷ octets) le enough = absurd (omega arith)
items_among_enough item shortens (suc most) zero (octet ∷ octets) le enough = absurd (omega arith)
items_among_enough item shortens (suc most) (suc more) (octet ∷ octets) le enough =
    let os = octet ∷ octets in
    items_among-step item most os
    ∙ same_behind item most more os (item os) (λ x e. items_among_enough item shortens most more x.1 (omega (arith, shortens os x e, le)) (omega (arith, shortens os x e, enough))) refl
    ∙ sym (items_among-step item more os)
  where
    same_behind : {A : Type 0} (item : Item A) (most more : ℕ) (os : List ℕ) (found : Option (A × List ℕ)) → ((x : A × List ℕ) → item os ≡ Some x → items_among item most x.1 ≡ items_among item more x.1) → item os ≡ found
        → first_and_others found (items_among item most) ≡ first_and_others found (items_among item more)
    same_behind item most more os None same e = refl
    same_behind item most more os (Some x) same e = rw (same x e) refl

-- the first item, and then the others
pub items_among_go_on : {A : Type 0} (item : Item A) → Shortens item → (octets : List ℕ) (x : A × List ℕ) → item octets ≡ Some x
    → items_among item (length octets) octets ≡ x.0 ∷ items_among item (length x.1) x.1
items_among_go_on item shortens [] x e = absurd (omega (arith, shortens [] x e))
items_among_go_on item shortens (octet ∷ octets) x e =
    let os = octet ∷ octets in
    let shorter = shortens os x e in
    items_among-step item (length octets) os
    ∙ rw (e, items_among_enough item shortens (length octets) (length x.1) x.1 (omega (arith, shorter)) (omega arith)) refl

-- an item that can't be read
pub items_among_stop : {A : Type 0} (item : Item A) (octets : List ℕ) → item octets ≡ None → items_among item (length octets) octets ≡ []
unfolding items_among
items_among_stop item [] e = refl
items_among_stop item (octet ∷ octets) e = rw e refl

-- items up to the end are those that can be read
items_within_are : {A : Type 0} (item : Item A) → Shortens item → (most : ℕ) (octets : List ℕ) (xs : List A) → items_within item most octets ≡ Some xs → items_among item most octets ≡ xs
unfolding items_within
items_within_are item shortens most [] xs e = items_among-nil item most shortens ∙ some_is [] xs (sym (items_within-nil item most) ∙ e)
items_within_are item shortens zero (octet ∷ octets) xs e = absurd cc
items_within_are item shortens (suc most) (octet ∷ octets) xs e =
    let os = octet ∷ octets in
    let first = bind_some (item os) _ xs (sym (items_within-step item most os (omega arith)) ∙ e) in
    let others = bind_some (items_within item most first.0.1) _ xs first.2 in
    let same = items_within_are item shortens most first.0.1 others.0 others.1 in
    items_among-step item most os ∙ rw (first.1, same) (some_is (first.0.0 ∷ others.0) xs others.2)

pub items_to_end_are : {A : Type 0} (item : Item A) → Shortens item → (octets : List ℕ) (xs : List A) → items_to_end item octets ≡ Some xs → items_among item (length octets) octets ≡ xs
unfolding items_to_end
items_to_end_are item shortens octets xs e = items_within_are item shortens (length octets) octets xs e

-- where all can be read, nothing is left out
pub all_read : {A : Type 0} (item : Item A) → Shortens item → (octets : List ℕ) → is_some (items_to_end item octets) ≡ true
    → items_to_end item octets ≡ Some (items_among item (length octets) octets)
all_read {A} item shortens octets there = by_answer (items_to_end item octets) refl
  where
    by_answer : (read : Option (List A)) → items_to_end item octets ≡ read → items_to_end item octets ≡ Some (items_among item (length octets) octets)
    by_answer None e = let none = ap is_some e in absurd cc
    by_answer (Some xs) e = e ∙ ap Some (sym (items_to_end_are item shortens octets xs e))

-- whether all can be read shows behind the first item
pub still_some : {A : Type 0} (item : Item A) → Shortens item → (octets rest : List ℕ) (x : A) (all : Bool) → item octets ≡ Some (x, rest)
    → is_some (items_to_end item octets) ≡ all → is_some (items_to_end item rest) ≡ all
still_some {A} item shortens octets rest x all e so = sym (by_answer (items_to_end item rest) refl) ∙ so
  where
    by_answer : (read : Option (List A)) → items_to_end item rest ≡ read → is_some (items_to_end item octets) ≡ is_some (items_to_end item rest)
    by_answer None there = rw (items_to_end-step item shortens octets (x, rest) e, there) refl
    by_answer (Some xs) there = rw (items_to_end-step item shortens octets (x, rest) e, there) refl

pub is_more : (octets : List ℕ) → false ≡ (length octets == 0) → 1 ≤ length octets
is_more [] e = absurd cc
is_more (octet ∷ octets) e = omega arith

pub none_left : {A : Type 0} (item : Item A) (octets : List ℕ) → true ≡ (length octets == 0) → items_to_end item octets ≡ Some []
none_left item [] e = items_to_end-nil item
none_left item (octet ∷ octets) e = absurd (omega (arith, eqb-true _ _ (sym e)))
