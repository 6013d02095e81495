-- Items up to the end: what is read is spelled so, and what is spelled is read; and how a loop reads them.
use Rattle.std.proofs.Common.{◌≡◌, ℕ, zero, suc, ◌<◌, ◌≤◌, List, [], ◌∷◌, ◌++◌, length, Option, Some, None, refl, sym, ap, subst, ◌∙◌, arith}
use Rattle.std.specs.List.{flat_map, AllByRecursion}
use Rattle.std.proofs.lemmas.List.{length-append}
use Rattle.pdu_reading.specs.Items.{◌>>=◌, items_within, items_to_end}
use Rattle.pdu_values.proofs.Numbers.{IsOctets}
use Rattle.pdu_laws.proofs.FieldLaws.{bind_some, some_is, TakesItem}

abbrev pub Item : Type 0 → Type 0
Item A = List ℕ → Option (A × List ℕ)

-- the reader takes at least one octet
abbrev pub Shortens : {A : Type 0} → Item A → Type 0
Shortens {A} item = (octets : List ℕ) (x : A × List ℕ) → item octets ≡ Some x → length x.1 < length octets

-- ---- one step

pub items_within-nil : {A : Type 0} (item : Item A) (most : ℕ) → items_within item most [] ≡ Some []
unfolding items_within
items_within-nil item most = refl

pub items_within-step : {A : Type 0} (item : Item A) (most : ℕ) (octets : List ℕ) → 1 ≤ length octets
    → items_within item (suc most) octets ≡ (item octets >>= (λ first. items_within item most first.1 >>= (λ others. Some (first.0 ∷ others))))
unfolding items_within
items_within-step item most [] long = absurd (omega arith)
items_within-step item most (octet ∷ octets) long = refl

-- ---- what is read is spelled so

pub record IsItems {A : Type 0} (text : A → List ℕ) (IsFit : A → Type 0) (octets : List ℕ) (xs : List A) : Type 0 where
  pub spelled : octets ≡ flat_map text xs
  pub each : AllByRecursion IsFit xs

items_within_take : {A : Type 0} (item : Item A) (text : A → List ℕ) (IsFit : A → Type 0) → ((octets : List ℕ) (x : A × List ℕ) → IsOctets octets → item octets ≡ Some x → TakesItem text IsFit octets x)
    → (most : ℕ) (octets : List ℕ) (xs : List A) → IsOctets octets → items_within item most octets ≡ Some xs → IsItems text IsFit octets xs
unfolding items_within
items_within_take item text IsFit one most [] xs h e = subst (IsItems text IsFit []) (some_is [] xs e) (record { spelled = refl; each = tt })
items_within_take item text IsFit one zero (octet ∷ octets) xs h e = absurd cc
items_within_take item text IsFit one (suc most) (octet ∷ octets) xs h e =
    let first = bind_some (item (octet ∷ octets)) (λ x. items_within item most x.1 >>= (λ others. Some (x.0 ∷ others))) xs e in
    let others = bind_some (items_within item most first.0.1) (λ ys. Some (first.0.0 ∷ ys)) xs first.2 in
    let taken = one (octet ∷ octets) first.0 h first.1 in
    let rest = items_within_take item text IsFit one most first.0.1 others.0 taken.takes.rest_octets others.1 in
    let made : IsItems text IsFit (octet ∷ octets) (first.0.0 ∷ others.0) = record {
      spelled = taken.takes.parts ∙ ap (λ (os : List ℕ). text first.0.0 ++ os) rest.spelled;
      each = (taken.fits, rest.each);
    } in
    subst (IsItems text IsFit (octet ∷ octets)) (some_is (first.0.0 ∷ others.0) xs others.2) made

pub items_take : {A : Type 0} (item : Item A) (text : A → List ℕ) (IsFit : A → Type 0) → ((octets : List ℕ) (x : A × List ℕ) → IsOctets octets → item octets ≡ Some x → TakesItem text IsFit octets x)
    → (octets : List ℕ) (xs : List A) → IsOctets octets → items_to_end item octets ≡ Some xs → IsItems text IsFit octets xs
unfolding items_to_end
items_take item text IsFit one octets xs h e = items_within_take item text IsFit one (length octets) octets xs h e

-- ---- what is spelled is read

items_within_again : {A : Type 0} (item : Item A) (text : A → List ℕ) (IsFit : A → Type 0) → ((x : A) (rest : List ℕ) → IsFit x → item (text x ++ rest) ≡ Some (x, rest)) → ((x : A) → 1 ≤ length (text x))
    → (most : ℕ) (xs : List A) → AllByRecursion IsFit xs → length (flat_map text xs) ≤ most → items_within item most (flat_map text xs) ≡ Some xs
items_within_again item text IsFit again long most [] fits le = items_within-nil item most
items_within_again item text IsFit again long zero (x ∷ xs) fits le = absurd (omega (arith, long x, length-append (text x) (flat_map text xs)))
items_within_again item text IsFit again long (suc most) (x ∷ xs) fits le =
    let all = flat_map text (x ∷ xs) in
    let whole = length-append (text x) (flat_map text xs) in
    items_within-step item most all (omega (arith, long x, whole))
    ∙ rw (again x (flat_map text xs) fits.0, items_within_again item text IsFit again long most xs fits.1 (omega (arith, long x, whole, le))) refl

pub items_again : {A : Type 0} (item : Item A) (text : A → List ℕ) (IsFit : A → Type 0) → ((x : A) (rest : List ℕ) → IsFit x → item (text x ++ rest) ≡ Some (x, rest)) → ((x : A) → 1 ≤ length (text x))
    → (xs : List A) → AllByRecursion IsFit xs → items_to_end item (flat_map text xs) ≡ Some xs
unfolding items_to_end
items_again item text IsFit again long xs fits = items_within_again item text IsFit again long (length (flat_map text xs)) xs fits (omega arith)

-- ---- how a loop reads them

-- more than one turn for each octet changes nothing
items_within_enough : {A : Type 0} (item : Item A) → Shortens item → (most more : ℕ) (octets : List ℕ) → length octets ≤ most → length octets ≤ more → items_within item most octets ≡ items_within item more octets
items_within_enough item shortens most more [] le enough = items_within-nil item most ∙ sym (items_within-nil item more)
items_within_enough item shortens zero more (octet ∷ octets) le enough = absurd (omega arith)
items_within_enough item shortens (suc most) zero (octet ∷ octets) le enough = absurd (omega arith)
items_within_enough item shortens (suc most) (suc more) (octet ∷ octets) le enough =
    let os = octet ∷ octets in
    items_within-step item most os (omega arith)
    ∙ same_behind item most more os (item os) (λ x e. items_within_enough item shortens most more x.1 (omega (arith, shortens os x e, le)) (omega (arith, shortens os x e, enough))) refl
    ∙ sym (items_within-step item more os (omega arith))
  where
    same_behind : {A : Type 0} (item : Item A) (most more : ℕ) (os : List ℕ) (found : Option (A × List ℕ)) → ((x : A × List ℕ) → item os ≡ Some x → items_within item most x.1 ≡ items_within item more x.1) → item os ≡ found
        → (found >>= (λ first. items_within item most first.1 >>= (λ others. Some (first.0 ∷ others)))) ≡ (found >>= (λ first. items_within item more first.1 >>= (λ others. Some (first.0 ∷ others))))
    same_behind item most more os None same e = refl
    same_behind item most more os (Some x) same e = rw (same x e) refl

pub items_to_end-nil : {A : Type 0} (item : Item A) → items_to_end item [] ≡ Some []
unfolding items_to_end
items_to_end-nil item = items_within-nil item 0

-- the first item, and then the others
pub items_to_end-step : {A : Type 0} (item : Item A) → Shortens item → (octets : List ℕ) (x : A × List ℕ) → item octets ≡ Some x → items_to_end item octets ≡ (items_to_end item x.1 >>= (λ others. Some (x.0 ∷ others)))
unfolding items_to_end
items_to_end-step item shortens [] x e = absurd (omega (arith, shortens [] x e))
items_to_end-step item shortens (octet ∷ octets) x e =
    let os = octet ∷ octets in
    let shorter = shortens os x e in
    items_within-step item (length octets) os (omega arith)
    ∙ rw (e, items_within_enough item shortens (length octets) (length x.1) x.1 (omega (arith, shorter)) (omega arith)) refl

-- an item that can't be read
pub items_to_end-none : {A : Type 0} (item : Item A) (octets : List ℕ) → 1 ≤ length octets → item octets ≡ None → items_to_end item octets ≡ None
unfolding items_to_end
items_to_end-none item [] long e = absurd (omega arith)
items_to_end-none item (octet ∷ octets) long e = items_within-step item (length octets) (octet ∷ octets) (omega arith) ∙ rw e refl
