-- What an accepted entry of either end shows, and facts on options and lists of PDUs that both ends use.
use Rattle.std.proofs.Common.{◌≡◌, Bool, true, false, List, [], ◌∷◌, ◌++◌, map, if◌then◌else◌, IfSome, Option, Some, None, Ok, Contains, refl, subst}
use Rattle.std.specs.List.{AllByRecursion}
use Rattle.std.proofs.lemmas.List.Elements.{All-from_recursion, All-contains}
use Rattle.cfdp_types.specs.Steps.{older_or, newer_or}
use Rattle.txn_events.specs.Refusal.{unless_refused}
use Rattle.txn_events.specs.declared.answer.Answer.{Answer}
use Rattle.txn_events.specs.declared.refusal.Refusal.{Refusal}

-- what is answered was not refused, and is the table's answer
pub accepted_parts : (why : Option Refusal) (answer given : Answer) → unless_refused why answer ≡ Ok given → (why ≡ None) × (given ≡ answer)
accepted_parts None answer given e = (refl, cc)
accepted_parts (Some r) answer given e = absurd cc

-- no refusal of a chain applies
pub none_of : (test : Bool) (why : Refusal) (rest : Option Refusal) → (if test then Some why else rest) ≡ None → (test ≡ false) × (rest ≡ None)
none_of true why rest taken = absurd cc
none_of false why rest taken = (refl, taken)

-- ---- options

pub older_both : {A : Type 0} (P : A → Type 0) (old new : Option A) → IfSome old P → IfSome new P → IfSome (older_or old new) P
older_both P None new first second = second
older_both P (Some x) new first second = first

pub newer_both : {A : Type 0} (P : A → Type 0) (new old : Option A) → IfSome new P → IfSome old P → IfSome (newer_or new old) P
newer_both P None old first second = second
newer_both P (Some x) old first second = first

pub if_there : {A : Type 0} (P : A → Type 0) (o : Option A) (x : A) → IfSome o P → o ≡ Some x → P x
if_there P None x holds is = absurd cc
if_there P (Some y) x holds is = let e : y ≡ x = cc in subst P e holds

-- ---- lists

pub each_map : {A B : Type 0} (P : B → Type 0) (f : A → B) (xs : List A) → AllByRecursion (λ x. P (f x)) xs → AllByRecursion P (map f xs)
each_map P f [] each = tt
each_map P f (x ∷ xs) each = (each.0, each_map P f xs each.1)

pub each_append : {A : Type 0} (P : A → Type 0) (xs ys : List A) → AllByRecursion P xs → AllByRecursion P ys → AllByRecursion P (xs ++ ys)
each_append P [] ys first second = second
each_append P (x ∷ xs) ys first second = (first.0, each_append P xs ys first.1 second)

pub each_contained : {A : Type 0} (P : A → Type 0) (xs : List A) (x : A) → AllByRecursion P xs → Contains xs x → P x
each_contained P xs x each there = All-contains P xs x (All-from_recursion P xs each) there
