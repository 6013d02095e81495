-- Which lanes have given their outlets back.
use Rattle.std.proofs.Common.{◌≡◌, ℕ, zero, suc, Bool, true, false, ◌&&◌, List, [], ◌∷◌, ◌++◌, map, set, Option, Some, None, refl, ap, sym, ◌∙◌}
use Rattle.std.specs.List.{list_all}
use Rattle.indications.specs.declared.bundle.Bundle.{Bundle}
use Rattle.queue_rule.specs.declared.view.OutletView.{OutletView}
use Rattle.queue_rule.specs.declared.view.PortView.{PortView}
use Rattle.queue_rule.specs.Views.{with_lane, with_known}
use Rattle.user_queues.specs.Shared.{is_admitted, admitted_in}

marks-more : (known : List (Option (List Bundle))) → map is_admitted (known ++ None ∷ []) ≡ map is_admitted known ++ false ∷ []
marks-more [] = refl
marks-more (x ∷ xs) = ap (λ (l : List Bool). is_admitted x ∷ l) (marks-more xs)

marks-set : (known : List (Option (List Bundle))) (lane : ℕ) (bundles : List Bundle)
    → map is_admitted (set known lane (Some bundles)) ≡ set (map is_admitted known) lane true
marks-set [] lane bundles = refl
marks-set (x ∷ xs) zero bundles = refl
marks-set (x ∷ xs) (suc lane) bundles = ap (λ (l : List Bool). is_admitted x ∷ l) (marks-set xs lane bundles)

-- one lane more, whose outlet is out
pub one_mark_more : (marks more : List Bool) (port next : PortView) → marks ≡ admitted_in port → next ≡ with_lane port
    → more ≡ marks ++ false ∷ [] → more ≡ admitted_in next
one_mark_more marks more port next were made pushed =
    pushed ∙ ap (λ (l : List Bool). l ++ false ∷ []) were ∙ sym (marks-more port.known) ∙ sym (ap admitted_in made)

-- a lane gave its outlet back
pub marked : (marks new : List Bool) (port next : PortView) (outlet given : OutletView) (lane : ℕ) → marks ≡ admitted_in port
    → next ≡ with_known port given → given ≡ outlet → lane ≡ outlet.lane → new ≡ set marks lane true → new ≡ admitted_in next
marked marks new port next outlet given lane were made is of_lane set_is =
    set_is ∙ ap (λ (l : List Bool). set l lane true) were ∙ ap (λ (n : ℕ). set (admitted_in port) n true) (of_lane ∙ sym (ap (λ (o : OutletView). o.lane) is))
    ∙ sym (marks-set port.known given.lane given.sent) ∙ sym (ap admitted_in made)

pub all_admitted : (known : List (Option (List Bundle))) → list_all (λ mark. mark) (map is_admitted known) ≡ list_all is_admitted known
all_admitted [] = refl
all_admitted (x ∷ xs) = ap (λ (b : Bool). is_admitted x && b) (all_admitted xs)
