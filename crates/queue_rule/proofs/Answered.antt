-- What a call on the queue asks of the rule, and what it learns from it.
use Rattle.std.proofs.Common.{◌≡◌, ℕ, ◌≤◌, List, [], ◌∷◌, ◌++◌, length, Option, Some, None, MatchOption, IfNone, refl, sym, subst, arith}
use Rattle.crossbeam_queue.specs.Fifo.{Pushes, Pops, Forks, Merges, Learns, Held}
use Rattle.indications.specs.declared.bundle.Bundle.{Bundle}
use Rattle.queue_rule.specs.declared.view.OutletView.{OutletView}
use Rattle.queue_rule.specs.declared.view.PortView.{PortView}
use Rattle.queue_rule.specs.declared.view.View.{View}
use Rattle.queue_rule.specs.declared.view.View.TheVariants.{Origin, Port, Outlet, Spent}
use Rattle.queue_rule.specs.Views.{pushed, popped, split_port, split_outlet, joined, new_port, port_in, IsSomeLaneList, IsWholeWith, IsLearned, IsOrderly}
use Rattle.queue_rule.specs.Rule.{IsFair}
use Rattle.queue_rule.proofs.Keeping.{sends, takes, learns, opens, splits, admits}

pub may_send : (n pass : ℕ) (view : View) (outlet : OutletView) (bundle : Bundle) → view ≡ Outlet outlet → n ≤ outlet.room
    → bundle.lane ≡ outlet.lane → IsSomeLaneList outlet.user outlet.lane (outlet.sent ++ bundle ∷ [])
    → Pushes IsFair n pass view bundle (λ w. w ≡ pushed view bundle)
may_send n pass view outlet bundle is room of_lane goes =
    subst (λ (v : View). Pushes IsFair n pass v bundle (λ w. w ≡ pushed v bundle)) (sym is)
    (sends n pass outlet bundle room of_lane goes)

pub may_take : (pass : ℕ) (view : View) (port : PortView) → view ≡ Port port
    → Pops IsFair pass view (λ bundle w. (w ≡ popped view bundle) × IsOrderly w) × Learns IsFair pass view (λ items. IsLearned view items)
may_take pass view port is =
    subst (λ (v : View). Pops IsFair pass v (λ bundle w. (w ≡ popped v bundle) × IsOrderly w) × Learns IsFair pass v (λ items. IsLearned v items))
    (sym is) (takes pass port, learns pass port)

-- what the queue answers to a take
abbrev Answers : View → View → Option Bundle → Type 0
Answers old new answer = MatchOption answer
    ((new ≡ old) × Held 0 (λ items. IsLearned old items))
    (λ bundle. (new ≡ popped old bundle) × IsOrderly new)

empty_list : (items : List Bundle) → length items ≡ 0 → items ≡ []
empty_list [] none = refl
empty_list (x ∷ items) none = absurd (omega arith)

whole_of : (port : PortView) (new : View) (answer : Option Bundle) → Answers (Port port) new answer
    → IfNone answer (IsWholeWith (port_in new) [])
whole_of port new (Some bundle) told = tt
whole_of port new None told =
    subst (λ (v : View). IsWholeWith (port_in v) []) (sym told.0)
    (subst (IsWholeWith port) (empty_list told.1.0 told.1.1) told.1.2.1)

order_of : (port : PortView) (new : View) (answer : Option Bundle) → Answers (Port port) new answer → IsOrderly (Port (port_in new))
order_of port new None told = subst (λ (v : View). IsOrderly (Port (port_in v))) (sym told.0) told.1.2.0
order_of port new (Some bundle) told =
    subst (λ (v : View). IsOrderly (Port (port_in v))) (sym told.0) (subst IsOrderly told.0 told.1)

pub is_whole : (old new : View) (port : PortView) (answer : Option Bundle) → old ≡ Port port → Answers old new answer
    → IfNone answer (IsWholeWith (port_in new) [])
is_whole old new port answer is told = whole_of port new answer (subst (λ (v : View). Answers v new answer) is told)

pub is_orderly : (old new : View) (port : PortView) (answer : Option Bundle) → old ≡ Port port → Answers old new answer
    → IsOrderly (Port (port_in new))
is_orderly old new port answer is told = order_of port new answer (subst (λ (v : View). Answers v new answer) is told)

pub may_open : (pass : ℕ) (view : View) (user room : ℕ) → view ≡ Origin → Forks IsFair pass view Spent (Port (new_port user room))
may_open pass view user room is =
    subst (λ (v : View). Forks IsFair pass v Spent (Port (new_port user room))) (sym is) (opens pass user room)

pub may_split : (pass : ℕ) (view : View) (port : PortView) → view ≡ Port port
    → Forks IsFair pass view (split_port view) (split_outlet view)
may_split pass view port is =
    subst (λ (v : View). Forks IsFair pass v (split_port v) (split_outlet v)) (sym is) (splits pass port)

pub may_admit : (pass other : ℕ) (view outlets : View) (port : PortView) (outlet : OutletView) → view ≡ Port port → outlets ≡ Outlet outlet
    → Merges IsFair pass view other outlets (joined view outlets) Spent
may_admit pass other view outlets port outlet is is' =
    subst (λ (v : View). Merges IsFair pass v other outlets (joined v outlets) Spent) (sym is)
    (subst (λ (v : View). Merges IsFair pass (Port port) other v (joined (Port port) v) Spent) (sym is') (admits pass port other outlet))
