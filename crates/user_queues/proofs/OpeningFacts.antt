-- How the ends of a queue are opened, lane by lane.
use Rattle.std.proofs.Common.{◌≡◌, ◌⊎◌, ℕ, ◌+◌, zero, suc, List, [], ◌∷◌, ◌++◌, length, length-append, Some, None, refl, ap, sym, ◌∙◌, subst, inl, inr, ⊎_elim, add-one, arith}
use Rattle.std.specs.Prelude.{slice_get}
use Rattle.atomic_table.specs.Seated.{TableId}
use Rattle.queue_rule.specs.declared.view.PortView.{PortView}
use Rattle.queue_rule.specs.Views.{with_lane, next_outlet}
use Rattle.user_queues.specs.Shared.{OutletEnd, PortEnd}
use Rattle.user_queues.specs.Opened.{unknown, fresh_port, fresh_outlet, fresh_outlets, IsNextLane}

length-unknown : (lanes : ℕ) → length (unknown lanes) ≡ lanes
length-unknown zero = refl
length-unknown (suc lanes) = omega (arith, length-append (unknown lanes) (None ∷ []), length-unknown lanes)

pub is_next : (user lanes room : ℕ) (port : PortView) → port ≡ fresh_port user lanes room → lanes ≡ length port.known
is_next user lanes room port is = sym (ap (λ (p : PortView). length p.known) is ∙ length-unknown lanes)

pub one_lane_more : (user lanes room : ℕ) (old new : PortEnd) (outlet : OutletEnd) → old.knows ≡ fresh_port user lanes room
    → IsNextLane old new outlet → new.knows ≡ fresh_port user (lanes + 1) room
one_lane_more user lanes room old new outlet is next =
    ap (λ (p : PortEnd). p.knows) next.of_port ∙ ap with_lane is ∙ ap (λ (n : ℕ). fresh_port user n room) (sym (add-one lanes))

outlet_is : (queue : TableId) (user lanes room : ℕ) (port : PortView) (outlet : OutletEnd) → port ≡ fresh_port user lanes room
    → outlet ≡ record { queue = queue; knows = next_outlet port } → outlet ≡ fresh_outlet queue user room lanes
outlet_is queue user lanes room port outlet is made =
    made ∙ ap (λ (p : PortView). record { queue = queue; knows = next_outlet p }) is
    ∙ ap (fresh_outlet queue user room) (length-unknown lanes)

pub one_outlet_more : (user lanes room : ℕ) (old new : PortEnd) (outlet : OutletEnd) (outlets more : List OutletEnd)
    → old.knows ≡ fresh_port user lanes room → IsNextLane old new outlet → outlets ≡ fresh_outlets old.queue user room lanes
    → more ≡ outlets ++ outlet ∷ [] → more ≡ fresh_outlets new.queue user room (lanes + 1)
one_outlet_more user lanes room old new outlet outlets more is next were pushed =
    pushed
    ∙ ap (λ (l : List OutletEnd). l ++ outlet ∷ []) were
    ∙ ap (λ (o : OutletEnd). fresh_outlets old.queue user room lanes ++ o ∷ [])
    (outlet_is old.queue user lanes room old.knows outlet is next.of_lane)
    ∙ ap (λ (n : ℕ). fresh_outlets old.queue user room n) (sym (add-one lanes))
    ∙ ap (λ (p : PortEnd). fresh_outlets p.queue user room (lanes + 1)) (sym next.of_port)

get_more : {A : Type 0} (items : List A) (x : A) (k : ℕ) (y : A) → slice_get (items ++ x ∷ []) k ≡ Some y
    → (slice_get items k ≡ Some y) ⊎ ((length items ≡ k) × (x ≡ y))
get_more [] x zero y is = inr (refl, cc)
get_more [] x (suc k) y is = absurd cc
get_more (z ∷ zs) x zero y is = inl is
get_more {A} (z ∷ zs) x (suc k) y is =
    ⊎_elim inl (λ (last : (length zs ≡ k) × (x ≡ y)). inr (ap suc last.0, last.1)) (get_more zs x k y is)

pub count_with_one_more : {A : Type 0} (items more : List A) (x : A) (count : ℕ) → length items ≡ count → more ≡ items ++ x ∷ []
    → length more ≡ count + 1
count_with_one_more items more x count long made = omega (arith, ap length made, length-append items (x ∷ []), long)

-- what holds of each one, by its place, holds with one more at the end
pub each_with_one_more : {A : Type 0} (F : ℕ → A → Type 0) (items more : List A) (x : A) (count : ℕ) → length items ≡ count → more ≡ items ++ x ∷ []
    → ((k : ℕ) (y : A) → slice_get items k ≡ Some y → F k y) → F count x
    → (k : ℕ) (y : A) → slice_get more k ≡ Some y → F k y
each_with_one_more {A} F items more x count long made each last k y is = ⊎_elim
    (λ (before : slice_get items k ≡ Some y). each k y before)
    (λ (here : (length items ≡ k) × (x ≡ y)). subst (λ (n : ℕ). F n y) (sym long ∙ here.0) (subst (λ (z : A). F count z) here.1 last))
    (get_more items x k y (subst (λ (l : List A). slice_get l k ≡ Some y) made is))

-- the one of a list
pub only_one : {A : Type 0} (all rest : List A) (x : A) → length all ≡ 1 → all ≡ rest ++ x ∷ [] → slice_get all 0 ≡ Some x
only_one {A} all [] x one made = subst (λ (l : List A). slice_get l 0 ≡ Some x) (sym made) refl
only_one {A} all (y ∷ rest) x one made = absurd (omega (arith, one, ap length made, length-append rest (x ∷ [])))
