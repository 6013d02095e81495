-- What stays the same until a link is looked at again.
use Rattle.std.proofs.Common.{◌≡◌, ℕ, ◌+◌, ◌-◌, ◌<◌, ◌≤◌, ◌⊎◌, Bool, true, false, cond, ◌&&◌, ◌||◌, ◌==◌, List, [], ◌∷◌, Option, Some, None, refl, ap, sym, ◌∙◌, subst, inl, inr, arith, nat_le, nat_lt, min, not, length}
use Rattle.std.specs.List.{fold, prefix_len}
use Rattle.std.proofs.lemmas.Bool.{leb-true, le-leb, lt-leb, lt-ltb, le-ltb, ltb-true}
use Rattle.ctl_windows.specs.Acts.{act_at, at_place, is_enough, is_open, look_again, margin, renewal, seconds_left, sooner, window_at}
use Rattle.ctl_windows.specs.declared.acts.Act.TheVariants as acts
use Rattle.ctl_windows.specs.declared.acts.Given.{Given}
use Rattle.ctl_windows.specs.declared.acts.Given.TheVariants as givens
use Rattle.ctl_windows.specs.declared.window.Window.{Window}
use Rattle.ctl_windows.specs.WindowLaws.{IsBefore, IsIdle}

either : (b : Bool) → (b ≡ true) ⊎ (b ≡ false)
either true = inl refl
either false = inr refl

-- from now to a moment no other one comes
abbrev pub Stays : ℕ → ℕ → ℕ → Type 0
Stays now moment at = (at ≤ now) ⊎ (moment < at)

-- what is before the sooner of two is before both, where the second isn't past
pub before_sooner : (next : Option ℕ) (at now moment : ℕ) → IsBefore moment (sooner next at now) → IsBefore moment next × Stays now moment at
before_sooner None at now moment before =
    elim (either (nat_le at now)) [
      | inl past ↦ (tt, inl (leb-true at now past))
      | inr coming ↦ let P : Bool → Type 0 = λ b. IsBefore moment (cond b None (Some at)) in (tt, inr (subst P coming before))
    ]
before_sooner (Some next) at now moment before =
    elim (either (nat_le at now)) [
      | inl past ↦ let P : Bool → Type 0 = λ b. IsBefore moment (cond b (Some next) (Some (min next at))) in
          let early : moment < next = subst P past before in (early, inl (leb-true at now past))
      | inr coming ↦ let P : Bool → Type 0 = λ b. IsBefore moment (cond b (Some next) (Some (min next at))) in
          let early : moment < min next at = subst P coming before in (omega (arith, early), inr (omega (arith, early)))
    ]

-- no window begins or ends from now to a moment
pub AllStay : ℕ → ℕ → List Window → Type 0
AllStay now moment [] = Unit {0}
AllStay now moment (window ∷ windows) = Stays now moment window.from × (Stays now moment window.until × AllStay now moment windows)

pub before_all : (windows : List Window) (next : Option ℕ) (now moment : ℕ)
    → IsBefore moment (fold (λ next window. sooner (sooner next window.from now) window.until now) next windows)
    → IsBefore moment next × AllStay now moment windows
unfolding AllStay
before_all [] next now moment before = (before, tt)
before_all (window ∷ windows) next now moment before =
    let rest = before_all windows (sooner (sooner next window.from now) window.until now) now moment before in
    let ends = before_sooner (sooner next window.from now) window.until now moment rest.0 in
    let begins = before_sooner next window.from now moment ends.0 in
    (begins.0, (begins.1, (ends.1, rest.1)))

same_begin : (now moment at : ℕ) → now ≤ moment → Stays now moment at → nat_le at moment ≡ nat_le at now
same_begin now moment at later (inl past) = le-leb at moment (omega (arith, later, past)) ∙ sym (le-leb at now past)
same_begin now moment at later (inr coming) = lt-leb at moment coming ∙ sym (lt-leb at now (omega (arith, later, coming)))

same_end : (now moment at : ℕ) → now ≤ moment → Stays now moment at → nat_lt moment at ≡ nat_lt now at
same_end now moment at later (inl past) = le-ltb moment at (omega (arith, later, past)) ∙ sym (le-ltb now at past)
same_end now moment at later (inr coming) = lt-ltb moment at coming ∙ sym (lt-ltb now at (omega (arith, later, coming)))

same_open : (now moment : ℕ) (window : Window) → now ≤ moment → Stays now moment window.from → Stays now moment window.until
    → is_open moment window ≡ is_open now window
same_open now moment window later begins ends =
    ap (λ b. b && nat_lt moment window.until) (same_begin now moment window.from later begins)
    ∙ ap (λ b. nat_le window.from now && b) (same_end now moment window.until later ends)

same_place : (windows : List Window) (now moment : ℕ) → now ≤ moment → AllStay now moment windows
    → prefix_len (λ window. not (is_open moment window)) windows ≡ prefix_len (λ window. not (is_open now window)) windows
unfolding AllStay
same_place [] now moment later stay = refl
same_place (window ∷ windows) now moment later stay =
    ap (λ b. cond (not b) (1 + prefix_len (λ window. not (is_open moment window)) windows) 0) (same_open now moment window later stay.0 stay.1.0)
    ∙ ap (λ place. cond (not (is_open now window)) (1 + place) 0) (same_place windows now moment later stay.1.1)

pub same_window : (windows : List Window) (now moment : ℕ) → now ≤ moment → AllStay now moment windows
    → window_at moment windows ≡ window_at now windows
same_window windows now moment later stay = ap (λ place. at_place (cond (nat_lt place (length windows)) (Some place) None) windows) (same_place windows now moment later stay)

-- truth of tests that are joined
pub both_true : (a b : Bool) → (a && b) ≡ true → (a ≡ true) × (b ≡ true)
both_true true b e = (refl, e)
both_true false b e = absurd cc

pub one_true : (a b : Bool) → (a || b) ≡ true → (a ≡ true) ⊎ (b ≡ true)
one_true true b e = inl refl
one_true false b e = inr e

pub and_true : (a b : Bool) → a ≡ true → b ≡ true → (a && b) ≡ true
and_true a b first second = ap (λ x. x && b) first ∙ second

pub first_true : (a b : Bool) → a ≡ true → (a || b) ≡ true
first_true a b first = ap (λ x. x || b) first

pub second_true : (a b : Bool) → b ≡ true → (a || b) ≡ true
second_true true b second = refl
second_true false b second = second

-- an opening that is enough stays so until it is due to be given anew
enough_later : (window : Window) (given : Given) (now moment : ℕ) → is_enough window given now ≡ true → now ≤ moment
    → IsBefore moment (renewal given now) → is_enough window given moment ≡ true
enough_later window givens.Nothing now moment enough later before = absurd cc
enough_later window givens.Held now moment enough later before = absurd cc
enough_later window (givens.Open opening) now moment enough later before =
    let own = opening.from == window.from in
    let whole = nat_le window.until opening.until in
    let parts = both_true own (whole || nat_lt margin (opening.until - now)) enough in
    let stays = before_sooner None (opening.until - margin) now moment before in
    elim (one_true whole (nat_lt margin (opening.until - now)) parts.1) [
      | inl to_its_end ↦ and_true own (whole || nat_lt margin (opening.until - moment)) parts.0
          (first_true whole (nat_lt margin (opening.until - moment)) to_its_end)
      | inr long ↦ let left : margin < opening.until - now = ltb-true margin (opening.until - now) long in
          elim stays.1 [
            | inl past ↦ absurd (omega (arith, left, past))
            | inr coming ↦ let still : margin < opening.until - moment = omega (arith, left, coming) in
                and_true own (whole || nat_lt margin (opening.until - moment)) parts.0
                (second_true whole (nat_lt margin (opening.until - moment)) (lt-ltb margin (opening.until - moment) still))
          ]
    ]

-- what is idle now has an opening that is enough
idle_enough : (window : Window) (given : Given) (now : ℕ) → act_at (Some window) given now ≡ acts.Nothing → is_enough window given now ≡ true
idle_enough window given now idle =
    elim (either (is_enough window given now)) [
      | inl enough ↦ enough
      | inr lacking ↦ let P : Bool → Type 0 = λ b. cond b acts.Nothing (acts.Open window.rate (seconds_left window now)) ≡ acts.Nothing in
          let wrong : acts.Open window.rate (seconds_left window now) ≡ acts.Nothing = subst P lacking idle in absurd cc
    ]

idle_later : (current : Option Window) (given : Given) (now moment : ℕ) → act_at current given now ≡ acts.Nothing → now ≤ moment
    → IsBefore moment (renewal given now) → act_at current given moment ≡ acts.Nothing
idle_later None given now moment idle later before = idle
idle_later (Some window) given now moment idle later before =
    ap (λ b. cond b acts.Nothing (acts.Open window.rate (seconds_left window moment)))
    (enough_later window given now moment (idle_enough window given now idle) later before)

pub quiet_until : (windows : List Window) (given : Given) (now moment : ℕ) → IsIdle windows given now → now ≤ moment
    → IsBefore moment (look_again windows given now) → IsIdle windows given moment
quiet_until windows given now moment idle later before =
    let both = before_all windows (renewal given now) now moment before in
    let P : Option Window → Type 0 = λ current. act_at current given moment ≡ acts.Nothing in
    subst P (sym (same_window windows now moment later both.1)) (idle_later (window_at now windows) given now moment idle later both.0)
