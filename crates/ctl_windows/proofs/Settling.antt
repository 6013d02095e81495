-- What was done is enough at the same moment.
use Rattle.std.proofs.Common.{◌≡◌, ℕ, ◌+◌, ◌-◌, ◌*◌, ◌/◌, ◌^◌, ◌<◌, ◌≤◌, ◌⊎◌, Bool, true, false, cond, ◌==◌, Option, Some, None, refl, ap, sym, subst, inl, inr, arith, nat_le, nat_lt, min, eq-eqb}
use Rattle.std.proofs.lemmas.Bool.{le-leb, lt-ltb}
use Rattle.ctl_windows.specs.Acts.{act_at, given_after, is_enough, margin, opened, seconds_left}
use Rattle.ctl_windows.specs.declared.acts.Act.{Act}
use Rattle.ctl_windows.specs.declared.acts.Act.TheVariants as acts
use Rattle.ctl_windows.specs.declared.acts.Given.{Given}
use Rattle.ctl_windows.specs.declared.acts.Given.TheVariants as givens
use Rattle.ctl_windows.specs.declared.window.Window.{Window}
use Rattle.ctl_windows.specs.WindowLaws.{IsNear}
use Rattle.ctl_windows.proofs.Looks.{and_true, first_true, second_true}

either : (b : Bool) → (b ≡ true) ⊎ (b ≡ false)
either true = inl refl
either false = inr refl

-- when an opening of so many seconds ends
abbrev ending : ℕ → ℕ → ℕ
ending now seconds = min (now + seconds * 1000) (2 ^ 64 - 1)

abbrev opened_for : Window → ℕ → ℕ → Given
opened_for window now seconds = givens.Open (record { from = window.from; until = ending now seconds })

to_its_end : (window : Window) (now seconds : ℕ) → window.until ≤ ending now seconds → is_enough window (opened_for window now seconds) now ≡ true
to_its_end window now seconds whole =
    and_true (window.from == window.from) _ (eq-eqb window.from window.from refl)
    (first_true (nat_le window.until (ending now seconds)) _ (le-leb window.until (ending now seconds) whole))

for_a_while : (window : Window) (now seconds : ℕ) → margin < ending now seconds - now → is_enough window (opened_for window now seconds) now ≡ true
for_a_while window now seconds long =
    and_true (window.from == window.from) _ (eq-eqb window.from window.from refl)
    (second_true (nat_le window.until (ending now seconds)) _ (lt-ltb margin (ending now seconds - now) long))

-- whole seconds that are rounded up are no shorter
rounded_up : (left : ℕ) → left ≤ (left + 999) / 1000 * 1000
rounded_up left = omega arith

enough_opened : (window : Window) (now : ℕ) → window.until < 2 ^ 64 → now + 86400000 < 2 ^ 64 → is_enough window (opened window now) now ≡ true
enough_opened window now ends near =
    let short = (window.until - now + 999) / 1000 in
    let P : Bool → Type 0 = λ b. is_enough window (opened_for window now (cond b 86400 short)) now ≡ true in
    elim (either (nat_lt 86400000 (window.until - now))) [
      | inl long ↦ subst P (sym long) (for_a_while window now 86400 (omega (arith, near)))
      | inr brief ↦ subst P (sym brief) (to_its_end window now short (omega (arith, ends, rounded_up (window.until - now))))
    ]

outside : (given : Given) → act_at None (given_after None given 0) 0 ≡ acts.Nothing
outside givens.Nothing = refl
outside givens.Held = refl
outside (givens.Open opening) = refl

pub settles : (current : Option Window) (given : Given) (now : ℕ) → IsNear now current → act_at current (given_after current given now) now ≡ acts.Nothing
settles None given now near = outside given
settles (Some window) given now near =
    let P : Bool → Type 0 = λ b. cond (is_enough window (cond b given (opened window now)) now) acts.Nothing (acts.Open window.rate (seconds_left window now)) ≡ acts.Nothing in
    let nothing : Bool → Act = λ b. cond b acts.Nothing (acts.Open window.rate (seconds_left window now)) in
    elim (either (is_enough window given now)) [
      | inl enough ↦ subst P (sym enough) (ap nothing enough)
      | inr lacking ↦ subst P (sym lacking) (ap nothing (enough_opened window now near.0 near.1))
    ]
