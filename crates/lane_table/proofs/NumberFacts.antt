-- The numbers of a sending lane give back its user and which of the user's lanes it is.
use Rattle.std.proofs.Common.{◌≡◌, ℕ, ◌<◌, ◌%◌, ◌/◌, ◌+◌, ◌*◌, Bool, true, false, if◌then◌else◌, All, List, [], ◌∷◌, Option, Some, None, refl, sym, ap, ◌∙◌, subst, arith}
use Rattle.std.specs.Option.{option_map}
use Rattle.std.proofs.lemmas.List.Elements.{All-nil, All-cons, All-append}
use Rattle.std.proofs.lemmas.Nat.{mod-mul-add, div-mul-add}
use Rattle.std.proofs.Math.Nat.{add-mul-mod_self_right, add-mul-div_right, add-mod_right}
use Rattle.indications.specs.declared.bundle.Bundle.{Bundle}
use Rattle.indications.specs.declared.indication.Indication.{Indication}
use Rattle.indications.specs.LaneLists.{number_of}
use Rattle.txn_events.specs.declared.event.Event.{Event}
use Rattle.txn_events.specs.declared.event.Event.TheVariants.{Put, On}
use Rattle.lane_table.specs.declared.lane_side.LaneSide.{LaneSide}
use Rattle.lane_table.specs.declared.lane_side.LaneSide.TheVariants.{Sending}
use Rattle.lane_table.specs.declared.lane_side.Numbers.{Numbers}
use Rattle.lane_table.specs.Logs.{Transaction, opened_by}
use Rattle.lane_table.specs.Lane.{State, idle, key_at, is_above, number_at, IsNumberOf}
use Rattle.lane_table.specs.Steps.{next_in, new_transaction, stepped_by, stepped, answer_of}
use Rattle.lane_table.specs.Keeping.{bundle_by, bundle_of, sent_after}
use Rattle.lane_table.specs.LaneLaws.{NumbersTellLanes}
use Rattle.lane_table.proofs.RunFacts.{IsSame, same_by}

-- ---- one number

first_of : (numbers : Numbers) (user lane n : ℕ) → user < numbers.users → lane < numbers.lanes
    → IsNumberOf numbers user lane (number_at numbers user lane n)
first_of numbers user lane n of_user of_lane = record {
  of_user = mod-mul-add (n * numbers.lanes + lane) numbers.users user of_user;
  of_lane =
      ap (λ (q : ℕ). q % numbers.lanes) (div-mul-add (n * numbers.lanes + lane) numbers.users user of_user)
      ∙ mod-mul-add n numbers.lanes lane of_lane;
}

more_of : (numbers : Numbers) (user lane number : ℕ) → user < numbers.users → IsNumberOf numbers user lane number
    → IsNumberOf numbers user lane (number + numbers.lanes * numbers.users)
more_of numbers user lane number of_user was =
    let some : 0 < numbers.users = omega (arith, of_user) in
    record {
      of_user = add-mul-mod_self_right number numbers.lanes numbers.users ∙ was.of_user;
      of_lane =
          ap (λ (q : ℕ). q % numbers.lanes) (add-mul-div_right number numbers.lanes some)
          ∙ add-mod_right (number / numbers.users) numbers.lanes ∙ was.of_lane;
    }

-- ---- the last number of a lane

-- it gives back the lane, if there is one
abbrev pub LastTells : Numbers → ℕ → ℕ → Option ℕ → Type 0
LastTells numbers user lane None = Unit {0}
LastTells numbers user lane (Some number) = IsNumberOf numbers user lane number

next_tells : (numbers : Numbers) (greatest user lane : ℕ) (last : Option ℕ) → user < numbers.users → lane < numbers.lanes
    → LastTells numbers user lane last → IsNumberOf numbers user lane (next_in (Sending numbers greatest) user lane last)
next_tells numbers greatest user lane None of_user of_lane told = first_of numbers user lane numbers.first of_user of_lane
next_tells numbers greatest user lane (Some number) of_user of_lane told = more_of numbers user lane number of_user told

nothing_else : (b : Bool) (transaction : Transaction) → (if b then (let none : Option Transaction = None in none) else None) ≡ Some transaction → ⊥
nothing_else true transaction is = absurd cc
nothing_else false transaction is = absurd cc

step_tells : (state : State) (event : Event) (numbers : Numbers) (greatest : ℕ) → state.side ≡ Sending numbers greatest
    → state.user < numbers.users → state.lane < numbers.lanes → LastTells numbers state.user state.lane state.last
    → (opened : Option Transaction) → new_transaction state event ≡ opened
    → LastTells numbers state.user state.lane (stepped_by state event opened).last
step_tells state event numbers greatest sends of_user of_lane told None is = told
step_tells state (Put request params) numbers greatest sends of_user of_lane told (Some transaction) is =
    subst (λ (s : LaneSide). IsNumberOf numbers state.user state.lane (next_in s state.user state.lane state.last)) (sym sends)
    (next_tells numbers greatest state.user state.lane state.last of_user of_lane told)
step_tells state (On key what) numbers greatest sends of_user of_lane told (Some transaction) is =
    absurd (nothing_else (is_above key.seq state.last) transaction
    (subst (λ (s : LaneSide). (if is_above key.seq state.last then opened_by s (key_at state.source key.seq) (On key what) else None) ≡ Some transaction) sends is))

-- ---- what it sends

all_of_last : (numbers : Numbers) (user lane : ℕ) (next : State) (last : Option ℕ) (inds : List Indication) → LastTells numbers user lane last
    → All (λ bundle. IsNumberOf numbers user lane (number_of bundle)) (bundle_by next (option_map (key_at next.source) last) inds)
all_of_last numbers user lane next None inds told = All-nil (λ (bundle : Bundle). IsNumberOf numbers user lane (number_of bundle))
all_of_last numbers user lane next (Some number) [] told = All-nil (λ (bundle : Bundle). IsNumberOf numbers user lane (number_of bundle))
all_of_last numbers user lane next (Some number) (first ∷ rest) told =
    All-cons (λ (bundle : Bundle). IsNumberOf numbers user lane (number_of bundle))
    (record { user = next.user; lane = next.lane; key = key_at next.source number; inds = first ∷ rest }) []
    told (All-nil (λ (bundle : Bundle). IsNumberOf numbers user lane (number_of bundle)))

runs_told : (numbers : Numbers) (greatest user lane : ℕ) (state : State) (events : List Event) → state.side ≡ Sending numbers greatest
    → state.user ≡ user → state.lane ≡ lane → user < numbers.users → lane < numbers.lanes → LastTells numbers user lane state.last
    → All (λ bundle. IsNumberOf numbers user lane (number_of bundle)) (sent_after state events)
runs_told numbers greatest user lane state [] sends of_user of_lane below within told =
    All-nil (λ (bundle : Bundle). IsNumberOf numbers user lane (number_of bundle))
runs_told numbers greatest user lane state (event ∷ later) sends of_user of_lane below within told =
    let next : State = stepped state event in
    let same : IsSame state next = same_by state event (new_transaction state event) in
    let now : LastTells numbers user lane next.last =
    rw (sym of_user, sym of_lane) (step_tells state event numbers greatest sends (rw of_user below) (rw of_lane within) (rw (of_user, of_lane) told)
    (new_transaction state event) refl) in
    All-append (λ (bundle : Bundle). IsNumberOf numbers user lane (number_of bundle)) (bundle_of next) (sent_after next later)
    (all_of_last numbers user lane next next.last (answer_of next).inds now)
    (runs_told numbers greatest user lane next later (side_same state event (new_transaction state event) ∙ sends)
    (same.user ∙ of_user) (same.lane ∙ of_lane) below within now)
  where
    side_same : (state : State) (event : Event) (opened : Option Transaction) → (stepped_by state event opened).side ≡ state.side
    side_same state event None = refl
    side_same state event (Some transaction) = refl

pub numbers_tell_lanes : NumbersTellLanes
numbers_tell_lanes numbers greatest user lane source events below within taken =
    runs_told numbers greatest user lane (idle (Sending numbers greatest) user lane source) events refl refl refl below within tt
