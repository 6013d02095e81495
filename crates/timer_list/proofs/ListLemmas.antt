-- What the list of timers does, by what its places tell.
use Rattle.std.proofs.Common.{◌≡◌, ℕ, ◌<◌, true, false, IsTrue, nat_le, min, List, [], ◌∷◌, ◌++◌, Option, Some, None, Result, Ok, Err, OnOk, OnErr, refl, sym, ap, ◌∙◌, arith, inl, inr}
use Rattle.std.proofs.lemmas.Bool.{cases_Bool, and_parts}
use Rattle.std.proofs.lemmas.Bool.Decides.{nat_tests}
use Rattle.std.specs.List.{IsDistinct}
use Rattle.std.specs.Map.{keys_of, set_value}
use Rattle.cfdp_types.specs.declared.key.TxnKey.{TxnKey}
use Rattle.cfdp_types.specs.declared.names.TimerKind.{TimerKind}
use Rattle.timer_list.specs.declared.armed.Armed.{Armed}
use Rattle.timer_list.specs.declared.slot.Slot.TheVariants as slot
use Rattle.timer_list.specs.declared.slot.Run.{Run}
use Rattle.timer_list.specs.Slots.{is_slot, none_before, run_at, run_of, same_slot, timers_in, value_at}
use Rattle.timer_list.specs.Timers.{armed_with, first_due, has_timer, is_due, without_due}
use Rattle.timer_list.proofs.SlotLemmas.{Entries, none_is_some, none_before-less, lacks-absent, lacks-left, armed_with-lacks}

-- a timer that does not run has no entry
pub has_timer-idle : (key : TxnKey) (kind : TimerKind) (es : Entries) → IsDistinct same_slot (keys_of es) → run_at key kind es ≡ None → has_timer key kind (timers_in es) ≡ false
has_timer-idle key kind es distinct idle = by (value_at key kind es) refl idle
  where
    by : (v : Option (Option Run)) → value_at key kind es ≡ v → run_at key kind es ≡ None → has_timer key kind (timers_in es) ≡ false
    by None there idle = lacks-absent key kind es there
    by (Some None) there idle = lacks-left key kind es distinct there
    by (Some (Some run)) there idle = absurd (none_is_some (sym (rw there at idle)))

-- one that runs has its place
pub value_at-running : (key : TxnKey) (kind : TimerKind) (es : Entries) (run : Run) → run_at key kind es ≡ Some run → value_at key kind es ≡ Some (Some run)
value_at-running key kind es run running = by (value_at key kind es) refl running
  where
    by : (v : Option (Option Run)) → value_at key kind es ≡ v → run_at key kind es ≡ Some run → value_at key kind es ≡ Some (Some run)
    by None there running = absurd (none_is_some (rw there at running))
    by (Some None) there running = absurd (none_is_some (rw there at running))
    by (Some (Some other)) there running = let same : Some other ≡ Some run = rw there at running in there ∙ ap Some same

-- no timer expires earlier after one is added
pub none_before-added : {A E : Type 0} (r : Result A E) (soonest : ℕ) (old new : List Armed) (timer : Armed) → IsTrue (none_before soonest old)
    → OnOk r (new ≡ old ++ timer ∷ []) → OnErr r (new ≡ old) → IsTrue (none_before (min soonest timer.deadline) new)
none_before-added (Ok x) soonest old new timer none ok err = rw ok (last old (none_before-less (min soonest timer.deadline) soonest old (omega arith) none))
  where
    last : (timers : List Armed) → IsTrue (none_before (min soonest timer.deadline) timers) → IsTrue (none_before (min soonest timer.deadline) (timers ++ timer ∷ []))
    last [] none = let first : nat_le (min soonest timer.deadline) timer.deadline ≡ true = grind (arith, nat_tests) in rw first
    last (t ∷ timers) none =
        let (here, rest) = and_parts (nat_le (min soonest timer.deadline) t.deadline) (none_before (min soonest timer.deadline) timers) none in
        rw here (last timers rest)
none_before-added (Err e) soonest old new timer none ok err = rw err (none_before-less (min soonest timer.deadline) soonest old (omega arith) none)

-- nor after one runs anew
pub none_before-anew : (key : TxnKey) (kind : TimerKind) (run : Run) (soonest : ℕ) (es : Entries) → IsTrue (none_before soonest (timers_in es))
    → IsTrue (none_before (min soonest run.deadline) (timers_in (set_value (is_slot key kind) es (Some run))))
none_before-anew key kind run soonest es none = go es (none_before-less (min soonest run.deadline) soonest (timers_in es) (omega arith) none)
  where
    first : nat_le (min soonest run.deadline) run.deadline ≡ true
    first = grind (arith, nat_tests)

    go : (es : Entries) → IsTrue (none_before (min soonest run.deadline) (timers_in es)) → IsTrue (none_before (min soonest run.deadline) (timers_in (set_value (is_slot key kind) es (Some run))))
    go [] none = refl
    go ((slot.Timer k kd, Some there) ∷ es) none =
        let (here, rest) = and_parts (nat_le (min soonest run.deadline) there.deadline) (none_before (min soonest run.deadline) (timers_in es)) none in
        elim (cases_Bool (is_slot key kind (slot.Timer k kd))) [
          | inl same ↦ rw (same, first) rest
          | inr other ↦ rw (other, here) (go es rest)
        ]
    go ((slot.Timer k kd, None) ∷ es) none =
        elim (cases_Bool (is_slot key kind (slot.Timer k kd))) [
          | inl same ↦ rw (same, first) none
          | inr other ↦ rw other (go es none)
        ]
    go ((slot.Vacant index, v) ∷ es) none = go es none

-- no timer is due before the first moment at which one expires
pub first_due-early : (now soonest : ℕ) (timers : List Armed) → IsTrue (none_before soonest timers) → now < soonest → first_due now timers ≡ None
first_due-early now soonest [] none early = refl
first_due-early now soonest (timer ∷ timers) none early =
    let (here, rest) = and_parts (nat_le soonest timer.deadline) (none_before soonest timers) none in
    let later : is_due now timer ≡ false = grind (arith, nat_tests) in
    rw later (first_due-early now soonest timers rest early)

-- where none is due, none is taken out
pub without_due-none : (now : ℕ) (timers : List Armed) → first_due now timers ≡ None → without_due now timers ≡ timers
without_due-none now [] none = refl
without_due-none now (timer ∷ timers) none =
    elim (cases_Bool (is_due now timer)) [
      | inl due ↦ absurd (none_is_some (sym (rw due at none)))
      | inr later ↦ rw later (ap (λ ts. timer ∷ ts) (without_due-none now timers (rw later at none)))
    ]

-- a timer that has no entry goes last
pub armed_with-added : {A E : Type 0} (r : Result A E) (old new : List Armed) (timer : Armed) → has_timer timer.key timer.kind old ≡ false
    → OnOk r (new ≡ old ++ timer ∷ []) → OnOk r (new ≡ armed_with timer old)
armed_with-added (Ok x) old new timer lacks grown = grown ∙ sym (armed_with-lacks timer.key timer.kind old (run_of timer) lacks)
armed_with-added (Err e) old new timer lacks grown = tt

-- what holds anyhow, where there was no memory
pub on_err : {A E : Type 0} (r : Result A E) {P : Type 0} → P → OnErr r P
on_err (Ok x) p = tt
on_err (Err e) p = p
