-- What the places show, and how it changes with what stands at one of them.
use Rattle.std.proofs.Common.{◌≡◌, ℕ, ◌+◌, ◌≤◌, true, false, IsTrue, cond, nat_lt, nat_le, min, fold, List, [], ◌∷◌, ◌++◌, Option, Some, None, IsSome, Result, Ok, Err, OnOk, filter, refl, sym, ap, ◌∙◌, subst, arith, rules, true≢false, inl, inr}
use Rattle.std.proofs.lemmas.Bool.{cases_Bool, and_parts}
use Rattle.std.proofs.lemmas.Bool.Decides.{nat_tests}
use Rattle.std.specs.List.{list_any, IsDistinct, AllByRecursion}
use Rattle.indexmap.specs.IndexMap.{insert_entry}
use Rattle.std.specs.Map.{lookup, keys_of, set_value}
use Rattle.cfdp_types.specs.declared.key.TxnKey.{TxnKey}
use Rattle.cfdp_types.specs.declared.names.TimerKind.{TimerKind}
use Rattle.timer_list.specs.declared.armed.Armed.{Armed}
use Rattle.timer_list.specs.declared.slot.Slot.{Slot}
use Rattle.timer_list.specs.declared.slot.Slot.TheVariants as slot
use Rattle.timer_list.specs.declared.slot.Run.{Run}
use Rattle.timer_list.specs.Slots.{is_slot, is_running, none_before, run_of, same_slot, timers_in, value_at, are_in_place}
use Rattle.timer_list.specs.contracts.slot.SlotPartialEq.TheImpl.{eq-value}
use Rattle.timer_list.specs.Timers.{is_for, armed_with, disarmed_of, first_due, without_due, is_due}

abbrev pub Entries : Type 0
Entries = List (Slot × Option Run)

-- the entry of a run
abbrev pub armed_by : TxnKey → TimerKind → Run → Armed
armed_by key kind run = record { key = key; kind = kind; stamp = run.stamp; deadline = run.deadline }

abbrev pub pair : TxnKey → TimerKind → TxnKey × TimerKind
pair key kind = (key, kind)

pub none_is_some : {A : Type 0} {x : A} → None ≡ Some x → ⊥
none_is_some e = cc

-- places one after the other
pub timers_in-append : (xs ys : Entries) → timers_in (xs ++ ys) ≡ timers_in xs ++ timers_in ys
timers_in-append [] ys = refl
timers_in-append ((slot.Timer key kind, Some run) ∷ xs) ys = ap (λ ts. armed_by key kind run ∷ ts) (timers_in-append xs ys)
timers_in-append ((slot.Timer key kind, None) ∷ xs) ys = timers_in-append xs ys
timers_in-append ((slot.Vacant index, run) ∷ xs) ys = timers_in-append xs ys

-- the derived comparison of places
pub derived_same : (s t : Slot) → eq-value.it s t ≡ same_slot s t
derived_same (slot.Timer key kind) (slot.Timer other_key other_kind) = search rules
derived_same (slot.Timer key kind) (slot.Vacant other) = search rules
derived_same (slot.Vacant index) (slot.Timer other_key other_kind) = search rules
derived_same (slot.Vacant index) (slot.Vacant other) = search rules

-- distinct by one comparison, distinct by the other
all_by_same : (s : Slot) (ss : List Slot) → AllByRecursion (λ t. eq-value.it s t ≡ false) ss → AllByRecursion (λ t. same_slot s t ≡ false) ss
all_by_same s [] all = tt
all_by_same s (t ∷ ss) all = (sym (derived_same s t) ∙ all.0, all_by_same s ss all.1)

pub distinct_slots : (ss : List Slot) → IsDistinct eq-value.it ss → IsDistinct same_slot ss
unfolding IsDistinct
distinct_slots [] distinct = tt
distinct_slots (s ∷ ss) distinct = (all_by_same s ss distinct.0, distinct_slots ss distinct.1)

-- a place that is not there goes last
pub inserted-absent : (s : Slot) (v : Option Run) (es : Entries) → lookup (same_slot s) es ≡ None → insert_entry eq-value.it es s v ≡ es ++ (s, v) ∷ []
inserted-absent s v [] none = refl
inserted-absent s v (e ∷ es) none =
    elim (cases_Bool (same_slot s e.0)) [
      | inl same ↦ absurd (none_is_some (sym (rw same at none)))
      | inr other ↦
          let apart : eq-value.it s e.0 ≡ false = derived_same s e.0 ∙ other in
          rw apart (ap (λ l. e ∷ l) (inserted-absent s v es (rw other at none)))
    ]

module _ (key : TxnKey) (kind : TimerKind) where
  -- the place of a timer names its transaction and kind
  pub names_of : (k : TxnKey) (kd : TimerKind) → is_slot key kind (slot.Timer k kd) ≡ true → pair key kind ≡ pair k kd
  names_of k kd same = search rules

  -- an earlier step's operation leaves the entry
  pub armed_with-later : (es : Entries) (old run : Run) → value_at key kind es ≡ Some (Some old) → nat_lt run.stamp old.stamp ≡ true
      → armed_with (armed_by key kind run) (timers_in es) ≡ timers_in es
  armed_with-later [] old run found later = absurd (none_is_some found)
  armed_with-later ((slot.Timer k kd, Some there) ∷ es) old run found later =
      elim (cases_Bool (is_slot key kind (slot.Timer k kd))) [
        | inl same ↦
            let here : Some there ≡ Some old = cc (rw same at found) in
            let stamps : nat_lt run.stamp there.stamp ≡ true = cc in
            rw (same, stamps)
        | inr other ↦ rw other (ap (λ ts. armed_by k kd there ∷ ts) (armed_with-later es old run (rw other at found) later))
      ]
  armed_with-later ((slot.Timer k kd, None) ∷ es) old run found later =
      elim (cases_Bool (is_slot key kind (slot.Timer k kd))) [
        | inl same ↦ absurd (let no : Some None ≡ Some (Some old) = rw same at found in cc)
        | inr other ↦ armed_with-later es old run (rw other at found) later
      ]
  armed_with-later ((slot.Vacant index, v) ∷ es) old run found later = armed_with-later es old run found later

  -- any other arming replaces it
  pub armed_with-replaced : (es : Entries) (old run : Run) → value_at key kind es ≡ Some (Some old) → nat_lt run.stamp old.stamp ≡ false
      → armed_with (armed_by key kind run) (timers_in es) ≡ timers_in (set_value (is_slot key kind) es (Some run))
  armed_with-replaced [] old run found later = absurd (none_is_some found)
  armed_with-replaced ((slot.Timer k kd, Some there) ∷ es) old run found later =
      elim (cases_Bool (is_slot key kind (slot.Timer k kd))) [
        | inl same ↦
            let here : Some there ≡ Some old = cc (rw same at found) in
            let stamps : nat_lt run.stamp there.stamp ≡ false = cc in
            let names : armed_by key kind run ≡ armed_by k kd run = ap (λ n. armed_by n.0 n.1 run) (names_of k kd same) in
            rw (same, stamps) (ap (λ t. t ∷ timers_in es) names)
        | inr other ↦ rw other (ap (λ ts. armed_by k kd there ∷ ts) (armed_with-replaced es old run (rw other at found) later))
      ]
  armed_with-replaced ((slot.Timer k kd, None) ∷ es) old run found later =
      elim (cases_Bool (is_slot key kind (slot.Timer k kd))) [
        | inl same ↦ absurd (let no : Some None ≡ Some (Some old) = rw same at found in cc)
        | inr other ↦ rw other (armed_with-replaced es old run (rw other at found) later)
      ]
  armed_with-replaced ((slot.Vacant index, v) ∷ es) old run found later = armed_with-replaced es old run found later

  -- an earlier step's operation takes nothing out
  pub disarmed_of-later : (es : Entries) (stamp : ℕ) (old : Run) → value_at key kind es ≡ Some (Some old) → nat_lt stamp old.stamp ≡ true
      → disarmed_of key kind stamp (timers_in es) ≡ timers_in es
  disarmed_of-later [] stamp old found later = absurd (none_is_some found)
  disarmed_of-later ((slot.Timer k kd, Some there) ∷ es) stamp old found later =
      elim (cases_Bool (is_slot key kind (slot.Timer k kd))) [
        | inl same ↦
            let here : Some there ≡ Some old = cc (rw same at found) in
            let stamps : nat_lt stamp there.stamp ≡ true = cc in
            rw (same, stamps)
        | inr other ↦ rw other (ap (λ ts. armed_by k kd there ∷ ts) (disarmed_of-later es stamp old (rw other at found) later))
      ]
  disarmed_of-later ((slot.Timer k kd, None) ∷ es) stamp old found later =
      elim (cases_Bool (is_slot key kind (slot.Timer k kd))) [
        | inl same ↦ absurd (let no : Some None ≡ Some (Some old) = rw same at found in cc)
        | inr other ↦ disarmed_of-later es stamp old (rw other at found) later
      ]
  disarmed_of-later ((slot.Vacant index, v) ∷ es) stamp old found later = disarmed_of-later es stamp old found later

  -- any other disarming takes it out
  pub disarmed_of-taken : (es : Entries) (stamp : ℕ) (old : Run) → value_at key kind es ≡ Some (Some old) → nat_lt stamp old.stamp ≡ false
      → disarmed_of key kind stamp (timers_in es) ≡ timers_in (set_value (is_slot key kind) es None)
  disarmed_of-taken [] stamp old found later = absurd (none_is_some found)
  disarmed_of-taken ((slot.Timer k kd, Some there) ∷ es) stamp old found later =
      elim (cases_Bool (is_slot key kind (slot.Timer k kd))) [
        | inl same ↦
            let here : Some there ≡ Some old = cc (rw same at found) in
            let stamps : nat_lt stamp there.stamp ≡ false = cc in
            rw (same, stamps)
        | inr other ↦ rw other (ap (λ ts. armed_by k kd there ∷ ts) (disarmed_of-taken es stamp old (rw other at found) later))
      ]
  disarmed_of-taken ((slot.Timer k kd, None) ∷ es) stamp old found later =
      elim (cases_Bool (is_slot key kind (slot.Timer k kd))) [
        | inl same ↦ absurd (let no : Some None ≡ Some (Some old) = rw same at found in cc)
        | inr other ↦ rw other (disarmed_of-taken es stamp old (rw other at found) later)
      ]
  disarmed_of-taken ((slot.Vacant index, v) ∷ es) stamp old found later = disarmed_of-taken es stamp old found later

  -- no entry is the timer's
  abbrev pub Lacks : List Armed → Type 0
  Lacks timers = list_any (is_for key kind) timers ≡ false

  -- an entry of a timer that has no place, or runs at none
  pub lacks-absent : (es : Entries) → value_at key kind es ≡ None → Lacks (timers_in es)
  lacks-absent [] none = refl
  lacks-absent ((slot.Timer k kd, Some there) ∷ es) none =
      elim (cases_Bool (is_slot key kind (slot.Timer k kd))) [
        | inl same ↦ absurd (none_is_some (sym (rw same at none)))
        | inr other ↦ rw other (lacks-absent es (rw other at none))
      ]
  lacks-absent ((slot.Timer k kd, None) ∷ es) none =
      elim (cases_Bool (is_slot key kind (slot.Timer k kd))) [
        | inl same ↦ absurd (none_is_some (sym (rw same at none)))
        | inr other ↦ lacks-absent es (rw other at none)
      ]
  lacks-absent ((slot.Vacant index, v) ∷ es) none = lacks-absent es none

  pub has-found : (es : Entries) (old : Run) → value_at key kind es ≡ Some (Some old) → list_any (is_for key kind) (timers_in es) ≡ true
  has-found [] old found = absurd (none_is_some found)
  has-found ((slot.Timer k kd, Some there) ∷ es) old found =
      elim (cases_Bool (is_slot key kind (slot.Timer k kd))) [
        | inl same ↦ rw same
        | inr other ↦ rw other (has-found es old (rw other at found))
      ]
  has-found ((slot.Timer k kd, None) ∷ es) old found =
      elim (cases_Bool (is_slot key kind (slot.Timer k kd))) [
        | inl same ↦ absurd (let no : Some None ≡ Some (Some old) = rw same at found in cc)
        | inr other ↦ has-found es old (rw other at found)
      ]
  has-found ((slot.Vacant index, v) ∷ es) old found = has-found es old found

  -- what is done with a timer that has no entry
  pub armed_with-lacks : (timers : List Armed) (run : Run) → Lacks timers → armed_with (armed_by key kind run) timers ≡ timers ++ armed_by key kind run ∷ []
  armed_with-lacks [] run lacks = refl
  armed_with-lacks (old ∷ timers) run lacks =
      elim (cases_Bool (is_for key kind old)) [
        | inl same ↦ absurd (true≢false (rw same at lacks))
        | inr other ↦ rw other (ap (λ ts. old ∷ ts) (armed_with-lacks timers run (rw other at lacks)))
      ]

  pub disarmed_of-lacks : (timers : List Armed) (stamp : ℕ) → Lacks timers → disarmed_of key kind stamp timers ≡ timers
  disarmed_of-lacks [] stamp lacks = refl
  disarmed_of-lacks (old ∷ timers) stamp lacks =
      elim (cases_Bool (is_for key kind old)) [
        | inl same ↦ absurd (true≢false (rw same at lacks))
        | inr other ↦ rw other (ap (λ ts. old ∷ ts) (disarmed_of-lacks timers stamp (rw other at lacks)))
      ]

-- a place other than all of these has no value among them
pub apart_from_all : (key : TxnKey) (kind : TimerKind) (es : Entries) → AllByRecursion (λ s. same_slot (slot.Timer key kind) s ≡ false) (keys_of es) → value_at key kind es ≡ None
apart_from_all key kind [] apart = refl
apart_from_all key kind (e ∷ es) apart = rw apart.0 (apart_from_all key kind es apart.1)

-- where places are distinct, a timer whose place is left behind has no entry
pub lacks-left : (key : TxnKey) (kind : TimerKind) (es : Entries) → IsDistinct same_slot (keys_of es) → value_at key kind es ≡ Some None → Lacks key kind (timers_in es)
unfolding IsDistinct
lacks-left key kind [] distinct found = refl
lacks-left key kind ((slot.Timer k kd, Some there) ∷ es) distinct found =
    elim (cases_Bool (is_slot key kind (slot.Timer k kd))) [
      | inl same ↦ absurd (let no : Some (Some there) ≡ Some None = rw same at found in cc)
      | inr other ↦ rw other (lacks-left key kind es distinct.1 (rw other at found))
    ]
lacks-left key kind ((slot.Timer k kd, None) ∷ es) distinct found =
    elim (cases_Bool (is_slot key kind (slot.Timer k kd))) [
      | inl same ↦
          let names : pair key kind ≡ pair k kd = names_of key kind k kd same in
          let none : value_at k kd es ≡ None = apart_from_all k kd es distinct.0 in
          lacks-absent key kind es (let P : TxnKey × TimerKind → Type 0 = λ n. value_at n.0 n.1 es ≡ None in subst P (sym names) none)
      | inr other ↦ lacks-left key kind es distinct.1 (rw other at found)
    ]
lacks-left key kind ((slot.Vacant index, v) ∷ es) distinct found = lacks-left key kind es distinct.1 found

-- an entry that is due has its place among these
due_has_place : (now : ℕ) (es : Entries) (k : TxnKey) (kd : TimerKind) (timer : Armed) → AllByRecursion (λ s. same_slot (slot.Timer k kd) s ≡ false) (keys_of es)
    → first_due now (timers_in es) ≡ Some timer → is_slot timer.key timer.kind (slot.Timer k kd) ≡ false
due_has_place now [] k kd timer apart due = absurd (none_is_some due)
due_has_place now ((slot.Timer other_k other_kd, Some there) ∷ es) k kd timer apart due =
    elim (cases_Bool (is_due now (armed_by other_k other_kd there))) [
      | inl here ↦
          let found : Some (armed_by other_k other_kd there) ≡ Some timer = rw here at due in
          let names : armed_by other_k other_kd there ≡ timer = cc in
          let apart_here : is_slot other_k other_kd (slot.Timer k kd) ≡ false = search (rules, apart.0) in
          let P : Armed → Type 0 = λ t. is_slot t.key t.kind (slot.Timer k kd) ≡ false in
          subst P names apart_here
      | inr later ↦ due_has_place now es k kd timer apart.1 (rw later at due)
    ]
due_has_place now ((slot.Timer other_k other_kd, None) ∷ es) k kd timer apart due = due_has_place now es k kd timer apart.1 due
due_has_place now ((slot.Vacant index, v) ∷ es) k kd timer apart due = due_has_place now es k kd timer apart.1 due

-- where places are distinct, the first entry that is due is taken out at its place
pub without_due-taken : (now : ℕ) (es : Entries) (timer : Armed) → IsDistinct same_slot (keys_of es) → first_due now (timers_in es) ≡ Some timer
    → without_due now (timers_in es) ≡ timers_in (set_value (is_slot timer.key timer.kind) es None)
unfolding IsDistinct
without_due-taken now [] timer distinct due = absurd (none_is_some due)
without_due-taken now ((slot.Timer k kd, Some there) ∷ es) timer distinct due =
    elim (cases_Bool (is_due now (armed_by k kd there))) [
      | inl here ↦
          let found : Some (armed_by k kd there) ≡ Some timer = rw here at due in
          let names : armed_by k kd there ≡ timer = cc in
          let same : is_slot k kd (slot.Timer k kd) ≡ true = search rules in
          let own : is_slot timer.key timer.kind (slot.Timer k kd) ≡ true =
          let P : Armed → Type 0 = λ t. is_slot t.key t.kind (slot.Timer k kd) ≡ true in subst P names same in
          rw (here, own)
      | inr later ↦
          let due_later : first_due now (timers_in es) ≡ Some timer = rw later at due in
          let other : is_slot timer.key timer.kind (slot.Timer k kd) ≡ false = due_has_place now es k kd timer distinct.0 due_later in
          rw (later, other) (ap (λ ts. armed_by k kd there ∷ ts) (without_due-taken now es timer distinct.1 due_later))
    ]
without_due-taken now ((slot.Timer k kd, None) ∷ es) timer distinct due =
    let other : is_slot timer.key timer.kind (slot.Timer k kd) ≡ false = due_has_place now es k kd timer distinct.0 due in
    rw other (without_due-taken now es timer distinct.1 due)
without_due-taken now ((slot.Vacant index, v) ∷ es) timer distinct due = without_due-taken now es timer distinct.1 due

-- the places of timers that run
pub timers_in-squeezed : (es : Entries) → timers_in (filter (λ e. is_running e.0 e.1) es) ≡ timers_in es
timers_in-squeezed [] = refl
timers_in-squeezed ((slot.Timer key kind, Some run) ∷ es) = ap (λ ts. armed_by key kind run ∷ ts) (timers_in-squeezed es)
timers_in-squeezed ((slot.Timer key kind, None) ∷ es) = timers_in-squeezed es
timers_in-squeezed ((slot.Vacant index, v) ∷ es) = timers_in-squeezed es

pub in_place-squeezed : (es : Entries) (place : ℕ) → IsTrue (are_in_place place (keys_of (filter (λ e. is_running e.0 e.1) es)))
in_place-squeezed [] place = refl
in_place-squeezed ((slot.Timer key kind, Some run) ∷ es) place = in_place-squeezed es (place + 1)
in_place-squeezed ((slot.Timer key kind, None) ∷ es) place = in_place-squeezed es place
in_place-squeezed ((slot.Vacant index, v) ∷ es) place = in_place-squeezed es place

-- what stands at a place, by the derived comparison
pub value_at-derived : (key : TxnKey) (kind : TimerKind) (es : Entries) → lookup (eq-value.it (slot.Timer key kind)) es ≡ value_at key kind es
value_at-derived key kind [] = refl
value_at-derived key kind (e ∷ es) = (λ i. cond (derived_same (slot.Timer key kind) e.0 i) (Some e.1) (value_at-derived key kind es i))

-- one more place at the end, after places that show the same
pub timers_in-added : {A E : Type 0} (r : Result A E) (old kept new : Entries) (timer : Armed) → timers_in kept ≡ timers_in old
    → OnOk r (new ≡ kept ++ (slot.Timer timer.key timer.kind, Some (run_of timer)) ∷ []) → OnOk r (timers_in new ≡ timers_in old ++ timer ∷ [])
timers_in-added (Ok x) old kept new timer same grown =
    ap timers_in grown ∙ timers_in-append kept ((slot.Timer timer.key timer.kind, Some (run_of timer)) ∷ []) ∙ ap (λ ts. ts ++ timer ∷ []) same
timers_in-added (Err e) old kept new timer same grown = tt

-- the least deadline is at most each one, and at most what was least before
abbrev least_from : ℕ → List Armed → ℕ
least_from least timers = fold (λ least timer. min least timer.deadline) least timers

least_from-most : (least : ℕ) (timers : List Armed) → least_from least timers ≤ least
least_from-most least [] = omega arith
least_from-most least (timer ∷ timers) = let rest = least_from-most (min least timer.deadline) timers in omega arith

pub none_before-less : (least most : ℕ) (timers : List Armed) → least ≤ most → IsTrue (none_before most timers) → IsTrue (none_before least timers)
none_before-less least most [] below none = refl
none_before-less least most (timer ∷ timers) below none =
    let (here, rest) = and_parts (nat_le most timer.deadline) (none_before most timers) none in
    let first : nat_le least timer.deadline ≡ true = grind (arith, nat_tests) in
    rw first (none_before-less least most timers below rest)

pub none_before-least : (least : ℕ) (timers : List Armed) → IsTrue (none_before (least_from least timers) timers)
none_before-least least [] = refl
none_before-least least (timer ∷ timers) =
    let most = least_from-most (min least timer.deadline) timers in
    let first : nat_le (least_from (min least timer.deadline) timers) timer.deadline ≡ true = grind (arith, nat_tests) in
    rw first (none_before-least (min least timer.deadline) timers)

-- a timer of the list has its place
pub due_found : (now : ℕ) (es : Entries) (timer : Armed) → first_due now (timers_in es) ≡ Some timer → IsSome (value_at timer.key timer.kind es)
due_found now [] timer due = absurd (none_is_some due)
due_found now ((slot.Timer k kd, Some there) ∷ es) timer due =
    elim (cases_Bool (is_slot timer.key timer.kind (slot.Timer k kd))) [
      | inl same ↦ rw same
      | inr other ↦
          elim (cases_Bool (is_due now (armed_by k kd there))) [
            | inl here ↦
                let found : Some (armed_by k kd there) ≡ Some timer = rw here at due in
                let names : armed_by k kd there ≡ timer = cc in
                let same : is_slot k kd (slot.Timer k kd) ≡ true = search rules in
                let own : is_slot timer.key timer.kind (slot.Timer k kd) ≡ true =
                let P : Armed → Type 0 = λ t. is_slot t.key t.kind (slot.Timer k kd) ≡ true in subst P names same in
                rw own
            | inr later ↦ rw other (due_found now es timer (rw later at due))
          ]
    ]
due_found now ((slot.Timer k kd, None) ∷ es) timer due =
    elim (cases_Bool (is_slot timer.key timer.kind (slot.Timer k kd))) [
      | inl same ↦ rw same
      | inr other ↦ rw other (due_found now es timer due)
    ]
due_found now ((slot.Vacant index, v) ∷ es) timer due = due_found now es timer due

-- no timer expires earlier after one is taken out
pub none_before-taken : (key : TxnKey) (kind : TimerKind) (soonest : ℕ) (es : Entries) → IsTrue (none_before soonest (timers_in es)) → IsTrue (none_before soonest (timers_in (set_value (is_slot key kind) es None)))
none_before-taken key kind soonest [] none = refl
none_before-taken key kind soonest ((slot.Timer k kd, Some there) ∷ es) none =
    let (here, rest) = and_parts (nat_le soonest there.deadline) (none_before soonest (timers_in es)) none in
    elim (cases_Bool (is_slot key kind (slot.Timer k kd))) [
      | inl same ↦ rw same rest
      | inr other ↦ rw (other, here) (none_before-taken key kind soonest es rest)
    ]
none_before-taken key kind soonest ((slot.Timer k kd, None) ∷ es) none =
    elim (cases_Bool (is_slot key kind (slot.Timer k kd))) [
      | inl same ↦ rw same none
      | inr other ↦ rw other (none_before-taken key kind soonest es none)
    ]
none_before-taken key kind soonest ((slot.Vacant index, v) ∷ es) none = none_before-taken key kind soonest es none
