-- The places after one is given up.
use Rattle.std.proofs.Common.{◌≡◌, ℕ, ◌+◌, ◌-◌, ◌<◌, true, false, IsTrue, cond, ◌==◌, List, [], ◌∷◌, ◌++◌, length, Option, Some, None, Result, Ok, Err, OnOk, OnErr, IfSome, length-append, append_assoc, slice_get, slice_set, slice_index_or, position, refl, sym, ap, ◌∙◌, subst, arith, inl, inr}
use Rattle.std.proofs.lemmas.Bool.{cases_Bool, and_parts}
use Rattle.std.proofs.lemmas.Bool.Decides.{nat_tests}
use Rattle.std.specs.List.{IsDistinct, AllByRecursion}
use Rattle.std.specs.List.{swap_remove, position_from}
use Rattle.std.proofs.Math.Seq.{set-append_seam, take-append_seam, get_or-append_seam}
use Rattle.std.proofs.lemmas.Iterator.Adapters.{position_from-zero}
use Rattle.indexmap.specs.IndexMap.{insert_entry}
use Rattle.std.specs.Map.{lookup, keys_of}
use Rattle.cfdp_types.specs.declared.key.TxnKey.{TxnKey}
use Rattle.cfdp_types.specs.declared.names.TimerKind.{TimerKind}
use Rattle.timer_list.specs.declared.slot.Slot.{Slot}
use Rattle.timer_list.specs.declared.slot.Slot.TheVariants as slot
use Rattle.timer_list.specs.declared.slot.Run.{Run}
use Rattle.timer_list.specs.Slots.{is_slot, none_before, same_slot, timers_in, value_at, are_in_place}
use Rattle.timer_list.specs.contracts.slot.SlotPartialEq.TheImpl.{eq-value}
use Rattle.timer_list.proofs.SlotLemmas.{Entries, pair, none_is_some, timers_in-append, derived_same, distinct_slots, inserted-absent, apart_from_all, names_of}

-- a place that a timer left behind: the places before it and after it
pub record Left (key : TxnKey) (kind : TimerKind) (es : Entries) (first index : ℕ) : Type 0 where
  pub before : Entries
  pub behind : Entries
  pub entries : es ≡ before ++ (slot.Timer key kind, None) ∷ behind
  pub place : length before + first ≡ index
  pub none_before : value_at key kind before ≡ None
  pub none_behind : value_at key kind behind ≡ None

apart_from_left : (key : TxnKey) (kind : TimerKind) (k : TxnKey) (kd : TimerKind) (es : Entries) → pair key kind ≡ pair k kd
    → AllByRecursion (λ s. same_slot (slot.Timer k kd) s ≡ false) (keys_of es) → value_at key kind es ≡ None
apart_from_left key kind k kd es names apart =
    let P : TxnKey × TimerKind → Type 0 = λ n. value_at n.0 n.1 es ≡ None in subst P (sym names) (apart_from_all k kd es apart)

left_after : (key : TxnKey) (kind : TimerKind) (e : Slot × Option Run) (es : Entries) (first place : ℕ) → is_slot key kind e.0 ≡ false → Left key kind es (first + 1) place → Left key kind (e ∷ es) first place
left_after key kind e es first place other rest = record {
  before = e ∷ rest.before;
  behind = rest.behind;
  entries = ap (λ l. e ∷ l) rest.entries;
  place = let there = rest.place in omega arith;
  none_before = rw other rest.none_before;
  none_behind = rest.none_behind;
}

left_from : (key : TxnKey) (kind : TimerKind) (es : Entries) (first place : ℕ) → IsDistinct same_slot (keys_of es) → value_at key kind es ≡ Some None
    → position_from (is_slot key kind) first (keys_of es) ≡ Some place → Left key kind es first place
unfolding IsDistinct
left_from key kind [] first place distinct found at = absurd (none_is_some found)
left_from key kind ((slot.Timer k kd, v) ∷ es) first place distinct found at =
    elim (cases_Bool (is_slot key kind (slot.Timer k kd))) [
      | inl same ↦
          let names : pair key kind ≡ pair k kd = names_of key kind k kd same in
          let nothing : Some v ≡ Some None = rw same at found in
          let here : Some first ≡ Some place = rw same at at in
          record {
            before = [];
            behind = es;
            entries = ap (λ e. e ∷ es) (let empty : v ≡ None = cc in let own : pair k kd ≡ pair key kind = sym names in (λ i. (slot.Timer (own i).0 (own i).1, empty i)));
            place = let same_place : first ≡ place = cc in omega arith;
            none_before = refl;
            none_behind = apart_from_left key kind k kd es names distinct.0;
          }
      | inr other ↦ left_after key kind (slot.Timer k kd, v) es first place other (left_from key kind es (first + 1) place distinct.1 (rw other at found) (rw other at at))
    ]
left_from key kind ((slot.Vacant index, v) ∷ es) first place distinct found at =
    left_after key kind (slot.Vacant index, v) es first place refl (left_from key kind es (first + 1) place distinct.1 found at)

-- after the split, as `position` tells the place
left_behind : (key : TxnKey) (kind : TimerKind) (es : Entries) (place : ℕ) → IsDistinct eq-value.it (keys_of es) → value_at key kind es ≡ Some None
    → position (eq-value.it (slot.Timer key kind)) (keys_of es) ≡ Some place → Left key kind es 0 place
left_behind key kind es place distinct found at =
    left_from key kind es 0 place (distinct_slots (keys_of es) distinct) found
    (sym (position_from_same 0 (keys_of es)) ∙ sym (position_from-zero (eq-value.it (slot.Timer key kind)) (keys_of es)) ∙ at)
  where
    position_from_same : (first : ℕ) (ss : List Slot) → position_from (eq-value.it (slot.Timer key kind)) first ss ≡ position_from (is_slot key kind) first ss
    position_from_same first [] = refl
    position_from_same first (s ∷ ss) = (λ i. cond (derived_same (slot.Timer key kind) s i) (Some first) (position_from_same (first + 1) ss i))

-- the item after some others
slice_get-seam : {A : Type 0} (xs : List A) (x : A) (ys : List A) → slice_get (xs ++ x ∷ ys) (length xs) ≡ Some x
slice_get-seam [] x ys = refl
slice_get-seam (w ∷ xs) x ys = slice_get-seam xs x ys

-- the last item in the place of another
pub swapped_out : {A : Type 0} (xs ys : List A) (x y d : A) → swap_remove (xs ++ x ∷ (ys ++ y ∷ [])) (length xs) d ≡ xs ++ y ∷ ys
swapped_out {A} xs ys x y d =
    let all : List A = xs ++ x ∷ (ys ++ y ∷ []) in
    let last : length all - 1 ≡ length (xs ++ x ∷ ys) = simp length-append (omega (arith, length-append ys (y ∷ []))) in
    let read : slice_index_or all (length (xs ++ x ∷ ys)) d ≡ y =
    rw (← append_assoc xs (x ∷ ys) (y ∷ [])) (get_or-append_seam (xs ++ x ∷ ys) y [] d) in
    let written : slice_set all (length xs) y ≡ xs ++ y ∷ (ys ++ y ∷ []) = set-append_seam xs x (ys ++ y ∷ []) y in
    let lengths : length (xs ++ x ∷ ys) ≡ length (xs ++ y ∷ ys) = simp length-append refl in
    rw (last, read, written) (rw (lengths, ← append_assoc xs (y ∷ ys) (y ∷ [])) (take-append_seam (xs ++ y ∷ ys) (y ∷ [])))

-- a place of its own number is not among others that are in place
vacant_apart : (number place : ℕ) (es : Entries) → IsTrue (are_in_place place (keys_of es)) → number < place → lookup (same_slot (slot.Vacant number)) es ≡ None
vacant_apart number place [] inside below = refl
vacant_apart number place ((slot.Timer key kind, v) ∷ es) inside below = vacant_apart number (place + 1) es inside (omega arith)
vacant_apart number place ((slot.Vacant other, v) ∷ es) inside below =
    let (here, rest) = and_parts (other == place) (are_in_place (place + 1) (keys_of es)) inside in
    let apart : (number == other) ≡ false = grind (arith, nat_tests) in
    rw apart (vacant_apart number (place + 1) es rest (omega arith))

vacant_absent : (key : TxnKey) (kind : TimerKind) (before behind : Entries) (v : Option Run) (place number : ℕ) → IsTrue (are_in_place place (keys_of (before ++ (slot.Timer key kind, v) ∷ behind)))
    → number ≡ length before + place → lookup (same_slot (slot.Vacant number)) (before ++ (slot.Timer key kind, v) ∷ behind) ≡ None
vacant_absent key kind [] behind v place number inside own = vacant_apart number (place + 1) behind inside (omega arith)
vacant_absent key kind ((slot.Timer k kd, w) ∷ before) behind v place number inside own = vacant_absent key kind before behind v (place + 1) number inside (omega arith)
vacant_absent key kind ((slot.Vacant other, w) ∷ before) behind v place number inside own =
    let (here, rest) = and_parts (other == place) _ inside in
    let apart : (number == other) ≡ false = grind (arith, nat_tests) in
    rw apart (vacant_absent key kind before behind v (place + 1) number rest (omega arith))

-- a place that is given up in its own number leaves the others in place
in_place-vacated : (key : TxnKey) (kind : TimerKind) (before behind : Entries) (v w : Option Run) (place number : ℕ) → IsTrue (are_in_place place (keys_of (before ++ (slot.Timer key kind, v) ∷ behind)))
    → number ≡ length before + place → IsTrue (are_in_place place (keys_of (before ++ (slot.Vacant number, w) ∷ behind)))
in_place-vacated key kind [] behind v w place number inside own =
    let here : (number == place) ≡ true = grind (arith, nat_tests) in rw here inside
in_place-vacated key kind ((slot.Timer k kd, u) ∷ before) behind v w place number inside own = in_place-vacated key kind before behind v w (place + 1) number inside (omega arith)
in_place-vacated key kind ((slot.Vacant other, u) ∷ before) behind v w place number inside own =
    let (here, rest) = and_parts (other == place) _ inside in
    rw here (in_place-vacated key kind before behind v w (place + 1) number rest (omega arith))

-- a timer's place at the end leaves the others in place
in_place-push : (key : TxnKey) (kind : TimerKind) (v : Option Run) (es : Entries) (place : ℕ) → IsTrue (are_in_place place (keys_of es))
    → IsTrue (are_in_place place (keys_of (es ++ (slot.Timer key kind, v) ∷ [])))
in_place-push key kind v [] place inside = refl
in_place-push key kind v ((slot.Timer k kd, u) ∷ es) place inside = in_place-push key kind v es (place + 1) inside
in_place-push key kind v ((slot.Vacant other, u) ∷ es) place inside =
    let (here, rest) = and_parts (other == place) _ inside in
    rw here (in_place-push key kind v es (place + 1) rest)

-- whether or not there was memory for it
pub in_place-inserted : {A E : Type 0} (r : Result A E) (key : TxnKey) (kind : TimerKind) (v : Option Run) (old new : Entries) → value_at key kind old ≡ None
    → IsTrue (are_in_place 0 (keys_of old)) → OnOk r (new ≡ insert_entry eq-value.it old (slot.Timer key kind) v) → OnErr r (new ≡ old) → IsTrue (are_in_place 0 (keys_of new))
in_place-inserted (Ok x) key kind v old new none inside ok err =
    let P : Entries → Type 0 = λ es. IsTrue (are_in_place 0 (keys_of es)) in
    subst P (sym (ok ∙ inserted-absent (slot.Timer key kind) v old none)) (in_place-push key kind v old 0 inside)
in_place-inserted (Err e) key kind v old new none inside ok err =
    let P : Entries → Type 0 = λ es. IsTrue (are_in_place 0 (keys_of es)) in subst P (sym err) inside

-- the places after one is given up
pub record Vacated (key : TxnKey) (kind : TimerKind) (old new : Entries) : Type 0 where
  pub same : timers_in new ≡ timers_in old
  pub gone : value_at key kind new ≡ None
  pub in_place : IsTrue (are_in_place 0 (keys_of new))

-- a value behind places that lack it
value_at-behind : (key : TxnKey) (kind : TimerKind) (before behind : Entries) → value_at key kind before ≡ None → value_at key kind (before ++ behind) ≡ value_at key kind behind
value_at-behind key kind [] behind none = refl
value_at-behind key kind (e ∷ before) behind none =
    elim (cases_Bool (is_slot key kind e.0)) [
      | inl same ↦ absurd (none_is_some (sym (rw same at none)))
      | inr other ↦ rw other (value_at-behind key kind before behind (rw other at none))
    ]

vacated_at : (key : TxnKey) (kind : TimerKind) (before behind : Entries) (number : ℕ) → IsTrue (are_in_place 0 (keys_of (before ++ (slot.Timer key kind, None) ∷ behind)))
    → number ≡ length before → value_at key kind before ≡ None → value_at key kind behind ≡ None
    → Vacated key kind (before ++ (slot.Timer key kind, None) ∷ behind) (before ++ (slot.Vacant number, None) ∷ behind)
vacated_at key kind before behind number inside own none_before none_behind = record {
  same = timers_in-append before ((slot.Vacant number, None) ∷ behind) ∙ sym (timers_in-append before ((slot.Timer key kind, None) ∷ behind));
  gone = value_at-behind key kind before ((slot.Vacant number, None) ∷ behind) none_before ∙ none_behind;
  in_place = in_place-vacated key kind before behind None None 0 number inside (omega arith);
}

vacated : (key : TxnKey) (kind : TimerKind) (old added new : Entries) (place : ℕ) (r : Option (Slot × Option Run)) → Left key kind old 0 place → IsTrue (are_in_place 0 (keys_of old))
    → added ≡ insert_entry eq-value.it old (slot.Vacant place) None → r ≡ slice_get added place → IfSome r (λ p. new ≡ swap_remove added place p) → Vacated key kind old new
vacated key kind old added new place r left inside add at out =
    let split : Entries = left.before ++ (slot.Timer key kind, None) ∷ left.behind in
    let own : place ≡ length left.before = let there = left.place in omega arith in
    let P : Entries → Type 0 = λ es. IsTrue (are_in_place 0 (keys_of es)) in
    let inside_split : P split = subst P left.entries inside in
    let absent : lookup (same_slot (slot.Vacant place)) old ≡ None =
    rw left.entries (vacant_absent key kind left.before left.behind None 0 place inside_split (omega arith)) in
    let grown : added ≡ left.before ++ (slot.Timer key kind, None) ∷ (left.behind ++ (slot.Vacant place, None) ∷ []) =
    add ∙ inserted-absent (slot.Vacant place) None old absent ∙ ap (λ es. es ++ (slot.Vacant place, None) ∷ []) left.entries
    ∙ append_assoc left.before ((slot.Timer key kind, None) ∷ left.behind) ((slot.Vacant place, None) ∷ []) in
    by r (at ∙ ap (slice_get added) own ∙ ap (λ es. slice_get es (length left.before)) grown ∙ slice_get-seam left.before (slot.Timer key kind, None) (left.behind ++ (slot.Vacant place, None) ∷ []))
    out own grown inside_split
  where
    by : (r : Option (Slot × Option Run)) → r ≡ Some (slot.Timer key kind, None) → IfSome r (λ p. new ≡ swap_remove added place p) → place ≡ length left.before
        → added ≡ left.before ++ (slot.Timer key kind, None) ∷ (left.behind ++ (slot.Vacant place, None) ∷ [])
        → IsTrue (are_in_place 0 (keys_of (left.before ++ (slot.Timer key kind, None) ∷ left.behind))) → Vacated key kind old new
    by None there out own grown inside = absurd (none_is_some there)
    by (Some p) there out own grown inside =
        let outcome : new ≡ left.before ++ (slot.Vacant place, None) ∷ left.behind =
        out ∙ (λ i. swap_remove (grown i) (own i) p) ∙ swapped_out left.before left.behind (slot.Timer key kind, None) (slot.Vacant place, None) p in
        let Q : Entries → Entries → Type 0 = λ xs ys. Vacated key kind xs ys in
        subst (λ ys. Q old ys) (sym outcome) (subst (λ xs. Q xs (left.before ++ (slot.Vacant place, None) ∷ left.behind)) (sym left.entries)
        (vacated_at key kind left.before left.behind place inside own left.none_before left.none_behind))

-- a place is given up, by what the calls on the map tell
pub vacated_from : (key : TxnKey) (kind : TimerKind) (old added new : Entries) (place : ℕ) (r : Option (Slot × Option Run)) → IsDistinct eq-value.it (keys_of old) → value_at key kind old ≡ Some None
    → Some place ≡ position (eq-value.it (slot.Timer key kind)) (keys_of old) → IsTrue (are_in_place 0 (keys_of old)) → added ≡ insert_entry eq-value.it old (slot.Vacant place) None
    → r ≡ slice_get added place → IfSome r (λ p. new ≡ swap_remove added place p) → Vacated key kind old new
vacated_from key kind old added new place r distinct found at inside add taken out =
    vacated key kind old added new place r (left_behind key kind old place distinct found (sym at)) inside add taken out
