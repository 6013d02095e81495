-- An event that a lane itself lets pass: what it comes to, and what is made of it.
use Rattle.std.proofs.Common.{◌≡◌, ℕ, Bool, true, false, not, ◌&&◌, List, [], ◌∷◌, ◌++◌, Option, Some, None, is_some, Result, Ok, Err, IsOk, IsSome, inl, inr, refl, sym, ap, ◌∙◌, subst}
use Rattle.std.specs.Option.{option_map, option_or}
use Rattle.std.proofs.lemmas.Bool.{false≢true, true≢false, eqb-true}
use Rattle.txn_events.specs.declared.answer.Answer.{Answer}
use Rattle.cfdp_types.specs.Steps.{is_stamp}
use Rattle.cfdp_types.specs.declared.key.TxnKey.{TxnKey}
use Rattle.indications.specs.declared.bundle.Bundle.{Bundle}
use Rattle.indications.specs.declared.indication.Indication.{Indication}
use Rattle.txn_events.specs.declared.refusal.Refusal.{Refusal}
use Rattle.txn_events.specs.declared.event.What.{What}
use Rattle.lane_table.specs.declared.done.Done.{Done}
use Rattle.txn_events.specs.declared.event.Event.{Event}
use Rattle.txn_events.specs.declared.event.Event.TheVariants.{On}
use Rattle.txn_lane.specs.declared.running.Running.{Running}
use Rattle.txn_lane.specs.Handing.{bundle_for, MayHandOver, IsHandedOver}
use Rattle.lane_table.specs.Keeping.{Keeps, bundle_by, bundle_of}
use Rattle.lane_table.specs.Lane.{State, key_at, key_of, log_of, goes_on, is_running, IsSound}
use Rattle.txn_lane.specs.LaneCode.{Stands, IsHeld}
use Rattle.lane_table.specs.Logs.{Log, issued, has_ended, answered_behind, extended}
use Rattle.txn_lane.specs.Transactions.{StandsAfter}
use Rattle.txn_lane.specs.Stepping.{IsOffered, IsWhyNot, IsNotCarried}
use Rattle.lane_table.specs.Steps.{IsKeyed, new_transaction, log_before, is_foreign, is_new, is_old, is_unknown, plainly, refused_by_end, refused_by_lane, refusal_at, stepped, stepped_by, answer_in, answer_of, IsDone}
use Rattle.txn_lane.proofs.HandFacts.{may_hand_over}
use Rattle.lane_table.proofs.LogFacts.{log_with, taken_behind, refused_so, with_answer, last_is, issued_is}
use Rattle.lane_table.proofs.RunFacts.{IsSame, same_by}
use Rattle.lane_table.proofs.SentFacts.{some_is}
use Rattle.lane_table.proofs.StepFacts.{ComesTo, comes_to, stays_sound, if_none, both_false, both_true, is_true, is_false, same_source}

-- an event that the lane itself lets pass comes to this log
pub record Meets (state : State) (event : Event) (key : TxnKey) (log : Log) : Type 0 where
  pub sound : IsSound state
  pub keyed : IsKeyed event
  pub passed : refused_by_lane state event ≡ None
  pub before : log_before state (new_transaction state event) ≡ Some log
  pub key_is : key_of (stepped state event) ≡ Some key

by_end : (state : State) (event : Event) (key : TxnKey) (log : Log) → Meets state event key log
    → refusal_at state event ≡ option_map plainly (refused_by_end (Some log) event)
by_end state event key log meets =
    ap (λ o. option_or o (option_map plainly (refused_by_end (log_before state (new_transaction state event)) event))) meets.passed
    ∙ ap (λ o. option_map plainly (refused_by_end o event)) meets.before

pub free_if : (state : State) (event : Event) (key : TxnKey) (log : Log) (answer : Answer)
    → Meets state event key log → answered_behind log event ≡ Ok answer → refusal_at state event ≡ None
free_if state event key log answer meets is = by_end state event key log meets ∙ ap (option_map plainly) (taken_behind log event answer is)

free_of : (state : State) (event : Event) (key : TxnKey) (log : Log) (answered : Result Answer Refusal) → answered_behind log event ≡ answered
    → Meets state event key log → IsOk answered → refusal_at state event ≡ None
free_of state event key log (Ok answer) is meets ok = free_if state event key log answer meets is
free_of state event key log (Err why) is meets ok = absurd (false≢true ok)

pub log_then : (state : State) (event : Event) (key : TxnKey) (log : Log) (answer : Answer)
    → Meets state event key log → answered_behind log event ≡ Ok answer → log_of (stepped state event) ≡ Some (extended log event answer)
log_then state event key log answer meets is =
    let came : ComesTo state event = comes_to state event meets.sound meets.keyed (free_if state event key log answer meets is) in
    let same : came.log ≡ log = some_is came.log log (sym came.before ∙ meets.before) in
    came.after ∙ ap (λ l. Some (log_with l event)) same ∙ ap Some (with_answer log event answer is)

pub answer_then : (state : State) (event : Event) (key : TxnKey) (log : Log) (answer : Answer)
    → Meets state event key log → answered_behind log event ≡ Ok answer → answer_of (stepped state event) ≡ answer
answer_then state event key log answer meets is = ap answer_in (log_then state event key log answer meets is) ∙ last_is log event answer is

-- ---- the outlet

pub may_then : (state : State) (event : Event) (key : TxnKey) (log : Log) (answer : Answer)
    → Meets state event key log → answered_behind log event ≡ Ok answer
    → (bundles : List Bundle) (stands : List Bundle → Type 0) → Keeps state bundles → stands bundles
    → (user lane other another : ℕ) → user ≡ state.user → lane ≡ state.lane → other ≡ state.user → another ≡ state.lane
    → MayHandOver user lane stands (bundle_for other another key answer.inds)
may_then state event key log answer meets is bundles stands keeps stood user lane other another of_user of_lane of_other of_another =
    subst (λ u. MayHandOver u lane stands (bundle_for other another key answer.inds)) (sym of_user)
    (subst (λ l. MayHandOver state.user l stands (bundle_for other another key answer.inds)) (sym of_lane)
    (subst (λ u. MayHandOver state.user state.lane stands (bundle_for u another key answer.inds)) (sym of_other)
    (subst (λ l. MayHandOver state.user state.lane stands (bundle_for state.user l key answer.inds)) (sym of_another)
    (may_hand_over state event bundles stands key meets.sound meets.keyed (free_if state event key log answer meets is) keeps stood meets.key_is
    answer.inds (ap (λ a. a.inds) (answer_then state event key log answer meets is))))))

bundle_then : (next : State) (key : TxnKey) (inds : List Indication) → key_of next ≡ Some key → (answer_of next).inds ≡ inds
    → bundle_of next ≡ bundle_by next (Some key) inds
bundle_then next key inds key_is told =
    ap (λ k. bundle_by next k (answer_of next).inds) key_is ∙ ap (bundle_by next (Some key)) told

offered_by : {A : Type 0} (takes : A → Bundle → A → Type 0) (old new : A) (next : State) (user lane : ℕ) (key : TxnKey) (inds : List Indication)
    → user ≡ next.user → lane ≡ next.lane → IsHandedOver takes old new (bundle_for user lane key inds)
    → IsOffered takes old new (bundle_by next (Some key) inds)
offered_by takes old new next user lane key [] of_user of_lane handed = handed
offered_by takes old new next user lane key (first ∷ rest) of_user of_lane handed =
    subst (λ u. takes old (record { user = u; lane = next.lane; key = key; inds = first ∷ rest }) new) of_user
    (subst (λ l. takes old (record { user = user; lane = l; key = key; inds = first ∷ rest }) new) of_lane handed)

pub offered_then : {A : Type 0} (takes : A → Bundle → A → Type 0) (old new : A)
    (state : State) (event : Event) (key : TxnKey) (log : Log) (answer : Answer)
    → Meets state event key log → answered_behind log event ≡ Ok answer
    → (user lane : ℕ) → user ≡ state.user → lane ≡ state.lane
    → IsHandedOver takes old new (bundle_for user lane key answer.inds)
    → IsOffered takes old new (bundle_of (stepped state event))
offered_then takes old new state event key log answer meets is user lane of_user of_lane handed =
    let next : State = stepped state event in
    let same : IsSame state next = same_by state event (new_transaction state event) in
    subst (IsOffered takes old new)
    (sym (bundle_then next key answer.inds meets.key_is (ap (λ a. a.inds) (answer_then state event key log answer meets is))))
    (offered_by takes old new next user lane key answer.inds (of_user ∙ sym same.user) (of_lane ∙ sym same.lane) handed)

-- ---- why an event is not taken

full_by : (next : State) (user lane : ℕ) (key : TxnKey) (inds : List Indication) → IsSome (bundle_for user lane key inds)
    → (bundle : Bundle) × (bundle_by next (Some key) inds ≡ bundle ∷ [])
full_by next user lane key [] some = absurd (false≢true some)
full_by next user lane key (first ∷ rest) some = (record { user = next.user; lane = next.lane; key = key; inds = first ∷ rest }, refl)

refused_then : (state : State) (event : Event) (key : TxnKey) (log : Log) (why : Refusal)
    → Meets state event key log → answered_behind log event ≡ Err why → refusal_at state event ≡ Some (plainly why)
refused_then state event key log why meets is = by_end state event key log meets ∙ ap (option_map plainly) (refused_so log event why is)

pub why_not : {A : Type 0} (returns : A → A → Type 0) (old new : A)
    (state : State) (event : Event) (key : TxnKey) (log : Log) (user lane : ℕ) (why : Refusal)
    → Meets state event key log
    → IsNotCarried returns old new user lane key (answered_behind log event) why
    → IsWhyNot returns state event old new (plainly why)
why_not returns old new state event key log user lane why meets (inl (same, inl is)) =
    inl (same, inl (refused_then state event key log why meets is))
why_not returns old new state event key log user lane why meets (inl (same, inr ran)) =
    inl (same, inr (free_of state event key log (answered_behind log event) refl meets ran.1, ap plainly ran.0))
why_not returns old new state event key log user lane why meets (inr full) =
    let next : State = stepped state event in
    let answer : Answer = full.2.0 in
    let found = full_by next user lane key answer.inds full.2.2 in
    let told = ap (λ a. a.inds) (answer_then state event key log answer meets full.2.1) in
    inr (full.0, (free_if state event key log answer meets full.2.1, ap plainly full.1, (found.0, bundle_then next key answer.inds meets.key_is told ∙ found.1)))

-- ---- what the lane holds then, and what the step gives

pub held_then : (state : State) (event : Event) (key : TxnKey) (log : Log) (answer : Answer)
    → Meets state event key log → answered_behind log event ≡ Ok answer
    → (next : Running) → StandsAfter next.core (extended log event answer) → next.trace.items ≡ issued log ++ answer.inds
    → IsHeld (stepped state event) (Some next)
held_then state event key log answer meets is next stood traced = record {
  sound = stays_sound state event meets.sound meets.keyed (free_if state event key log answer meets is);
  stands =
      subst (Stands (Some next)) (sym (log_then state event key log answer meets is)) (stood, traced ∙ sym (issued_is log event answer is));
}

pub done_then : (state : State) (event : Event) (key : TxnKey) (log : Log) (answer : Answer)
    → Meets state event key log → answered_behind log event ≡ Ok answer
    → (done : Done) → done.key ≡ key → done.pdus ≡ answer.pdus → done.timers ≡ answer.timers → done.deposit ≡ answer.deposit
    → IsDone (stepped state event) done
done_then state event key log answer meets is done of_key of_pdus of_timers of_deposit =
    let told = answer_then state event key log answer meets is in
    record {
      key = meets.key_is ∙ ap Some (sym of_key);
      pdus = of_pdus ∙ ap (λ a. a.pdus) (sym told);
      timers = of_timers ∙ ap (λ a. a.timers) (sym told);
      deposit = of_deposit ∙ ap (λ a. a.deposit) (sym told);
    }

-- ---- what the code's transaction is, where the lane's goes on

pub record IsFound (running : Running) (found : Option Log) : Type 0 where
  pub log : Log
  pub is : found ≡ Some log
  pub stood : StandsAfter running.core log
  pub traced : running.trace.items ≡ issued log
  pub runs : has_ended log ≡ false

pub found_by : (running : Running) (found : Option Log) → Stands (Some running) found → goes_on found ≡ true → IsFound running found
found_by running None stands goes = absurd stands
found_by running (Some log) stands goes =
    record { log = log; is = refl; stood = stands.0; traced = stands.1; runs = is_false (has_ended log) goes }

pub stands_same : (running next : Running) (found : Option Log) → ((log : Log) → StandsAfter running.core log → StandsAfter next.core log)
    → next.trace.items ≡ running.trace.items → Stands (Some running) found → Stands (Some next) found
stands_same running next None core trace stands = absurd stands
stands_same running next (Some log) core trace stands = (core log stands.0, trace ∙ stands.1)

-- ---- an event of a key that the lane itself lets pass

pub record IsOfLast (state : State) (key : TxnKey) : Type 0 where
  pub runs : is_running state ≡ true
  pub key_is : key_of state ≡ Some key

pub of_last : (state : State) (key : TxnKey) (event : What) → new_transaction state (On key event) ≡ None → refused_by_lane state (On key event) ≡ None → IsOfLast state key
of_last state key event none passed =
    let one = if_none (is_unknown state (On key event)) _ _ passed in
    let two = if_none (is_old state (On key event)) _ _ one.1 in
    let found : is_some (new_transaction state (On key event)) ≡ false = ap is_some none in
    let known = both_false (is_foreign state (On key event)) (is_new state (On key event) && not (is_some (new_transaction state (On key event)))) one.0 in
    let reached : is_new state (On key event) ≡ false = new_false (is_new state (On key event)) (is_some (new_transaction state (On key event))) found known.1 in
    let stamped = both_true (is_stamp state.last key.seq) (is_running state)
    (is_true (is_stamp state.last key.seq && is_running state) (old_false (is_new state (On key event)) _ reached two.0)) in
    let source = same_source key.source state.source known.0 in
    record {
      runs = stamped.1;
      key_is = ap (option_map (key_at state.source)) (stamp_is state.last key.seq stamped.0) ∙ ap (λ s. Some (key_at s key.seq)) (sym source);
    }
  where
    new_false : (new found : Bool) → found ≡ false → (new && not found) ≡ false → new ≡ false
    new_false true true is e = is
    new_false true false is e = e
    new_false false found is e = refl

    old_false : (new rest : Bool) → new ≡ false → (not new && not rest) ≡ false → not rest ≡ false
    old_false true rest is e = absurd (true≢false is)
    old_false false rest is e = e

    stamp_is : (last : Option ℕ) (number : ℕ) → is_stamp last number ≡ true → last ≡ Some number
    stamp_is None number e = absurd (false≢true e)
    stamp_is (Some kept) number e = ap Some (eqb-true kept number e)

pub meets_last : (state : State) (key : TxnKey) (event : What) (running : Running) → new_transaction state (On key event) ≡ None
    → IsSound state → IsKeyed (On key event) → refused_by_lane state (On key event) ≡ None
    → (found : IsFound running (log_of state)) → Meets state (On key event) key found.log
meets_last state key event running none sound keyed passed found = record {
  sound = sound;
  keyed = keyed;
  passed = passed;
  before = ap (log_before state) none ∙ found.is;
  key_is = ap (λ o. key_of (stepped_by state (On key event) o)) none ∙ (of_last state key event none passed).key_is;
}
