-- A step of a lane: what an event that is taken makes of its log, and of what the lane keeps.
use Rattle.std.proofs.Common.{◌≡◌, ℕ, ◌+◌, ◌*◌, ◌<◌, Bool, true, false, not, ◌||◌, ◌&&◌, ◌==◌, if◌then◌else◌, is_some, List, [], ◌∷◌, ◌++◌, Option, Some, None, refl, sym, ap, ◌∙◌, subst, arith, length-append}
use Rattle.std.specs.Option.{option_map, option_or}
use Rattle.std.proofs.lemmas.Bool.{false≢true, true≢false, ltb-true, eqb-true}
use Rattle.std.proofs.lemmas.List.{append-nil}
use Rattle.std.proofs.Math.Nat.{mul-pos}
use Rattle.cfdp_types.specs.Steps.{is_stamp}
use Rattle.cfdp_types.specs.declared.key.EntityId.{EntityId}
use Rattle.cfdp_types.specs.declared.key.TxnKey.{TxnKey}
use Rattle.txn_events.specs.declared.event.What.{What}
use Rattle.txn_events.specs.declared.event.What.TheVariants as what
use Rattle.indications.specs.declared.bundle.Bundle.{Bundle}
use Rattle.indications.specs.declared.indication.Indication.{Indication}
use Rattle.indications.specs.LaneLists.{tells, IsBegunGroup}
use Rattle.txn_events.specs.declared.event.Event.{Event}
use Rattle.txn_events.specs.declared.event.Event.TheVariants.{Put, On}
use Rattle.lane_table.specs.declared.lane_side.LaneSide.{LaneSide}
use Rattle.lane_table.specs.declared.lane_side.LaneSide.TheVariants.{Sending, Receiving}
use Rattle.indications.specs.declared.side.Side.{Side}
use Rattle.lane_table.specs.Logs.{Transaction, Log, IsOfKey, opened_by, end_of, log_by, issued, has_ended, entries_of, IsLegal, last_answer, side_of}
use Rattle.lane_table.specs.Lane.{State, idle, key_at, is_above, log_from, log_of, entries_in, goes_on, is_running, issued_in, issued_by, IsNumbered, IsRun, IsRisen, IsSound}
use Rattle.lane_table.specs.Steps.{IsKeyed, next_in, next_number, number_in, is_foreign, is_new, new_transaction, log_before, is_unknown, is_old, wants_to_open, is_busy, refused_number, refused_by_number, plainly, refused_by_end, refused_by_lane, refusal_at, stepped_by, stepped, answer_in, answer_of, IsBundle}
use Rattle.lane_table.specs.Keeping.{IsOfSide, AreSent, Keeps}
use Rattle.lane_table.proofs.LogFacts.{log_with, log_by-more, HasPlace, issued_with, entries_with, legal_with, nothing_legal, nothing_ended, nothing_issued, nothing_counted, IfOpened, first_place, later_place, lane_words, begun_group, word_group, begun_side, log_side}
use Rattle.lane_table.proofs.SentFacts.{some_is, nothing_sent, IsOver, number_opens, bundle_more}

-- ---- an event that is taken meets none of the reasons

pub if_none : {A : Type 0} (b : Bool) (x : A) (rest : Option A) → (if b then Some x else rest) ≡ None → (b ≡ false) × (rest ≡ None)
if_none true x rest e = absurd cc
if_none false x rest e = (refl, e)

map_none : {A B : Type 0} (f : A → B) (o : Option A) → option_map f o ≡ None → o ≡ None
map_none f None e = refl
map_none f (Some x) e = absurd cc

record IsTaken (state : State) (event : Event) : Type 0 where
  known : is_unknown state event ≡ false
  young : is_old state event ≡ false
  free : is_busy state event ≡ false
  numbered : refused_by_number state event ≡ None
  allowed : refused_by_end (log_before state (new_transaction state event)) event ≡ None

or_none : {A : Type 0} (o rest : Option A) → option_or o rest ≡ None → (o ≡ None) × (rest ≡ None)
or_none None rest e = (refl, e)
or_none (Some x) rest e = absurd cc

taken_by : (state : State) (event : Event) → refusal_at state event ≡ None → IsTaken state event
taken_by state event e =
    let both = or_none (refused_by_lane state event) (option_map plainly (refused_by_end (log_before state (new_transaction state event)) event)) e in
    let one = if_none (is_unknown state event) _ _ both.0 in
    let two = if_none (is_old state event) _ _ one.1 in
    let three = if_none (is_busy state event) _ _ two.1 in
    record { known = one.0; young = two.0; free = three.0; numbered = map_none plainly (refused_by_number state event) three.1; allowed = map_none plainly (refused_by_end (log_before state (new_transaction state event)) event) both.1 }

-- ---- tests

pub both_false : (a b : Bool) → (a || b) ≡ false → (a ≡ false) × (b ≡ false)
both_false true b e = absurd (true≢false e)
both_false false b e = (refl, e)

pub both_true : (a b : Bool) → (a && b) ≡ true → (a ≡ true) × (b ≡ true)
both_true true b e = (refl, e)
both_true false b e = absurd (false≢true e)

pub is_false : (a : Bool) → not a ≡ true → a ≡ false
is_false true e = absurd (false≢true e)
is_false false e = refl

pub is_true : (a : Bool) → not a ≡ false → a ≡ true
is_true true e = refl
is_true false e = absurd (true≢false e)

-- ---- what a taken event meets, and what it makes of it

-- an event comes to a log, and it and its answer make the log of the lane's next state
pub record ComesTo (state : State) (event : Event) : Type 0 where
  pub log : Log
  pub before : log_before state (new_transaction state event) ≡ Some log
  pub after : log_of (stepped state event) ≡ Some (log_with log event)
  pub legal : IsLegal log
  pub goes : has_ended log ≡ false
  pub place : HasPlace log event

opened_log : (side : LaneSide) (source : EntityId) (number : ℕ) (event : Event) (transaction : Transaction)
    → opened_by side (key_at source number) event ≡ Some transaction
    → log_from side source (Some number) (event ∷ []) ≡ Some (log_with (log_by transaction []) event)
opened_log side source number event transaction is =
    ap (option_map (λ t. log_by t (event ∷ []))) is ∙ ap Some (log_by-more transaction [] event)

more_by : (opened : Option Transaction) (events : List Event) (event : Event) (log : Log)
    → option_map (λ t. log_by t events) opened ≡ Some log
    → option_map (λ t. log_by t (events ++ event ∷ [])) opened ≡ Some (log_with log event)
more_by None events event log is = absurd cc
more_by (Some transaction) events event log is =
    ap Some (log_by-more transaction events event ∙ ap (λ l. log_with l event) (some_is (log_by transaction events) log is))

more_log : (side : LaneSide) (source : EntityId) (last : Option ℕ) (journal : List Event) (event : Event) (log : Log)
    → log_from side source last journal ≡ Some log
    → log_from side source last (journal ++ event ∷ []) ≡ Some (log_with log event)
more_log side source None journal event log is = absurd cc
more_log side source (Some number) [] event log is = absurd cc
more_log side source (Some number) (first ∷ later) event log is =
    more_by (opened_by side (key_at source number) first) (first ∷ later) event log is

place_by : (opened : Option Transaction) (events : List Event) (event : Event) (log : Log)
    → option_map (λ t. log_by t events) opened ≡ Some log
    → IfOpened opened (λ transaction. HasPlace (log_by transaction events) event) → HasPlace log event
place_by None events event log is place = absurd cc
place_by (Some transaction) events event log is place = subst (λ l. HasPlace l event) (some_is (log_by transaction events) log is) place

more_place : (side : LaneSide) (source : EntityId) (last : Option ℕ) (journal : List Event) (key : TxnKey) (event : What) (log : Log)
    → log_from side source last journal ≡ Some log → HasPlace log (On key event)
more_place side source None journal key event log is = absurd cc
more_place side source (Some number) [] key event log is = absurd cc
more_place side source (Some number) (first ∷ later) key event log is =
    place_by (opened_by side (key_at source number) first) (first ∷ later) (On key event) log is (later_place side (key_at source number) key first later event)

run_legal : (last : Option ℕ) (found : Option Log) (log : Log) → IsRun last found → found ≡ Some log → IsLegal log
run_legal None None log run is = absurd cc
run_legal None (Some other) log run is = absurd run
run_legal (Some number) None log run is = absurd run
run_legal (Some number) (Some other) log run is = subst IsLegal (some_is other log is) run

-- a log that goes on
going : (found : Option Log) → goes_on found ≡ true → (log : Log) × (found ≡ Some log) × (has_ended log ≡ false)
going None goes = absurd (false≢true goes)
going (Some log) goes = (log, refl, is_false (has_ended log) goes)

-- ---- an event behind the first

comes_behind : (state : State) (key : TxnKey) (event : What) → IsSound state → IsTaken state (On key event)
    → new_transaction state (On key event) ≡ None → ComesTo state (On key event)
comes_behind state key event sound taken none =
    let found : is_some (new_transaction state (On key event)) ≡ false = ap is_some none in
    let unknown = both_false (is_foreign state (On key event)) (is_new state (On key event) && not (is_some (new_transaction state (On key event)))) taken.known in
    let reached : is_new state (On key event) ≡ false = new_false (is_new state (On key event)) (is_some (new_transaction state (On key event))) found unknown.1 in
    let runs = both_true (is_stamp state.last key.seq) (is_running state)
    (is_true (is_stamp state.last key.seq && is_running state) (old_false (is_new state (On key event)) _ reached taken.young)) in
    let log = going (log_of state) runs.1 in
    record {
      log = log.0;
      before = ap (log_before state) none ∙ log.1;
      after = ap (λ o. log_of (stepped_by state (On key event) o)) none ∙ more_log state.side state.source state.last state.journal (On key event) log.0 log.1;
      legal = run_legal state.last (log_of state) log.0 sound.run log.1;
      goes = log.2;
      place = more_place state.side state.source state.last state.journal key event log.0 log.1;
    }
  where
    new_false : (new found : Bool) → found ≡ false → (new && not found) ≡ false → new ≡ false
    new_false true true is e = is
    new_false true false is e = e
    new_false false found is e = refl

    old_false : (new rest : Bool) → new ≡ false → (not new && not rest) ≡ false → not rest ≡ false
    old_false true rest is e = absurd (true≢false is)
    old_false false rest is e = e

-- ---- an event that opens

pub if_some : {A : Type 0} (b : Bool) (o : Option A) (x : A) → (if b then o else None) ≡ Some x → (b ≡ true) × (o ≡ Some x)
if_some true o x e = (refl, e)
if_some false o x e = absurd cc

pub same_source : (one other : EntityId) → not (one.0 == other.0) ≡ false → one ≡ other
same_source one other e =
    let same : one.0 ≡ other.0 = eqb-true (one.0) (other.0) (is_true (one.0 == other.0) e) in
    ap (λ (n : ℕ). let id : EntityId = record { 0 = n } in id) same

pub of_pdu : (state : State) (event : Event) → IsKeyed event → is_foreign state event ≡ false → IsOfKey event (key_at state.source (number_in state event))
of_pdu state (Put request params) keyed known = tt
of_pdu state (On named (what.Pdu pdu)) keyed known = (keyed.0 ∙ same_source named.source state.source known, keyed.1)
of_pdu state (On named what.Cancel) keyed known = tt
of_pdu state (On named what.Suspend) keyed known = tt
of_pdu state (On named what.Resume) keyed known = tt
of_pdu state (On named what.Report) keyed known = tt
of_pdu state (On named what.Abandon) keyed known = tt
of_pdu state (On named what.Pump) keyed known = tt
of_pdu state (On named (what.Timer kind stamp)) keyed known = tt
of_pdu state (On named (what.Stored stamp kept)) keyed known = tt

pub not_foreign : (state : State) (event : Event) → is_unknown state event ≡ false → is_foreign state event ≡ false
not_foreign state (Put request params) known = refl
not_foreign state (On key event) known =
    (both_false (is_foreign state (On key event)) (is_new state (On key event) && not (is_some (new_transaction state (On key event)))) known).0

comes_first : (state : State) (event : Event) (transaction : Transaction) → IsKeyed event → IsTaken state event
    → new_transaction state event ≡ Some transaction → ComesTo state event
comes_first state event transaction keyed taken is =
    let key : TxnKey = key_at state.source (number_in state event) in
    let opened = (if_some (is_new state event) (opened_by state.side key event) transaction is).1 in
    let foreign = not_foreign state event taken.known in
    record {
      log = log_by transaction [];
      before = ap (log_before state) is;
      after = ap (λ o. log_of (stepped_by state event o)) is ∙ opened_log state.side state.source (number_in state event) event transaction opened;
      legal = nothing_legal transaction;
      goes = nothing_ended transaction;
      place =
          subst (λ o. IfOpened o (λ t. HasPlace (log_by t []) event)) opened
          (first_place state.side key event (of_pdu state event keyed foreign));
    }

-- a Put that gets a number opens
put_opens : (side : LaneSide) (number : ℕ) (key : TxnKey) (request : _) (params : _) → refused_number side number ≡ None
    → opened_by side key (Put request params) ≡ None → ⊥
put_opens (Sending numbers greatest) number key request params numbered is = absurd cc
put_opens (Receiving others) number key request params numbered is = absurd cc

comes_by : (state : State) (event : Event) → IsSound state → IsKeyed event → IsTaken state event
    → (opened : Option Transaction) → new_transaction state event ≡ opened → ComesTo state event
comes_by state event sound keyed taken (Some transaction) is = comes_first state event transaction keyed taken is
comes_by state (On key event) sound keyed taken None is = comes_behind state key event sound taken is
comes_by state (Put request params) sound keyed taken None is =
    absurd (put_opens state.side (next_number state) (key_at state.source (next_number state)) request params taken.numbered is)

-- every event that is taken comes to a log that goes on
pub comes_to : (state : State) (event : Event) → IsSound state → IsKeyed event → refusal_at state event ≡ None → ComesTo state event
comes_to state event sound keyed free = comes_by state event sound keyed (taken_by state event free) (new_transaction state event) refl

-- its end does not refuse it, so the log that it makes is legal
pub comes_legal : (state : State) (event : Event) → refusal_at state event ≡ None → (came : ComesTo state event) → IsLegal (log_with came.log event)
comes_legal state event free came =
    let allowed = (taken_by state event free).allowed in
    legal_with came.log event came.legal came.goes came.place (sym (ap (λ o. refused_by_end o event) came.before) ∙ allowed)

-- ---- numbers rise

rises_by : (side : LaneSide) (user lane : ℕ) (last : Option ℕ) (key : TxnKey) (request : _) (params : _) (transaction : Transaction)
    → IsNumbered side → opened_by side key (Put request params) ≡ Some transaction → IsRisen last (Some (next_in side user lane last))
rises_by (Sending numbers greatest) user lane None key request params transaction numbered is = tt
rises_by (Sending numbers greatest) user lane (Some last) key request params transaction numbered is =
    let more : 0 < numbers.lanes * numbers.users = mul-pos numbered.0 numbered.1 in omega (arith, more)
rises_by (Receiving others) user lane last key request params transaction numbered is = absurd cc

above_risen : (number : ℕ) (last : Option ℕ) → is_above number last ≡ true → IsRisen last (Some number)
above_risen number None above = tt
above_risen number (Some last) above = ltb-true last number above

pub rises : (state : State) (event : Event) (transaction : Transaction) → IsNumbered state.side → new_transaction state event ≡ Some transaction
    → IsRisen state.last (Some (number_in state event))
rises state (Put request params) transaction numbered is =
    rises_by state.side state.user state.lane state.last (key_at state.source (next_number state)) request params transaction numbered is
rises state (On key event) transaction numbered is =
    above_risen key.seq state.last (if_some (is_above key.seq state.last) (opened_by state.side (key_at state.source key.seq) (On key event)) transaction is).0

-- ---- the lane stays sound

run_after : (last : Option ℕ) (found : Option Log) (log next : Log) → IsRun last found → found ≡ Some log → IsLegal next → IsRun last (Some next)
run_after None None log next run is legal = absurd cc
run_after None (Some other) log next run is legal = absurd run
run_after (Some number) found log next run is legal = legal

sound_by : (state : State) (event : Event) (opened : Option Transaction) (log next : Log) → IsSound state
    → (new_transaction state event ≡ opened) → log_before state opened ≡ Some log → log_of (stepped_by state event opened) ≡ Some next → IsLegal next
    → entries_of next ≡ entries_of log + 1
    → IsSound (stepped_by state event opened)
sound_by state event None log next sound is before after legal more = record {
  numbered = sound.numbered;
  run = subst (IsRun state.last) (sym after) (run_after state.last (log_of state) log next sound.run before legal);
  counted =
      length-append state.journal (event ∷ []) ∙ ap (λ n. n + 1) (sound.counted ∙ ap entries_in before) ∙ sym more ∙ sym (ap entries_in after);
  risen = sound.risen;
}
sound_by state event (Some transaction) log next sound is before after legal more = record {
  numbered = sound.numbered;
  run = subst (IsRun (Some (number_in state event))) (sym after) legal;
  counted = ap (λ n. n + 1) (sym (nothing_counted transaction) ∙ ap entries_in before) ∙ sym more ∙ sym (ap entries_in after);
  risen = rises state event transaction sound.numbered is;
}

pub stays_sound : (state : State) (event : Event) → IsSound state → IsKeyed event → refusal_at state event ≡ None → IsSound (stepped state event)
stays_sound state event sound keyed free =
    let came = comes_to state event sound keyed free in
    sound_by state event (new_transaction state event) came.log (log_with came.log event) sound refl came.before came.after (comes_legal state event free came)
    (entries_with came.log event came.place)

pub idle_sound : (side : LaneSide) (user lane : ℕ) (source : EntityId) → IsNumbered side → IsSound (idle side user lane source)
idle_sound side user lane source numbered = record { numbered = numbered; run = tt; counted = refl; risen = tt }

-- ---- what the lane keeps

over_by : (last : Option ℕ) (found : Option Log) → IsRun last found → goes_on found ≡ false → IsOver last (issued_in found)
over_by None found run over = tt
over_by (Some number) None run over = absurd run
over_by (Some number) (Some log) run over =
    word_group (side_of log) (issued log) ((lane_words log run).1 (is_true (has_ended log) over))

opens_wants : (state : State) (event : Event) → is_some (new_transaction state event) ≡ true → wants_to_open state event ≡ true
opens_wants state (Put request params) opens = refl
opens_wants state (On key event) opens = opens

sent_by : (state : State) (event : Event) (bundles : List Bundle) → IsSound state → IsTaken state event → Keeps state bundles
    → (opened : Option Transaction) → new_transaction state event ≡ opened → (log : Log) → log_before state opened ≡ Some log
    → let next = stepped_by state event opened in AreSent (end_of next.side) next.user next.lane next.source next.last next.before (issued log) bundles
sent_by state event bundles sound taken keeps None is log before =
    subst (λ told. AreSent (end_of state.side) state.user state.lane state.source state.last state.before told bundles) (ap issued_in before) keeps
sent_by state event bundles sound taken keeps (Some transaction) is log before =
    let idles : is_running state ≡ false = sym (ap (λ b. b && is_running state) (opens_wants state event (ap is_some is))) ∙ taken.free in
    subst (λ told. AreSent (end_of state.side) state.user state.lane state.source (Some (number_in state event)) state.last told bundles)
    (sym (nothing_issued transaction) ∙ ap issued (some_is (log_by transaction []) log before))
    (number_opens (end_of state.side) state.user state.lane state.source state.last state.before (issued_by state) bundles (number_in state event) keeps
    (over_by state.last (log_of state) sound.run idles) (rises state event transaction sound.numbered is))

more_if : (side : Side) (user lane : ℕ) (source : EntityId) (last before : Option ℕ) (told : List Indication) (bundles : List Bundle) (bundle : Bundle)
    → AreSent side user lane source last before told bundles
    → bundle.user ≡ user → bundle.lane ≡ lane → option_map (key_at source) last ≡ Some bundle.key → tells bundle ≡ true
    → IsBegunGroup (told ++ bundle.inds) → IsOfSide side (told ++ bundle.inds)
    → AreSent side user lane source last before (told ++ bundle.inds) (bundles ++ bundle ∷ [])
more_if side user lane source None before told bundles bundle was of_user of_lane of_key some begun of_side = absurd cc
more_if side user lane source (Some number) before told bundles bundle was of_user of_lane of_key some begun of_side =
    bundle_more side user lane source number before told bundles bundle was of_user of_lane (sym (some_is (key_at source number) bundle.key of_key)) some begun of_side

begun_by : (log : Log) (event : Event) → IsLegal (log_with log event) → HasPlace log event
    → IsBegunGroup (issued log ++ (last_answer (log_with log event)).inds)
begun_by log event legal place =
    subst IsBegunGroup (issued_with log event place)
    (begun_group (side_of (log_with log event)) (issued (log_with log event)) (lane_words (log_with log event) legal).0)

sided_by : (side : Side) (log : Log) (event : Event) → side ≡ side_of (log_with log event) → IsLegal (log_with log event) → HasPlace log event
    → IsOfSide side (issued log ++ (last_answer (log_with log event)).inds)
sided_by side log event same legal place =
    subst (IsOfSide side) (issued_with log event place)
    (subst (λ s. IsOfSide s (issued (log_with log event))) (sym same)
    (begun_side (side_of (log_with log event)) (issued (log_with log event)) (lane_words (log_with log event) legal).0))

-- an event that is taken, and tells something in one bundle
pub keeps_bundle : (state : State) (event : Event) (bundles : List Bundle) (bundle : Bundle) → IsSound state → Keeps state bundles
    → IsKeyed event → refusal_at state event ≡ None → IsBundle (stepped state event) bundle → tells bundle ≡ true
    → Keeps (stepped state event) (bundles ++ bundle ∷ [])
keeps_bundle state event bundles bundle sound keeps keyed free is some =
    let came = comes_to state event sound keyed free in
    let next : State = stepped state event in
    let inds : bundle.inds ≡ (last_answer (log_with came.log event)).inds = is.inds ∙ ap (λ o. (answer_in o).inds) came.after in
    subst (λ told. AreSent (end_of next.side) next.user next.lane next.source next.last next.before told (bundles ++ bundle ∷ []))
    (ap (λ l. issued came.log ++ l) inds ∙ sym (issued_with came.log event came.place) ∙ sym (ap issued_in came.after))
    (more_if (end_of next.side) next.user next.lane next.source next.last next.before (issued came.log) bundles bundle
    (sent_by state event bundles sound (taken_by state event free) keeps (new_transaction state event) refl came.log came.before)
    is.user is.lane is.key some
    (rw inds (begun_by came.log event (comes_legal state event free came) came.place))
    (rw inds (sided_by (end_of next.side) came.log event (log_side next.side next.source next.last next.journal (log_with came.log event) came.after)
    (comes_legal state event free came) came.place)))

-- an event that is taken, and tells nothing
pub keeps_quiet : (state : State) (event : Event) (bundles : List Bundle) → IsSound state → Keeps state bundles
    → IsKeyed event → refusal_at state event ≡ None → (answer_of (stepped state event)).inds ≡ []
    → Keeps (stepped state event) bundles
keeps_quiet state event bundles sound keeps keyed free none =
    let came = comes_to state event sound keyed free in
    let next : State = stepped state event in
    let inds : (last_answer (log_with came.log event)).inds ≡ [] = sym (ap (λ o. (answer_in o).inds) came.after) ∙ none in
    subst (λ told. AreSent (end_of next.side) next.user next.lane next.source next.last next.before told bundles)
    (sym (append-nil (issued came.log)) ∙ ap (λ l. issued came.log ++ l) (sym inds) ∙ sym (issued_with came.log event came.place) ∙ sym (ap issued_in came.after))
    (sent_by state event bundles sound (taken_by state event free) keeps (new_transaction state event) refl came.log came.before)

-- before the first event
pub idle_keeps : (side : LaneSide) (user lane : ℕ) (source : EntityId) → Keeps (idle side user lane source) []
idle_keeps side user lane source = nothing_sent (end_of side) user lane source
