-- Over a whole run of a lane, what was sent of each transaction is what the log of its events tells.
use Rattle.std.proofs.Common.{◌≡◌, ℕ, ◌<◌, ◌≤◌, arith, Bool, true, false, if◌then◌else◌, List, [], ◌∷◌, ◌++◌, Option, Some, None, refl, sym, ap, ◌∙◌, subst, ⊎_elim, append_assoc}
use Rattle.std.specs.Option.{option_map}
use Rattle.std.proofs.lemmas.Bool.{cases_eq, cases_lt, ne_eqb, eq-eqb}
use Rattle.std.proofs.lemmas.List.{append-nil}
use Rattle.cfdp_types.specs.Steps.{is_stamp}
use Rattle.indications.specs.declared.indication.Indication.{Indication}
use Rattle.indications.specs.LaneLists.{told_of}
use Rattle.indications.proofs.LaneLemmas.{told_of-append, told_of-more, told_of-other}
use Rattle.txn_events.specs.declared.event.Event.{Event}
use Rattle.lane_table.specs.Logs.{Transaction, issued}
use Rattle.lane_table.specs.Lane.{State, idle, key_at, log_from, issued_in, issued_by, IsRisen, IsSound}
use Rattle.lane_table.specs.Steps.{IsKeyed, refusal_at, new_transaction, log_before, number_in, stepped_by, stepped, answer_in, answer_of}
use Rattle.lane_table.specs.Keeping.{bundle_by, bundle_of, sent_after, events_of, AreTaken}
use Rattle.lane_table.specs.LaneLaws.{SendsWhatLogsTell}
use Rattle.lane_table.proofs.LogFacts.{issued_with, nothing_issued}
use Rattle.lane_table.proofs.SentFacts.{some_is}
use Rattle.lane_table.proofs.StepFacts.{ComesTo, comes_to, rises, stays_sound, idle_sound}

-- ---- what a step tells of a transaction

-- the last number is this one
abbrev pub IsLast : Option ℕ → ℕ → Type 0
IsLast last number = last ≡ Some number

told_by : (next : State) (number : ℕ) (last : Option ℕ) (inds : List Indication) → last ≡ Some number
    → told_of number (bundle_by next (option_map (key_at next.source) last) inds) ≡ inds
told_by next number None inds is = absurd cc
told_by next number (Some l) [] is = refl
told_by next number (Some l) (first ∷ rest) is =
    told_of-more number [] (record { user = next.user; lane = next.lane; key = key_at next.source l; inds = first ∷ rest }) (some_is l number is)

told_not : (next : State) (number : ℕ) (last : Option ℕ) (inds : List Indication) → (last ≡ Some number → ⊥)
    → told_of number (bundle_by next (option_map (key_at next.source) last) inds) ≡ []
told_not next number None inds other = refl
told_not next number (Some l) [] other = refl
told_not next number (Some l) (first ∷ rest) other =
    told_of-other number [] (record { user = next.user; lane = next.lane; key = key_at next.source l; inds = first ∷ rest })
    (λ (is : l ≡ number). other (ap Some is))

-- of this transaction
of_last : (state : State) (number : ℕ) → state.last ≡ Some number → told_of number (bundle_of state) ≡ (answer_of state).inds
of_last state number is = told_by state number state.last (answer_of state).inds is

-- of another one
of_other : (state : State) (number : ℕ) → (state.last ≡ Some number → ⊥) → told_of number (bundle_of state) ≡ []
of_other state number other = told_not state number state.last (answer_of state).inds other

stamp_of_last : (last : Option ℕ) (number : ℕ) → last ≡ Some number → is_stamp last number ≡ true
stamp_of_last None number is = absurd cc
stamp_of_last (Some l) number is = eq-eqb l number (some_is l number is)

stamp_of_other : (last : Option ℕ) (number : ℕ) → (last ≡ Some number → ⊥) → is_stamp last number ≡ false
stamp_of_other None number other = refl
stamp_of_other (Some l) number other = ne_eqb l number (λ (is : l ≡ number). other (ap Some is))

-- what is sent and which events there are, over one event more
sent_more : (number : ℕ) (state : State) (event : Event) (later : List Event)
    → told_of number (sent_after state (event ∷ later))
    ≡ told_of number (bundle_of (stepped state event)) ++ told_of number (sent_after (stepped state event) later)
sent_more number state event later = told_of-append number (bundle_of (stepped state event)) (sent_after (stepped state event) later)

events_with : (number : ℕ) (state : State) (event : Event) (later : List Event) → (stepped state event).last ≡ Some number
    → events_of number state (event ∷ later) ≡ event ∷ events_of number (stepped state event) later
events_with number state event later is =
    ap (λ (b : Bool). if b then event ∷ events_of number (stepped state event) later else events_of number (stepped state event) later)
    (stamp_of_last (stepped state event).last number is)

events_without : (number : ℕ) (state : State) (event : Event) (later : List Event) → ((stepped state event).last ≡ Some number → ⊥)
    → events_of number state (event ∷ later) ≡ events_of number (stepped state event) later
events_without number state event later other =
    ap (λ (b : Bool). if b then event ∷ events_of number (stepped state event) later else events_of number (stepped state event) later)
    (stamp_of_other (stepped state event).last number other)

-- ---- a transaction that is over

-- the last number is above this one
abbrev pub IsPassed : Option ℕ → ℕ → Type 0
IsPassed None number = ⊥
IsPassed (Some last) number = number < last

passed_other : (last : Option ℕ) (number : ℕ) → IsPassed last number → last ≡ Some number → ⊥
passed_other None number passed is = passed
passed_other (Some last) number passed is = let same = some_is last number is in omega (arith, passed, same)

passed_on : (last : Option ℕ) (number next : ℕ) → IsPassed last number → IsRisen last (Some next) → number < next
passed_on None number next passed risen = absurd passed
passed_on (Some last) number next passed risen = omega (arith, passed, risen)

-- the last number never falls
passed_then : (state : State) (event : Event) (number : ℕ) → IsSound state → IsPassed state.last number
    → (opened : Option Transaction) → new_transaction state event ≡ opened → IsPassed (stepped_by state event opened).last number
passed_then state event number sound passed None is = passed
passed_then state event number sound passed (Some transaction) is =
    passed_on state.last number (number_in state event) passed (rises state event transaction sound.numbered is)

over_runs : (number : ℕ) (state : State) (events : List Event) → IsSound state → AreTaken state events → IsPassed state.last number
    → (told_of number (sent_after state events) ≡ []) × (events_of number state events ≡ [])
over_runs number state [] sound taken passed = (refl, refl)
over_runs number state (event ∷ later) sound taken passed =
    let next : State = stepped state event in
    let past : IsPassed next.last number = passed_then state event number sound passed (new_transaction state event) refl in
    let other = passed_other next.last number past in
    let rest = over_runs number next later (stays_sound state event sound taken.0 taken.1) taken.2 past in (
      sent_more number state event later ∙ ap (λ l. l ++ told_of number (sent_after next later)) (of_other next number other) ∙ rest.0,
      events_without number state event later other ∙ rest.1,
    )

-- ---- the transaction that runs

-- what was told of it with the step
told_then : (state : State) (event : Event) → IsSound state → IsKeyed event → refusal_at state event ≡ None
    → issued_in (log_before state (new_transaction state event)) ++ (answer_of (stepped state event)).inds ≡ issued_by (stepped state event)
told_then state event sound keyed free =
    let came : ComesTo state event = comes_to state event sound keyed free in
    ap (λ o. issued_in o ++ (answer_of (stepped state event)).inds) came.before
    ∙ ap (λ o. issued came.log ++ (answer_in o).inds) came.after
    ∙ sym (issued_with came.log event came.place) ∙ sym (ap issued_in came.after)

abbrev pub log_with_later : State → ℕ → List Event → List Event → List Indication
log_with_later state number journal later = issued_in (log_from state.side state.source (Some number) (journal ++ later))

-- what is shown of a transaction that runs, over these events
abbrev pub LastRuns : ℕ → List Event → Type 0
LastRuns number events = (state : State) → IsSound state → AreTaken state events → state.last ≡ Some number
    → issued_by state ++ told_of number (sent_after state events) ≡ log_with_later state number state.journal (events_of number state events)

last_step : (number : ℕ) (state : State) (event : Event) (later : List Event) → LastRuns number later
    → IsSound state → AreTaken state (event ∷ later) → state.last ≡ Some number
    → (opened : Option Transaction) → new_transaction state event ≡ opened
    → issued_by state ++ told_of number (sent_after state (event ∷ later))
    ≡ log_with_later state number state.journal (events_of number state (event ∷ later))
last_step number state event later runs sound taken is None none =
    let next : State = stepped state event in
    let same : next ≡ stepped_by state event None = ap (stepped_by state event) none in
    let last : next.last ≡ Some number = ap (λ (s : State). s.last) same ∙ is in
    let rest = runs next (stays_sound state event sound taken.0 taken.1) taken.2 last in
    ap (λ l. issued_by state ++ l) (sent_more number state event later ∙ ap (λ l. l ++ told_of number (sent_after next later)) (of_last next number last))
    ∙ sym (append_assoc (issued_by state) (answer_of next).inds (told_of number (sent_after next later)))
    ∙ ap (λ o. (issued_in o ++ (answer_of next).inds) ++ told_of number (sent_after next later)) (sym (ap (log_before state) none))
    ∙ ap (λ l. l ++ told_of number (sent_after next later)) (told_then state event sound taken.0 taken.1)
    ∙ rest
    ∙ ap (λ s. log_with_later s number s.journal (events_of number next later)) same
    ∙ ap (λ j. issued_in (log_from state.side state.source (Some number) j)) (append_assoc state.journal (event ∷ []) (events_of number next later))
    ∙ ap (log_with_later state number state.journal) (sym (events_with number state event later last))
last_step number state event later runs sound taken is (Some transaction) found =
    let next : State = stepped state event in
    let risen : IsRisen state.last (Some (number_in state event)) = rises state event transaction sound.numbered found in
    let at : next.last ≡ Some (number_in state event) = ap (λ o. (stepped_by state event o).last) found in
    let passed : IsPassed next.last number =
    subst (λ o. IsPassed o number) (sym at) (above number state.last (number_in state event) is risen) in
    let other = passed_other next.last number passed in
    let rest = over_runs number next later (stays_sound state event sound taken.0 taken.1) taken.2 passed in
    ap (λ l. issued_by state ++ l)
    (sent_more number state event later ∙ ap (λ l. l ++ told_of number (sent_after next later)) (of_other next number other) ∙ rest.0)
    ∙ append-nil (issued_by state) ∙ ap (λ o. issued_in (log_from state.side state.source o state.journal)) is
    ∙ ap (λ j. issued_in (log_from state.side state.source (Some number) j)) (sym (append-nil state.journal))
    ∙ ap (log_with_later state number state.journal) (sym (events_without number state event later other ∙ rest.1))
  where
    above : (number : ℕ) (last : Option ℕ) (next : ℕ) → last ≡ Some number → IsRisen last (Some next) → number < next
    above number None next is risen = absurd cc
    above number (Some l) next is risen = let same = some_is l number is in omega (arith, risen, same)

last_runs : (number : ℕ) (events : List Event) → LastRuns number events
last_runs number [] state sound taken is =
    append-nil (issued_by state) ∙ ap (λ o. issued_in (log_from state.side state.source o state.journal)) is
    ∙ ap (λ j. issued_in (log_from state.side state.source (Some number) j)) (sym (append-nil state.journal))
last_runs number (event ∷ later) state sound taken is =
    last_step number state event later (last_runs number later) sound taken is (new_transaction state event) refl

-- ---- one that is still to come

-- this one is above the last number
abbrev pub IsAhead : Option ℕ → ℕ → Type 0
IsAhead last number = IsRisen last (Some number)

ahead_other : (last : Option ℕ) (number : ℕ) → IsAhead last number → last ≡ Some number → ⊥
ahead_other None number ahead is = absurd cc
ahead_other (Some last) number ahead is = let same = some_is last number is in omega (arith, ahead, same)

-- what is shown of a transaction that is still to come, over these events
abbrev pub AheadRuns : ℕ → List Event → Type 0
AheadRuns number events = (state : State) → IsSound state → AreTaken state events → IsAhead state.last number
    → told_of number (sent_after state events) ≡ log_with_later state number [] (events_of number state events)

-- it was passed over
ahead_past : (number : ℕ) (state : State) (event : Event) (later : List Event) → IsSound state → AreTaken state (event ∷ later)
    → IsPassed (stepped state event).last number
    → told_of number (sent_after state (event ∷ later)) ≡ log_with_later state number [] (events_of number state (event ∷ later))
ahead_past number state event later sound taken passed =
    let next : State = stepped state event in
    let other = passed_other next.last number passed in
    let rest = over_runs number next later (stays_sound state event sound taken.0 taken.1) taken.2 passed in
    sent_more number state event later ∙ ap (λ l. l ++ told_of number (sent_after next later)) (of_other next number other) ∙ rest.0
    ∙ ap (log_with_later state number []) (sym (events_without number state event later other ∙ rest.1))

-- it is still to come after the event
ahead_still : (number : ℕ) (state : State) (event : Event) (later : List Event) → AheadRuns number later → IsSound state
    → AreTaken state (event ∷ later) → IsAhead (stepped state event).last number
    → told_of number (sent_after state (event ∷ later)) ≡ log_with_later state number [] (events_of number state (event ∷ later))
ahead_still number state event later runs sound taken ahead =
    let next : State = stepped state event in
    let other = ahead_other next.last number ahead in
    let rest = runs next (stays_sound state event sound taken.0 taken.1) taken.2 ahead in
    sent_more number state event later ∙ ap (λ l. l ++ told_of number (sent_after next later)) (of_other next number other) ∙ rest
    ∙ same_lane state event (new_transaction state event) number (events_of number next later)
    ∙ ap (log_with_later state number []) (sym (events_without number state event later other))
  where
    same_lane : (state : State) (event : Event) (opened : Option Transaction) (number : ℕ) (events : List Event)
        → log_with_later (stepped_by state event opened) number [] events ≡ log_with_later state number [] events
    same_lane state event None number events = refl
    same_lane state event (Some transaction) number events = refl

-- the event opens it
ahead_here : (number : ℕ) (state : State) (event : Event) (later : List Event) → IsSound state → AreTaken state (event ∷ later)
    → (transaction : Transaction) → new_transaction state event ≡ Some transaction → number_in state event ≡ number
    → told_of number (sent_after state (event ∷ later)) ≡ log_with_later state number [] (events_of number state (event ∷ later))
ahead_here number state event later sound taken transaction found this =
    let next : State = stepped state event in
    let same : next ≡ stepped_by state event (Some transaction) = ap (stepped_by state event) found in
    let last : next.last ≡ Some number = ap (λ (s : State). s.last) same ∙ ap Some this in
    let rest = last_runs number later next (stays_sound state event sound taken.0 taken.1) taken.2 last in
    let told : (answer_of next).inds ≡ issued_by next =
    ap (λ l. l ++ (answer_of next).inds) (sym (ap (λ o. issued_in (log_before state o)) found ∙ nothing_issued transaction))
    ∙ told_then state event sound taken.0 taken.1 in
    sent_more number state event later
    ∙ ap (λ l. l ++ told_of number (sent_after next later)) (of_last next number last ∙ told)
    ∙ rest
    ∙ ap (λ s. log_with_later s number s.journal (events_of number next later)) same
    ∙ ap (log_with_later state number []) (sym (events_with number state event later last))

ahead_step : (number : ℕ) (state : State) (event : Event) (later : List Event) → AheadRuns number later → IsSound state
    → AreTaken state (event ∷ later) → IsAhead state.last number
    → (opened : Option Transaction) → new_transaction state event ≡ opened
    → told_of number (sent_after state (event ∷ later)) ≡ log_with_later state number [] (events_of number state (event ∷ later))
ahead_step number state event later runs sound taken ahead None none =
    ahead_still number state event later runs sound taken (subst (λ o. IsAhead (stepped_by state event o).last number) (sym none) ahead)
ahead_step number state event later runs sound taken ahead (Some transaction) found =
    let at : (stepped state event).last ≡ Some (number_in state event) = ap (λ o. (stepped_by state event o).last) found in
    ⊎_elim
    (λ (this : number_in state event ≡ number). ahead_here number state event later sound taken transaction found this)
    (λ (other : number_in state event ≡ number → ⊥).
    ⊎_elim
    (λ (less : number < number_in state event).
    ahead_past number state event later sound taken (subst (λ o. IsPassed o number) (sym at) less))
    (λ (at_most : number_in state event ≤ number).
    ahead_still number state event later runs sound taken (subst (λ o. IsAhead o number) (sym at) (below (number_in state event) number at_most other)))
    (cases_lt number (number_in state event)))
    (cases_eq (number_in state event) number)
  where
    below : (a b : ℕ) → a ≤ b → (a ≡ b → ⊥) → a < b
    below a b at_most other = omega (arith, at_most, other)

ahead_runs : (number : ℕ) (events : List Event) → AheadRuns number events
ahead_runs number [] state sound taken ahead = refl
ahead_runs number (event ∷ later) state sound taken ahead =
    ahead_step number state event later (ahead_runs number later) sound taken ahead (new_transaction state event) refl

pub sends_what_logs_tell : SendsWhatLogsTell
sends_what_logs_tell side user lane source events number numbered taken =
    ahead_runs number events (idle side user lane source) (idle_sound side user lane source numbered) taken tt
