-- A lane's run with one event more at its end.
use Rattle.std.proofs.Common.{◌≡◌, ℕ, ◌<◌, ◌⊎◌, inl, inr, arith, Bool, true, false, if◌then◌else◌, List, [], ◌∷◌, ◌++◌, Option, Some, None, refl, sym, ap, ◌∙◌, subst, ⊎_elim, append_assoc}
use Rattle.std.proofs.lemmas.Bool.{cases_eq, ne_eqb, eq-eqb}
use Rattle.std.proofs.lemmas.List.{append-nil}
use Rattle.cfdp_types.specs.Steps.{is_stamp}
use Rattle.indications.specs.declared.bundle.Bundle.{Bundle}
use Rattle.txn_events.specs.declared.event.Event.{Event}
use Rattle.lane_table.specs.Logs.{Transaction, Log}
use Rattle.lane_table.specs.Lane.{State, idle, log_from, IsNumbered, IsRisen, IsRun, IsSound}
use Rattle.lane_table.specs.Steps.{IsKeyed, refusal_at, new_transaction, number_in, stepped_by, stepped}
use Rattle.lane_table.specs.Keeping.{Keeps, bundle_of, sent_after, AreTaken, events_of}
use Rattle.lane_table.proofs.SentFacts.{some_is}
use Rattle.lane_table.proofs.StepFacts.{rises, idle_sound, idle_keeps}
use Rattle.lane_table.proofs.RunFacts.{steps_keep}
use Rattle.world_table.specs.HistoryLaws.{IsLogged}

-- a lane after events
abbrev pub run : State → List Event → State
run state [] = state
run state (event ∷ later) = run (stepped state event) later

run_more : (state : State) (events : List Event) (event : Event) → run state (events ++ event ∷ []) ≡ stepped (run state events) event
run_more state [] event = refl
run_more state (first ∷ later) event = run_more (stepped state first) later event

sent_more : (state : State) (events : List Event) (event : Event)
    → sent_after state (events ++ event ∷ []) ≡ sent_after state events ++ bundle_of (stepped (run state events) event)
sent_more state [] event = append-nil (bundle_of (stepped state event))
sent_more state (first ∷ later) event =
    let next : State = stepped state first in
    ap (λ (l : List Bundle). bundle_of next ++ l) (sent_more next later event)
    ∙ sym (append_assoc (bundle_of next) (sent_after next later) (bundle_of (stepped (run next later) event)))

taken_more : (state : State) (events : List Event) (event : Event) → AreTaken state events → IsKeyed event
    → refusal_at (run state events) event ≡ None → AreTaken state (events ++ event ∷ [])
taken_more state [] event taken keyed free = (keyed, free, tt)
taken_more state (first ∷ later) event taken keyed free = (taken.0, taken.1, taken_more (stepped state first) later event taken.2 keyed free)

-- ---- the events of one transaction

stamp_true : (last : Option ℕ) (number : ℕ) → last ≡ Some number → is_stamp last number ≡ true
stamp_true None number is = absurd cc
stamp_true (Some l) number is = eq-eqb l number (some_is l number is)

stamp_false : (last : Option ℕ) (number : ℕ) → IsRisen last (Some number) → is_stamp last number ≡ false
stamp_false None number ahead = refl
stamp_false (Some l) number ahead = ne_eqb l number (λ (is : l ≡ number). omega (arith, ahead, is))

-- the event at the end is one of them
events_with : (number : ℕ) (state : State) (events : List Event) (event : Event) → (stepped (run state events) event).last ≡ Some number
    → events_of number state (events ++ event ∷ []) ≡ events_of number state events ++ event ∷ []
events_with number state [] event is =
    ap (λ (b : Bool). if b then event ∷ [] else []) (stamp_true (stepped state event).last number is)
events_with number state (first ∷ later) event is =
    by_test (is_stamp (stepped state first).last number) (events_of number (stepped state first) (later ++ event ∷ []))
    (events_of number (stepped state first) later) (events_with number (stepped state first) later event is)
  where
    by_test : (b : Bool) (longer shorter : List Event) → longer ≡ shorter ++ event ∷ []
        → (if b then first ∷ longer else longer) ≡ (if b then first ∷ shorter else shorter) ++ event ∷ []
    by_test true longer shorter e = ap (λ (l : List Event). first ∷ l) e
    by_test false longer shorter e = e

-- one of another transaction is none of them
events_without : (number : ℕ) (state : State) (events : List Event) (event : Event) → is_stamp (stepped (run state events) event).last number ≡ false
    → events_of number state (events ++ event ∷ []) ≡ events_of number state events
events_without number state [] event other = ap (λ (b : Bool). if b then event ∷ [] else []) other
events_without number state (first ∷ later) event other =
    ap (λ (l : List Event). if is_stamp (stepped state first).last number then first ∷ l else l) (events_without number (stepped state first) later event other)

risen_through : (last : Option ℕ) (middle number : ℕ) → IsRisen last (Some middle) → middle < number → IsRisen last (Some number)
risen_through None middle number risen less = tt
risen_through (Some l) middle number risen less = omega (arith, risen, less)

-- the last number never falls
ahead_by : (state : State) (event : Event) (number : ℕ) → IsNumbered state.side → (opened : Option Transaction) → new_transaction state event ≡ opened
    → IsRisen (stepped_by state event opened).last (Some number) → IsRisen state.last (Some number)
ahead_by state event number numbered None is ahead = ahead
ahead_by state event number numbered (Some transaction) is ahead =
    risen_through state.last (number_in state event) number (rises state event transaction numbered is) ahead

numbered_by : (state : State) (event : Event) (opened : Option Transaction) → IsNumbered state.side → IsNumbered (stepped_by state event opened).side
numbered_by state event None numbered = numbered
numbered_by state event (Some transaction) numbered = numbered

ahead_first : (number : ℕ) (state : State) (events : List Event) → IsNumbered state.side → IsRisen (run state events).last (Some number)
    → IsRisen state.last (Some number)
ahead_first number state [] numbered ahead = ahead
ahead_first number state (first ∷ later) numbered ahead =
    ahead_by state first number numbered (new_transaction state first) refl
    (ahead_first number (stepped state first) later (numbered_by state first (new_transaction state first) numbered) ahead)

-- a number that was not reached yet has none
none_ahead : (number : ℕ) (state : State) (events : List Event) → IsNumbered state.side → IsRisen (run state events).last (Some number)
    → events_of number state events ≡ []
none_ahead number state [] numbered ahead = refl
none_ahead number state (first ∷ later) numbered ahead =
    let next : State = stepped state first in
    let still : IsNumbered next.side = numbered_by state first (new_transaction state first) numbered in
    ap (λ (b : Bool). if b then first ∷ events_of number next later else events_of number next later)
    (stamp_false next.last number (ahead_first number next later still ahead))
    ∙ none_ahead number next later still ahead

-- ---- logs

-- it is the last number, or the test tells that it is not
last_or_other : (last : Option ℕ) (number : ℕ) → (last ≡ Some number) ⊎ (is_stamp last number ≡ false)
last_or_other None number = inr refl
last_or_other (Some l) number = ⊎_elim (λ (is : l ≡ number). inl (ap Some is)) (λ (other : l ≡ number → ⊥). inr (ne_eqb l number other)) (cases_eq l number)

-- the log of these events of a transaction, if there are some
abbrev pub IsLoggedAt : State → ℕ → List Event → Type 0
IsLoggedAt first number events = IsLogged events (log_from first.side first.source (Some number) events)

logged_by : (number : ℕ) (events : List Event) (found : Option Log) → IsRun (Some number) found → IsLogged events found
logged_by number [] found run = tt
logged_by number (first ∷ later) None run = absurd run
logged_by number (first ∷ later) (Some log) run = run

-- that of the last transaction is there
logged_last : (first next : State) (number : ℕ) (events : List Event) → next.side ≡ first.side → next.source ≡ first.source → IsSound next
    → next.last ≡ Some number → next.journal ≡ events → IsLoggedAt first number events
logged_last first next number events of_side of_source sound last journal =
    logged_by number events (log_from first.side first.source (Some number) events)
    (subst (λ side. IsRun (Some number) (log_from side first.source (Some number) events)) of_side
    (subst (λ source. IsRun (Some number) (log_from next.side source (Some number) events)) of_source
    (subst (λ (l : List Event). IsRun (Some number) (log_from next.side next.source (Some number) l)) journal
    (subst (λ (o : Option ℕ). IsRun o (log_from next.side next.source o next.journal)) last sound.run))))

-- ---- all of it

-- a lane stands after events from its first one on, and this is what it sent
pub record IsRunOf (first state : State) (events : List Event) (sent : List Bundle) (user lane : ℕ) : Type 0 where
  pub of_user : state.user ≡ user
  pub of_lane : state.lane ≡ lane
  pub of_side : state.side ≡ first.side
  pub of_source : state.source ≡ first.source
  pub run_is : state ≡ run first events
  pub sent_is : sent ≡ sent_after first events
  pub taken : AreTaken first events
  pub sound : IsSound state
  pub keeps : Keeps state sent
  pub journal : (number : ℕ) → state.last ≡ Some number → state.journal ≡ events_of number first events
  pub logged : (number : ℕ) → IsLoggedAt first number (events_of number first events)

pub run_first : (first : State) (user lane : ℕ) → IsNumbered first.side → first ≡ idle first.side user lane first.source → IsRunOf first first [] [] user lane
run_first first user lane numbered is = record {
  of_user = ap (λ (s : State). s.user) is;
  of_lane = ap (λ (s : State). s.lane) is;
  of_side = refl;
  of_source = refl;
  run_is = refl;
  sent_is = refl;
  taken = tt;
  sound = subst IsSound (sym is) (idle_sound first.side user lane first.source numbered);
  keeps = subst (λ s. Keeps s []) (sym is) (idle_keeps first.side user lane first.source);
  journal = λ number last. none_last number (sym (ap (λ (s : State). s.last) is) ∙ last);
  logged = λ number. tt;
}
  where
    none_last : (number : ℕ) → None ≡ Some number → first.journal ≡ []
    none_last number e = absurd cc

-- what a step leaves
record StaysIn (state next : State) : Type 0 where
  of_user : next.user ≡ state.user
  of_lane : next.lane ≡ state.lane
  of_side : next.side ≡ state.side
  of_source : next.source ≡ state.source

stays : (state : State) (event : Event) (opened : Option Transaction) → StaysIn state (stepped_by state event opened)
stays state event None = record { of_user = refl; of_lane = refl; of_side = refl; of_source = refl }
stays state event (Some transaction) = record { of_user = refl; of_lane = refl; of_side = refl; of_source = refl }

-- the journal behind the step
journal_more : (first : State) (events : List Event) (event : Event) (number : ℕ) → IsNumbered first.side → IsNumbered (run first events).side
    → ((before : ℕ) → (run first events).last ≡ Some before → (run first events).journal ≡ events_of before first events)
    → (opened : Option Transaction) → new_transaction (run first events) event ≡ opened
    → (stepped_by (run first events) event opened).last ≡ Some number
    → (stepped_by (run first events) event opened).journal ≡ events_of number first events ++ event ∷ []
journal_more first events event number numbered still journal None is last = ap (λ (l : List Event). l ++ event ∷ []) (journal number last)
journal_more first events event number numbered still journal (Some transaction) is last =
    let risen : IsRisen (run first events).last (Some (number_in (run first events) event)) = rises (run first events) event transaction still is in
    ap (λ (l : List Event). l ++ event ∷ [])
    (sym (none_ahead number first events numbered
    (subst (λ n. IsRisen (run first events).last (Some n)) (some_is (number_in (run first events) event) number last) risen)))

pub run_then : (first state : State) (events : List Event) (event : Event) (sent : List Bundle) (user lane : ℕ) → IsRunOf first state events sent user lane
    → IsNumbered first.side → IsKeyed event → refusal_at state event ≡ None
    → IsRunOf first (stepped state event) (events ++ event ∷ []) (sent ++ bundle_of (stepped state event)) user lane
run_then first state events event sent user lane was numbered keyed free =
    let stay : StaysIn state (stepped state event) = stays state event (new_transaction state event) in
    let kept = steps_keep state event sent was.sound was.keeps keyed free in
    let same : stepped state event ≡ stepped (run first events) event = ap (λ (s : State). stepped s event) was.run_is in
    let all : List Event = events ++ event ∷ [] in
    let of_side : (stepped state event).side ≡ first.side = stay.of_side ∙ was.of_side in
    let of_source : (stepped state event).source ≡ first.source = stay.of_source ∙ was.of_source in
    let journal : (number : ℕ) → (stepped state event).last ≡ Some number → (stepped state event).journal ≡ events_of number first all =
    λ number last.
    let last' : (stepped (run first events) event).last ≡ Some number = ap (λ (s : State). s.last) (sym same) ∙ last in
    ap (λ (s : State). s.journal) same
    ∙ journal_more first events event number numbered (subst (λ (s : State). IsNumbered s.side) was.run_is was.sound.numbered)
    (λ before is. ap (λ (s : State). s.journal) (sym was.run_is) ∙ was.journal before (ap (λ (s : State). s.last) was.run_is ∙ is))
    (new_transaction (run first events) event) refl last'
    ∙ sym (events_with number first events event last') in
    record {
      of_user = stay.of_user ∙ was.of_user;
      of_lane = stay.of_lane ∙ was.of_lane;
      of_side = of_side;
      of_source = of_source;
      run_is = same ∙ sym (run_more first events event);
      sent_is =
          ap (λ (l : List Bundle). l ++ bundle_of (stepped state event)) was.sent_is
          ∙ ap (λ (s : State). sent_after first events ++ bundle_of s) same ∙ sym (sent_more first events event);
      taken = taken_more first events event was.taken keyed (ap (λ (s : State). refusal_at s event) (sym was.run_is) ∙ free);
      sound = kept.0;
      keeps = kept.1;
      journal = journal;
      logged = λ number. ⊎_elim
          (λ (last : (stepped state event).last ≡ Some number).
          logged_last first (stepped state event) number (events_of number first all) of_side of_source kept.0 last (journal number last))
          (λ (other : is_stamp (stepped state event).last number ≡ false).
          subst (IsLoggedAt first number)
          (sym (events_without number first events event (ap (λ (s : State). is_stamp s.last number) (sym same) ∙ other)))
          (was.logged number))
          (last_or_other (stepped state event).last number);
    }
