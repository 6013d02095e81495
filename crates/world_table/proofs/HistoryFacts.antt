-- What holds of every run of an entity of one thread.
use Rattle.std.proofs.Common.{◌≡◌, ℕ, ◌==◌, ◌&&◌, Bool, true, false, if◌then◌else◌, List, [], ◌∷◌, ◌++◌, Option, Some, None, refl, sym, ap, ◌∙◌, subst, ⊎_elim, append_assoc}
use Rattle.std.proofs.lemmas.Bool.{cases_eq, ne_eqb, eq-eqb}
use Rattle.std.proofs.lemmas.List.{append-nil}
use Rattle.cfdp_types.specs.declared.key.TxnKey.{TxnKey}
use Rattle.indications.specs.declared.bundle.Bundle.{Bundle}
use Rattle.indications.specs.declared.indication.Indication.{Indication}
use Rattle.indications.specs.LaneLists.{of_lane, told_of, IsLaneList}
use Rattle.indications.proofs.LaneLemmas.{of_lane-append, of_lane-more, of_lane-other}
use Rattle.txn_events.specs.declared.event.Event.{Event}
use Rattle.lane_table.specs.Logs.{end_of}
use Rattle.lane_table.specs.Lane.{State, key_of, issued_in, log_from}
use Rattle.lane_table.specs.Steps.{stepped, answer_of}
use Rattle.lane_table.specs.Keeping.{IsOfSide, bundle_by, bundle_of, sent_after, events_of, AreTaken}
use Rattle.lane_table.proofs.RunFacts.{sends_lane_lists}
use Rattle.lane_table.proofs.IssuedFacts.{sends_what_logs_tell}
use Rattle.world_table.specs.Histories.{Happening, steps, takes, is_at, lane_after, events_at, front_of, rest_of, told_by, mine, held_for, taken_by, AreIdle, IsHistory}
use Rattle.world_table.specs.HistoryLaws.{TakesAllInOrder, TellsLaneLists, TellsWhatLogsTell, KeepsJournals, LanesKeep}
use Rattle.world_table.proofs.RunLemmas.{IsRunOf, run_first, run_then}

-- ---- which lane it is

pub is_here : (user lane : ℕ) → is_at user lane user lane ≡ true
is_here user lane = ap (λ (b : Bool). b && (lane == lane)) (eq-eqb user user refl) ∙ eq-eqb lane lane refl

and_false : (b : Bool) → (b && false) ≡ false
and_false true = refl
and_false false = refl

pub other_user : (user lane of_user of_lane : ℕ) → (user ≡ of_user → ⊥) → is_at user lane of_user of_lane ≡ false
other_user user lane of_user of_lane other = ap (λ (b : Bool). b && (lane == of_lane)) (ne_eqb user of_user other)

pub other_lane : (user lane of_user of_lane : ℕ) → (lane ≡ of_lane → ⊥) → is_at user lane of_user of_lane ≡ false
other_lane user lane of_user of_lane other =
    ap (λ (b : Bool). (user == of_user) && b) (ne_eqb lane of_lane other) ∙ and_false (user == of_user)

-- ---- where a step changes what

-- a lane that has taken an event, and what its user was told
pub lane_here : (lanes : ℕ → ℕ → State) (earlier : List Happening) (user lane : ℕ) (event : Event)
    → lane_after lanes (steps user lane event ∷ earlier) user lane ≡ stepped (lane_after lanes earlier user lane) event
lane_here lanes earlier user lane event =
    ap (λ (b : Bool). if b then stepped (lane_after lanes earlier user lane) event else lane_after lanes earlier user lane) (is_here user lane)

pub lane_beside : (lanes : ℕ → ℕ → State) (earlier : List Happening) (user lane : ℕ) (event : Event) (of_user of_lane : ℕ)
    → is_at user lane of_user of_lane ≡ false → lane_after lanes (steps user lane event ∷ earlier) of_user of_lane ≡ lane_after lanes earlier of_user of_lane
lane_beside lanes earlier user lane event of_user of_lane other =
    ap (λ (b : Bool). if b then stepped (lane_after lanes earlier user lane) event else lane_after lanes earlier of_user of_lane) other

events_here : (earlier : List Happening) (user lane : ℕ) (event : Event)
    → events_at (steps user lane event ∷ earlier) user lane ≡ events_at earlier user lane ++ event ∷ []
events_here earlier user lane event =
    ap (λ (b : Bool). if b then events_at earlier user lane ++ event ∷ [] else events_at earlier user lane) (is_here user lane)

events_beside : (earlier : List Happening) (user lane : ℕ) (event : Event) (of_user of_lane : ℕ)
    → is_at user lane of_user of_lane ≡ false → events_at (steps user lane event ∷ earlier) of_user of_lane ≡ events_at earlier of_user of_lane
events_beside earlier user lane event of_user of_lane other =
    ap (λ (b : Bool). if b then events_at earlier of_user of_lane ++ event ∷ [] else events_at earlier of_user of_lane) other

pub mine_here : (lanes : ℕ → ℕ → State) (earlier : List Happening) (user lane : ℕ) (event : Event)
    → mine lanes (steps user lane event ∷ earlier) user ≡ mine lanes earlier user ++ told_by lanes earlier user lane event
mine_here lanes earlier user lane event =
    ap (λ (b : Bool). if b then mine lanes earlier user ++ told_by lanes earlier user lane event else mine lanes earlier user) (eq-eqb user user refl)

pub mine_beside : (lanes : ℕ → ℕ → State) (earlier : List Happening) (user lane : ℕ) (event : Event) (of_user : ℕ) → (user ≡ of_user → ⊥)
    → mine lanes (steps user lane event ∷ earlier) of_user ≡ mine lanes earlier of_user
mine_beside lanes earlier user lane event of_user other =
    ap (λ (b : Bool). if b then mine lanes earlier of_user ++ told_by lanes earlier user lane event else mine lanes earlier of_user)
    (ne_eqb user of_user other)

-- ---- a bundle is its lane's

pub bundle_here : (state : State) (lane : ℕ) (key : Option TxnKey) (inds : List Indication) → state.lane ≡ lane
    → of_lane lane (bundle_by state key inds) ≡ bundle_by state key inds
bundle_here state lane None inds is = refl
bundle_here state lane (Some key) [] is = refl
bundle_here state lane (Some key) (first ∷ rest) is =
    of_lane-more lane [] (record { user = state.user; lane = state.lane; key = key; inds = first ∷ rest }) is

bundle_beside : (state : State) (lane : ℕ) (key : Option TxnKey) (inds : List Indication) → (state.lane ≡ lane → ⊥)
    → of_lane lane (bundle_by state key inds) ≡ []
bundle_beside state lane None inds other = refl
bundle_beside state lane (Some key) [] other = refl
bundle_beside state lane (Some key) (first ∷ rest) other =
    of_lane-other lane [] (record { user = state.user; lane = state.lane; key = key; inds = first ∷ rest }) other

-- ---- every lane's run

-- what a history makes of a lane
abbrev pub IsRunIn : (ℕ → ℕ → State) → List Happening → ℕ → ℕ → Type 0
IsRunIn lanes history user lane =
    IsRunOf (lanes user lane) (lane_after lanes history user lane) (events_at history user lane) (of_lane lane (mine lanes history user)) user lane

-- a run whose last state, events and bundles are told in other words is that run
same_run : (first : State) (user lane : ℕ) (state state' : State) (events events' : List Event) (sent sent' : List Bundle)
    → state' ≡ state → events' ≡ events → sent' ≡ sent → IsRunOf first state events sent user lane → IsRunOf first state' events' sent' user lane
same_run first user lane state state' events events' sent sent' of_state of_events of_sent was =
    subst (λ s. IsRunOf first s events' sent' user lane) (sym of_state)
    (subst (λ e. IsRunOf first state e sent' user lane) (sym of_events)
    (subst (λ b. IsRunOf first state events b user lane) (sym of_sent) was))

run_here : (lanes : ℕ → ℕ → State) (earlier : List Happening) (user lane : ℕ) (event : Event) → AreIdle lanes
    → IsHistory lanes (steps user lane event ∷ earlier) → IsRunIn lanes earlier user lane → IsRunIn lanes (steps user lane event ∷ earlier) user lane
run_here lanes earlier user lane event idle legal was =
    let state : State = lane_after lanes earlier user lane in
    let longer = run_then (lanes user lane) state (events_at earlier user lane) event (of_lane lane (mine lanes earlier user)) user lane was
    (idle.numbered user lane) legal.0 legal.1 in
    same_run (lanes user lane) user lane (stepped state event) _ (events_at earlier user lane ++ event ∷ []) _
    (of_lane lane (mine lanes earlier user) ++ bundle_of (stepped state event)) _
    (lane_here lanes earlier user lane event) (events_here earlier user lane event)
    (ap (of_lane lane) (mine_here lanes earlier user lane event)
    ∙ of_lane-append lane (mine lanes earlier user) (bundle_of (stepped state event))
    ∙ ap (λ l. of_lane lane (mine lanes earlier user) ++ l)
    (bundle_here (stepped state event) lane (key_of (stepped state event)) (answer_of (stepped state event)).inds longer.of_lane))
    longer

-- another lane of the same user
run_beside : (lanes : ℕ → ℕ → State) (earlier : List Happening) (user lane : ℕ) (event : Event) (other : ℕ) → AreIdle lanes
    → IsHistory lanes (steps user lane event ∷ earlier) → IsRunIn lanes earlier user lane → (lane ≡ other → ⊥)
    → IsRunIn lanes earlier user other → IsRunIn lanes (steps user lane event ∷ earlier) user other
run_beside lanes earlier user lane event other idle legal stepping apart was =
    let state : State = lane_after lanes earlier user lane in
    let longer = run_then (lanes user lane) state (events_at earlier user lane) event (of_lane lane (mine lanes earlier user)) user lane stepping
    (idle.numbered user lane) legal.0 legal.1 in
    let beside = other_lane user lane user other apart in
    same_run (lanes user other) user other (lane_after lanes earlier user other) _ (events_at earlier user other) _ (of_lane other (mine lanes earlier user)) _
    (lane_beside lanes earlier user lane event user other beside) (events_beside earlier user lane event user other beside)
    (ap (of_lane other) (mine_here lanes earlier user lane event)
    ∙ of_lane-append other (mine lanes earlier user) (bundle_of (stepped state event))
    ∙ ap (λ l. of_lane other (mine lanes earlier user) ++ l)
    (bundle_beside (stepped state event) other (key_of (stepped state event)) (answer_of (stepped state event)).inds
    (λ (e : (stepped state event).lane ≡ other). apart (sym longer.of_lane ∙ e)))
    ∙ append-nil (of_lane other (mine lanes earlier user)))
    was

-- a lane of another user
run_away : (lanes : ℕ → ℕ → State) (earlier : List Happening) (user lane : ℕ) (event : Event) (of_user of_lane' : ℕ) → (user ≡ of_user → ⊥)
    → IsRunIn lanes earlier of_user of_lane' → IsRunIn lanes (steps user lane event ∷ earlier) of_user of_lane'
run_away lanes earlier user lane event of_user of_lane' apart was =
    let away = other_user user lane of_user of_lane' apart in
    same_run (lanes of_user of_lane') of_user of_lane' (lane_after lanes earlier of_user of_lane') _ (events_at earlier of_user of_lane') _
    (of_lane of_lane' (mine lanes earlier of_user)) _
    (lane_beside lanes earlier user lane event of_user of_lane' away) (events_beside earlier user lane event of_user of_lane' away)
    (ap (of_lane of_lane') (mine_beside lanes earlier user lane event of_user apart)) was

pub runs : (lanes : ℕ → ℕ → State) (history : List Happening) (user lane : ℕ) → AreIdle lanes → IsHistory lanes history → IsRunIn lanes history user lane
runs lanes [] user lane idle legal = run_first (lanes user lane) user lane (idle.numbered user lane) (idle.idle_is user lane)
runs lanes (takes taker ∷ earlier) user lane idle legal = runs lanes earlier user lane idle legal.1
runs lanes (steps stepper at event ∷ earlier) user lane idle legal =
    let was = runs lanes earlier user lane idle legal.2 in
    let stepping = runs lanes earlier stepper at idle legal.2 in
    ⊎_elim
    (λ (this : stepper ≡ user).
    ⊎_elim
    (λ (here : at ≡ lane).
    subst (λ u. IsRunIn lanes (steps stepper at event ∷ earlier) u lane) this
    (subst (λ l. IsRunIn lanes (steps stepper at event ∷ earlier) stepper l) here (run_here lanes earlier stepper at event idle legal stepping)))
    (λ (beside : at ≡ lane → ⊥).
    subst (λ u. IsRunIn lanes (steps stepper at event ∷ earlier) u lane) this
    (run_beside lanes earlier stepper at event lane idle legal stepping beside (subst (λ u. IsRunIn lanes earlier u lane) (sym this) was)))
    (cases_eq at lane))
    (λ (away : stepper ≡ user → ⊥). run_away lanes earlier stepper at event user lane away was)
    (cases_eq stepper user)

-- ---- the laws

front_and_rest : (bundles : List Bundle) → front_of bundles ++ rest_of bundles ≡ bundles
front_and_rest [] = refl
front_and_rest (bundle ∷ rest) = refl

step_behind : (taken held told all : List Bundle) (b : Bool) → taken ++ held ≡ all
    → taken ++ (if b then held ++ told else held) ≡ (if b then all ++ told else all)
step_behind taken held told all true is = sym (append_assoc taken held told) ∙ ap (λ (l : List Bundle). l ++ told) is
step_behind taken held told all false is = is

take_behind : (taken held all : List Bundle) (b : Bool) → taken ++ held ≡ all
    → (if b then taken ++ front_of held else taken) ++ (if b then rest_of held else held) ≡ all
take_behind taken held all true is =
    append_assoc taken (front_of held) (rest_of held) ∙ ap (λ (l : List Bundle). taken ++ l) (front_and_rest held) ∙ is
take_behind taken held all false is = is

pub takes_all : TakesAllInOrder
takes_all lanes [] user = refl
takes_all lanes (steps stepper at event ∷ earlier) user =
    step_behind (taken_by lanes earlier user) (held_for lanes earlier user) (told_by lanes earlier stepper at event) (mine lanes earlier user)
    (stepper == user) (takes_all lanes earlier user)
takes_all lanes (takes taker ∷ earlier) user =
    take_behind (taken_by lanes earlier user) (held_for lanes earlier user) (mine lanes earlier user) (taker == user) (takes_all lanes earlier user)

pub lanes_keep : LanesKeep
lanes_keep lanes history user lane idle legal = (runs lanes history user lane idle legal).keeps

pub keeps_journals : KeepsJournals
keeps_journals lanes history user lane number idle legal last = (runs lanes history user lane idle legal).journal number last

pub tells_what_logs_tell : TellsWhatLogsTell
tells_what_logs_tell lanes history user lane number idle legal =
    let run = runs lanes history user lane idle legal in
    let first : State = lanes user lane in
    let events : List Event = events_at history user lane in
    let told = sends_what_logs_tell first.side user lane first.source events number (idle.numbered user lane)
    (subst (λ s. AreTaken s events) (idle.idle_is user lane) run.taken) in
    ap (told_of number) run.sent_is ∙ ap (λ (s : State). told_of number (sent_after s events)) (idle.idle_is user lane) ∙ told
    ∙ ap (λ (s : State). issued_in (log_from first.side first.source (Some number) (events_of number s events))) (sym (idle.idle_is user lane))

pub tells_lane_lists : TellsLaneLists
tells_lane_lists lanes history user lane idle legal =
    let run = runs lanes history user lane idle legal in
    let first : State = lanes user lane in
    let events : List Event = events_at history user lane in (
      subst (IsLaneList user lane first.source) (ap (λ (s : State). sent_after s events) (sym (idle.idle_is user lane)) ∙ sym run.sent_is)
          (sends_lane_lists first.side user lane first.source events (idle.numbered user lane) (subst (λ s. AreTaken s events) (idle.idle_is user lane) run.taken)),
      subst (λ side. (number : ℕ) → IsOfSide (end_of side) (told_of number (of_lane lane (mine lanes history user)))) run.of_side run.keeps.sided,
    )
