-- What a lane sends over a whole run, and the law on complete deliveries.
use Rattle.std.proofs.Common.{◌≡◌, ℕ, suc, ◌==◌, arith, true, not, length, List, [], ◌∷◌, ◌++◌, Option, Some, None, refl, sym, ap, ◌∙◌, subst, append_assoc}
use Rattle.std.specs.Option.{option_map}
use Rattle.std.proofs.lemmas.Bool.{ne_eqb}
use Rattle.std.proofs.lemmas.List.{append-nil}
use Rattle.cfdp_types.specs.declared.key.EntityId.{EntityId}
use Rattle.cfdp_types.specs.declared.key.TxnKey.{TxnKey}
use Rattle.indications.specs.declared.bundle.Bundle.{Bundle}
use Rattle.indications.specs.declared.indication.Indication.{Indication}
use Rattle.indications.specs.LaneLists.{IsLaneList}
use Rattle.receiver_laws.proofs.ReceptionLegal as receiver_laws
use Rattle.txn_events.specs.declared.event.Event.{Event}
use Rattle.lane_table.specs.Logs.{Transaction, Log}
use Rattle.lane_table.specs.Lane.{State, idle, key_at, key_of, log_of, IsRun, IsSound}
use Rattle.lane_table.specs.Steps.{IsKeyed, refusal_at, new_transaction, stepped_by, stepped, answer_in, answer_of}
use Rattle.lane_table.specs.Keeping.{Keeps, bundle_by, bundle_of, sent_after, AreTaken}
use Rattle.lane_table.specs.LaneLaws.{CompletesGood, SendsLaneLists, StepsKeep}
use Rattle.lane_table.proofs.StepFacts.{stays_sound, idle_sound, keeps_bundle, keeps_quiet, idle_keeps}

pub completes_good : CompletesGood
completes_good reception log condition status legal told = receiver_laws.completes_good reception log condition status legal told

-- one indication and more are some
pub tells_some : (rest : List Indication) → not (suc (length rest) == 0) ≡ true
tells_some rest = ap not (ne_eqb (suc (length rest)) 0 (λ e. omega (arith, e)))

-- one step, with its bundle or without
step_by : (state : State) (event : Event) (bundles : List Bundle) → IsSound state → Keeps state bundles → IsKeyed event → refusal_at state event ≡ None
    → (key : Option TxnKey) → key_of (stepped state event) ≡ key → (inds : List Indication) → (answer_of (stepped state event)).inds ≡ inds
    → Keeps (stepped state event) (bundles ++ bundle_by (stepped state event) key inds)
step_by state event bundles sound keeps keyed free key of_key [] told =
    subst (Keeps (stepped state event)) (sym (none_by key)) (keeps_quiet state event bundles sound keeps keyed free told)
  where
    none_by : (key : Option TxnKey) → bundles ++ bundle_by (stepped state event) key [] ≡ bundles
    none_by None = append-nil bundles
    none_by (Some key) = append-nil bundles
step_by state event bundles sound keeps keyed free (Some key) of_key (first ∷ rest) told =
    keeps_bundle state event bundles (record { user = (stepped state event).user; lane = (stepped state event).lane; key = key; inds = first ∷ rest })
    sound keeps keyed free (record { user = refl; lane = refl; key = of_key; inds = sym told }) (tells_some rest)
step_by state event bundles sound keeps keyed free None of_key (first ∷ rest) told =
    absurd (no_key (stepped state event).last (log_of (stepped state event)) (stays_sound state event sound keyed free).run of_key told)
  where
    no_key : (last : Option ℕ) (found : Option Log) → IsRun last found → option_map (key_at (stepped state event).source) last ≡ None
        → (answer_in found).inds ≡ first ∷ rest → ⊥
    no_key None None run none told = absurd cc
    no_key None (Some log) run none told = run
    no_key (Some number) found run none told = absurd cc

pub step_keeps : (state : State) (event : Event) (bundles : List Bundle) → IsSound state → Keeps state bundles → IsKeyed event → refusal_at state event ≡ None
    → Keeps (stepped state event) (bundles ++ bundle_of (stepped state event))
step_keeps state event bundles sound keeps keyed free =
    step_by state event bundles sound keeps keyed free (key_of (stepped state event)) refl (answer_of (stepped state event)).inds refl

-- a lane stays what it is
pub record IsSame (state next : State) : Type 0 where
  pub user : next.user ≡ state.user
  pub lane : next.lane ≡ state.lane
  pub source : next.source ≡ state.source

pub same_by : (state : State) (event : Event) (opened : Option Transaction) → IsSame state (stepped_by state event opened)
same_by state event None = record { user = refl; lane = refl; source = refl }
same_by state event (Some transaction) = record { user = refl; lane = refl; source = refl }

-- the lane after events that it takes, and what it has sent by then
runs_on : (user lane : ℕ) (source : EntityId) (state : State) (bundles : List Bundle) (events : List Event) → IsSound state → Keeps state bundles
    → state.user ≡ user → state.lane ≡ lane → state.source ≡ source → AreTaken state events
    → IsLaneList user lane source (bundles ++ sent_after state events)
runs_on user lane source state bundles [] sound keeps of_user of_lane of_source taken =
    subst (IsLaneList user lane source) (sym (append-nil bundles))
    (subst (λ u. IsLaneList u lane source bundles) of_user
    (subst (λ l. IsLaneList state.user l source bundles) of_lane
    (subst (λ s. IsLaneList state.user state.lane s bundles) of_source keeps.list)))
runs_on user lane source state bundles (event ∷ later) sound keeps of_user of_lane of_source taken =
    let next : State = stepped state event in
    let same : IsSame state next = same_by state event (new_transaction state event) in
    subst (IsLaneList user lane source) (append_assoc bundles (bundle_of next) (sent_after next later))
    (runs_on user lane source next (bundles ++ bundle_of next) later
    (stays_sound state event sound taken.0 taken.1) (step_keeps state event bundles sound keeps taken.0 taken.1)
    (same.user ∙ of_user) (same.lane ∙ of_lane) (same.source ∙ of_source) taken.2)

pub sends_lane_lists : SendsLaneLists
sends_lane_lists side user lane source events numbered taken =
    runs_on user lane source (idle side user lane source) [] events (idle_sound side user lane source numbered) (idle_keeps side user lane source) refl refl refl taken

pub steps_keep : StepsKeep
steps_keep state event bundles sound keeps keyed free = (stays_sound state event sound keyed free, step_keeps state event bundles sound keeps keyed free)
