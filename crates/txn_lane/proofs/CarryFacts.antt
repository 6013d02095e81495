-- What a planned step answers, over the result of carrying it out.
use Rattle.std.proofs.Common.{◌≡◌, [], ◌∷◌, ◌++◌, OnOk, OnErr, IfOk, IfErr, IsOk, Option, Some, None, Result, Ok, Err, refl, sym, ap, ◌∙◌, subst}
use Rattle.txn_events.specs.declared.answer.Answer.{Answer}
use Rattle.txn_events.specs.declared.event.Event.{Event}
use Rattle.lane_table.specs.Logs.{Transaction, Log, log_by, first_answer, extended}
use Rattle.lane_table.proofs.LogFacts.{nothing_ended}
use Rattle.txn_lane.specs.Transactions.{StandsAfter, StandsBehind, log_at_first, IsPlanOf, plan_answer}
use Rattle.txn_lane.specs.declared.transaction.TransactionCore.{TransactionCore}
use Rattle.txn_lane.specs.declared.transaction.TransactionPlan.{TransactionPlan}
use Rattle.txn_lane.proofs.PlanFacts.{answered_planned}
use Rattle.txn_lane.specs.declared.running.Running.{Running}
use Rattle.txn_lane.specs.RunningCode.{GoesOn, IsGoing, IsUnmoved, log_of_first}

pub is_ok_of : {A E : Type 0} (r : Result A E) (answer : A) → r ≡ Ok answer → IsOk r
is_ok_of (Ok other) answer is = refl
is_ok_of (Err why) answer is = absurd cc

pub on_err : {T E : Type 0} (P : E → Type 0) (S : Type 0) (r : Result T E) → IfErr r P → ((why : E) → P why → S) → OnErr r S
on_err P S (Ok x) p f = tt
on_err P S (Err why) p f = f why p

pub both_ok : {T E : Type 0} (r : Result T E) (P Q : T → Type 0) → IfOk r P → IfOk r Q → IfOk r (λ x. P x × Q x)
both_ok (Ok x) P Q p q = (p, q)
both_ok (Err why) P Q p q = tt

pub ok_always : {T E : Type 0} (r : Result T E) (P : Type 0) → OnOk r P → IfOk r (λ x. P)
ok_always (Ok x) P p = p
ok_always (Err why) P p = tt

-- ---- the first event

-- what is planned for it is what the end answers
pub first_planned : (c : TransactionCore) (p : TransactionPlan) (opened : Option Transaction) (event : Event)
    → StandsBehind c (log_at_first opened) → IsPlanOf c p event → first_answer opened event ≡ Ok (plan_answer p)
first_planned c p None event stands planned = absurd stands
first_planned c p (Some transaction) event stands planned = answered_planned c p (log_by transaction []) event stands planned

-- nothing happened to it yet, so it goes on
pub first_goes : (running : Running) (opened : Option Transaction) → StandsBehind running.core (log_at_first opened) → IsGoing running
first_goes running None stands = absurd stands
first_goes running (Some transaction) stands = record { log = log_by transaction []; stands = stands; runs = nothing_ended transaction }

-- where it is with that event
pub first_stands : (next : TransactionCore) (opened : Option Transaction) (event : Event) (answer : Answer) (c : TransactionCore)
    → StandsBehind c (log_at_first opened) → ((log : Log) → StandsAfter c log → StandsAfter next (extended log event answer))
    → StandsBehind next (log_of_first opened event answer)
first_stands next None event answer c stands goes = stands
first_stands next (Some transaction) event answer c stands goes = goes (log_by transaction []) stands

-- ---- an event of one that goes on

-- a transaction that goes on from where another is, but for its room
pub goes_from : (old was next : Running) (event other : Event) (answer : Answer) → IsUnmoved old was → event ≡ other → GoesOn was next event answer
    → GoesOn old next other answer
goes_from old was next event other answer same is goes = record {
  stands = λ log stood. subst (λ e. StandsAfter next.core (extended log e answer)) is (goes.stands log (same.stands log stood));
  journal = goes.journal ∙ ap (λ l. l ++ event ∷ []) same.journal ∙ ap (λ e. old.journal.items ++ e ∷ []) is;
  trace = goes.trace ∙ ap (λ l. l ++ answer.inds) same.trace;
}

-- one that is the same is unmoved
pub unmoved_as : (old was next : Running) → IsUnmoved old was → next ≡ was → IsUnmoved old next
unmoved_as old was next same is = subst (IsUnmoved old) (sym is) same

-- one that is unmoved goes on
pub still_going : (old was : Running) → IsUnmoved old was → IsGoing old → IsGoing was
still_going old was same goes = record { log = goes.log; stands = same.stands goes.log goes.stands; runs = goes.runs }
