-- An event that was passed on by a session with other timers, and one after which a timer went back.
use Rattle.std.specs.Prelude.{◌≡◌, ℕ, List, Option}
use Rattle.std.proofs.Common.{subst, sym, ap, ◌∙◌}
use Rattle.entity_routing.specs.declared.world_event.WorldEvent.{WorldEvent}
use Rattle.timer_list.specs.declared.armed.Armed.{Armed}
use Rattle.cfdp_session.specs.declared.kept.KeptTimers.{KeptTimers}
use Rattle.cfdp_session.specs.Running.{waiting}
use Rattle.cfdp_session.specs.declared.session.Session.{Session}
use Rattle.cfdp_session.specs.Steps.{IsTold}

module _ (event : WorldEvent) (clock : Option ℕ) (before : List Armed) (new : Session) where
  same_but_timers : (old : Session) (timers : KeptTimers) → IsTold (record old { timers = timers }) event clock before new → IsTold old event clock before new
  same_but_timers old timers told = record {
    result = told.result;
    kept = told.kept;
    answered = told.answered;
    stands = told.stands;
    config = told.config;
    same = told.same;
    turns = told.turns;
    waiting = told.waiting;
    clock = told.clock;
    left = told.left;
    others = told.others;
  }

  pub told_of : (old mid : Session) → mid ≡ record old { timers = mid.timers } → IsTold mid event clock before new → IsTold old event clock before new
  told_of old mid same told = same_but_timers old mid.timers (subst (λ (s : Session). IsTold s event clock before new) same told)

-- the timers after the event are others, with the same clock and with nothing done
pub told_with : (event : WorldEvent) (clock : Option ℕ) (old mid : Session) (before after : List Armed) (timers : KeptTimers)
    → IsTold old event clock before mid → waiting timers ≡ after → timers.clock ≡ mid.timers.clock → timers.carried ≡ mid.timers.carried
    → IsTold old event clock after (record mid { timers = timers })
told_with event clock old mid before after timers told wait same done = record {
  result = told.result;
  kept = told.kept;
  answered = told.answered;
  stands = told.stands;
  config = told.config;
  same = told.same;
  turns = told.turns;
  waiting = wait;
  clock = same ∙ told.clock;
  left = done ∙ told.left;
  others = ap (λ (s : Session). record s { timers = timers }) told.others;
}
