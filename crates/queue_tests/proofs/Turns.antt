-- What both kinds of queue keep, turn by turn: all that was sent are transactions that are over at once.
use Rattle.std.proofs.Common.{◌≡◌, ℕ, ◌+◌, Bool, true, false, not, IsTrue, List, [], ◌∷◌, ◌++◌, Option, Some, None, IfSome, IfNone, refl, ap, sym, ◌∙◌, subst, append_assoc, arith}
use Rattle.indications.specs.declared.bundle.Bundle.{Bundle}
use Rattle.indications.specs.LaneLists.{of_lane, IsLaneList}
use Rattle.queue_rule.specs.declared.view.OutletView.{OutletView}
use Rattle.queue_rule.specs.Views.{with_sent}
use Rattle.user_queues.specs.Queue.{Queue, EndsInHeld, with_last, with_front, all_put}
use Rattle.user_queues.specs.Shared.{OutletEnd}
use Rattle.user_queues.proofs.QueueFacts.{ends_in_held, all_put-taken}
use Rattle.queue_tests.specs.Ended.{AreEnded, AllEnded}
use Rattle.queue_tests.specs.Senders.{IsOver, SendsOver, HoldsOver}
use Rattle.queue_tests.proofs.EndedLists.{may_go_on, next_ended, ended_by, next_all_ended}

pub may_send : (outlet : OutletEnd) (lane last : ℕ) (bundle : Bundle) → SendsOver outlet lane last → IsOver bundle lane (last + 1)
    → IsLaneList bundle.user bundle.lane bundle.key.source (outlet.knows.sent ++ bundle ∷ [])
may_send outlet lane last bundle sends over =
    may_go_on 0 lane (record { 0 = 1 }) last outlet.knows.sent bundle sends.ended over.0 over.1 over.2 over.3

pub sends_later : (outlet : OutletEnd) (lane last : ℕ) → SendsOver outlet lane last → SendsOver outlet lane (last + 1)
sends_later outlet lane last sends = record {
  of_user = sends.of_user;
  of_lane = sends.of_lane;
  ended = ended_by 0 lane (record { 0 = 1 }) last (last + 1) outlet.knows.sent (omega arith) sends.ended;
}

-- after an offer
pub sends_next : (old new : OutletEnd) (lane last : ℕ) (bundle : Bundle) (taken : Bool) → SendsOver old lane last → IsOver bundle lane (last + 1)
    → (IsTrue taken → new.knows ≡ with_sent old.knows bundle) → (IsTrue (not taken) → new.knows ≡ old.knows)
    → SendsOver new lane (last + 1)
sends_next old new lane last bundle true sends over more same =
    let is = more refl in record {
      of_user = ap (λ (o : OutletView). o.user) is ∙ sends.of_user;
      of_lane = ap (λ (o : OutletView). o.lane) is ∙ sends.of_lane;
      ended = subst (AreEnded 0 lane (record { 0 = 1 }) (last + 1)) (sym (ap (λ (o : OutletView). o.sent) is))
          (next_ended 0 lane (record { 0 = 1 }) last old.knows.sent bundle sends.ended over.0 over.1 over.2 over.3);
    }
sends_next old new lane last bundle false sends over more same =
    let is = same refl in
    let later = sends_later old lane last sends in record {
      of_user = ap (λ (o : OutletView). o.user) is ∙ later.of_user;
      of_lane = ap (λ (o : OutletView). o.lane) is ∙ later.of_lane;
      ended = subst (AreEnded 0 lane (record { 0 = 1 }) (last + 1)) (sym (ap (λ (o : OutletView). o.sent) is)) later.ended;
    }

pub may_put : (queue : Queue) (lane last : ℕ) (bundle : Bundle) → HoldsOver queue last → IsOver bundle lane (last + 1)
    → (bundles : List Bundle) × EndsInHeld queue lane bundles
    × IsLaneList bundle.user bundle.lane bundle.key.source (bundles ++ bundle ∷ [])
may_put queue lane last bundle holds over =
    let put : List Bundle = all_put holds.ended.0 queue in (
      of_lane lane put,
      ends_in_held queue lane holds.ended.0,
      may_go_on 0 lane (record { 0 = 1 }) last (of_lane lane put) bundle (holds.ended.1 lane) over.0 over.1 over.2 over.3,
    )

pub holds_later : (queue : Queue) (last : ℕ) → HoldsOver queue last → HoldsOver queue (last + 1)
holds_later queue last holds =
    let put : List Bundle = all_put holds.ended.0 queue in record {
      of_user = holds.of_user;
      lanes = holds.lanes;
      ended = (
        holds.ended.0,
        λ lane. ended_by 0 lane (record { 0 = 1 }) last (last + 1) (of_lane lane put) (omega arith) (holds.ended.1 lane),
      );
    }

-- after an offer
pub holds_next : (old new : Queue) (lane last : ℕ) (bundle : Bundle) (taken : Bool) → HoldsOver old last → IsOver bundle lane (last + 1)
    → (IsTrue taken → new ≡ with_last old bundle) → (IsTrue (not taken) → new ≡ old)
    → HoldsOver new (last + 1)
holds_next old new lane last bundle true holds over more same =
    let put : List Bundle = all_put holds.ended.0 old in
    subst (λ (q : Queue). HoldsOver q (last + 1)) (sym (more refl)) (record {
      of_user = holds.of_user;
      lanes = holds.lanes;
      ended = (
        holds.ended.0,
        subst (AllEnded 0 (record { 0 = 1 }) (last + 1)) (append_assoc holds.ended.0 old.held (bundle ∷ []))
            (next_all_ended 0 lane (record { 0 = 1 }) last put bundle holds.ended.1 over.0 over.1 over.2 over.3),
      );
    })
holds_next old new lane last bundle false holds over more same =
    subst (λ (q : Queue). HoldsOver q (last + 1)) (sym (same refl)) (holds_later old last holds)

-- after a take
pub holds_taken : (old new : Queue) (last : ℕ) (answer : Option Bundle) → HoldsOver old last
    → IfNone answer ((old.held ≡ []) × (new ≡ old)) → IfSome answer (λ bundle. old ≡ with_front new bundle)
    → HoldsOver new (last + 1)
holds_taken old new last None holds none front =
    subst (λ (q : Queue). HoldsOver q (last + 1)) (sym none.1) (holds_later old last holds)
holds_taken old new last (Some bundle) holds none front =
    let was = holds_later old last holds in record {
      of_user = sym (ap (λ (q : Queue). q.user) front) ∙ was.of_user;
      lanes = sym (ap (λ (q : Queue). q.lanes) front) ∙ was.lanes;
      ended = (
        was.ended.0 ++ bundle ∷ [],
        subst (AllEnded 0 (record { 0 = 1 }) (last + 1)) (sym (all_put-taken old new bundle was.ended.0 front)) was.ended.1,
      );
    }
