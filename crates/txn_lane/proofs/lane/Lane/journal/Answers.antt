-- The lane is sound, so its journal keeps to its limit.
use Rattle.std.proofs.Common.{◌≡◌, ◌≤◌, List, length, sym, ap, ◌∙◌, subst}
use Rattle.cfdp_types.specs.declared.limits.TheConstants.{JOURNAL_ENTRIES}
use Rattle.txn_events.specs.declared.event.Event.{Event}
use Rattle.lane_table.proofs.LengthFacts.{keeps_to_limit}
use Rattle.txn_lane.specs.LaneCode.{lane_state, journal_of}
use Rattle.txn_lane.proofs.lane.Lane.journal.Goals as goal

pub returns-in-Some-clause-limit : goal.returns-in-Some-clause-limit
returns-in-Some-clause-limit c =
    let l = c.self.inside in
    let same : c.as_slice.result.now ≡ journal_of c.self.inside.running = c.as_slice.ensures.value ∙ sym (ap journal_of c.in-Some.is) in
    subst (λ (events : List Event). length events ≤ JOURNAL_ENTRIES) (sym same)
    (keeps_to_limit (lane_state l.side l.user l.lane l.source l.last l.before (journal_of l.running)) c.self.invariant.sound)
