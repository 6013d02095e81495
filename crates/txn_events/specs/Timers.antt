-- Of the code. How the code of either end keeps track of its timers.
use Rattle.std.specs.Prelude.{ℕ, ◌+◌, ◌≤◌, Bool, false, ◌||◌, ◌&&◌, if◌then◌else◌, List, Option, Some, None}
use Rattle.std.specs.List.{list_any}
use Rattle.cfdp_types.specs.declared.limits.TheConstants.{JOURNAL_ENTRIES}
use Rattle.cfdp_types.specs.Steps.{Effect, arms, keeps, stops}
use Rattle.cfdp_types.specs.declared.names.TimerKind.{TimerKind}
use Rattle.cfdp_types.specs.declared.names.TimerKind.TheVariants.{Ack, Nak, Check, Inactivity}
use Rattle.indications.specs.Words.{is_resumed, is_fault}
use Rattle.indications.specs.declared.indication.Indication.{Indication}
use Rattle.txn_events.specs.declared.event.What.{What}
use Rattle.txn_events.specs.Events.{is_expiration}
use Rattle.txn_events.specs.declared.timers.CountResets.{CountResets}
use Rattle.txn_events.specs.declared.timers.TimerChange as change_type
use Rattle.txn_events.specs.declared.timers.TimerChange.TheVariants as change
use Rattle.txn_events.specs.declared.timers.TimerChanges.{TimerChanges}
use Rattle.txn_events.specs.declared.timers.Stamps.{Stamps}
use Rattle.txn_events.specs.declared.timers.Tries.{Tries}

-- the effect of a change on its timer
abbrev pub effect_of_change : change_type.TimerChange → Effect
effect_of_change change.Arms = arms
effect_of_change change.Keeps = keeps
effect_of_change change.Stops = stops

-- the effect of the changes on the timer of a kind
abbrev pub effects : TimerChanges → TimerKind → Effect
effects changes Ack = effect_of_change changes.ack
effects changes Nak = effect_of_change changes.nak
effects changes Check = effect_of_change changes.check
effects changes Inactivity = effect_of_change changes.inactivity

-- the stamp of the running timer of a kind
abbrev pub stamp_of : Stamps → TimerKind → Option ℕ
stamp_of stamps Ack = stamps.ack
stamp_of stamps Nak = stamps.nak
stamp_of stamps Check = stamps.check
stamp_of stamps Inactivity = stamps.inactivity

-- how often the timer of a kind has expired
abbrev pub tries_of : Tries → TimerKind → ℕ
tries_of tries Ack = tries.ack
tries_of tries Nak = tries.nak
tries_of tries Check = tries.check
tries_of tries Inactivity = tries.inactivity

-- the stamp of a timer after a step with a stamp
abbrev pub stamp_by : ℕ → Effect → Option ℕ → Option ℕ
stamp_by stamp arms before = Some stamp
stamp_by stamp keeps before = before
stamp_by stamp stops before = None

-- whether a step begins the count again for a reason specific to its end
abbrev pub is_reset : CountResets → TimerKind → Bool
is_reset resets Ack = resets.ack
is_reset resets Nak = resets.nak
is_reset resets Check = false
is_reset resets Inactivity = false

-- how often the timer of a kind has expired after an event with these indications
abbrev pub tries_by : What → List Indication → CountResets → TimerKind → ℕ → ℕ
tries_by event inds resets kind before =
    if list_any is_resumed inds || (is_expiration kind event && list_any is_fault inds) || is_reset resets kind then 0
    else if is_expiration kind event then before + 1
    else before

-- each count is at most this number
pub record AreUpTo (most : ℕ) (tries : Tries) : Type 0 where
  pub ack : tries.ack ≤ most
  pub nak : tries.nak ≤ most
  pub check : tries.check ≤ most
  pub inactivity : tries.inactivity ≤ most

-- counts that can be incremented: no timer expired more often than there were events
pub record AreFew (events : ℕ) (counts : Tries) : Type 0 where
  pub entries : events ≤ JOURNAL_ENTRIES
  pub tries : AreUpTo events counts
