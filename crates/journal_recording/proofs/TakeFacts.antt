-- What the takes of a script give.
use Rattle.std.proofs.Common.{◌≡◌, ℕ, List, [], ◌++◌, Option, Some, sym, ap, ◌∙◌, append-nil}
use Rattle.config_reading.specs.Values.{ConfigValue}
use Rattle.entity_parts.specs.FirstLanes.{first_lane}
use Rattle.entity_routing.specs.declared.place.Place.{Place}
use Rattle.indications.specs.declared.bundle.Bundle.{Bundle}
use Rattle.indications.specs.LaneLists.{of_lane, told_of}
use Rattle.lane_table.specs.Lane.{State, issued_in, log_from}
use Rattle.txn_events.specs.declared.event.Event.{Event}
use Rattle.world_table.specs.Histories.{events_for, held_for, mine, taken_by}
use Rattle.world_table.proofs.HistoryFacts.{takes_all, tells_what_logs_tell}
use Rattle.journal_recording.specs.Recording.{IsScriptOf}
use Rattle.journal_recording.specs.Laws.{TakesAll, TakesWhatWasIssued}

pub all_taken : TakesAll
all_taken config first place journal text is =
    let lanes = first_lane is.begun in
    sym (append-nil (taken_by lanes is.history place.user))
    ∙ ap (λ (held : List Bundle). taken_by lanes is.history place.user ++ held) (sym is.none_left)
    ∙ takes_all lanes is.history place.user

pub issued_taken : TakesWhatWasIssued
issued_taken config first place journal text number is same =
    let lanes = first_lane is.begun in
    let state : State = lanes place.user place.lane in
    ap (λ (bundles : List Bundle). told_of number (of_lane place.lane bundles)) (all_taken config first place journal text is)
    ∙ tells_what_logs_tell lanes is.history place.user place.lane number is.idle is.legal
    ∙ ap (λ (events : List Event). issued_in (log_from state.side state.source (Some number) events)) same
