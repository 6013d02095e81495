use Rattle.std.proofs.Common.{◌≡◌, ◌∙◌, ◌+◌, ◌++◌, ◌∷◌, List, [], take, sym, ap, subst}
use Rattle.std.specs.Prelude.{string_bytes}
use Rattle.std.proofs.lemmas.List.{take_all, take_more}
use Rattle.txn_events.specs.declared.event.Event.{Event}
use Rattle.journal_recording.specs.Recording.{HasPlayed}
use Rattle.journal_recording.proofs.StepFacts.{played_more}
use Rattle.journal_recording.proofs.script.play_all.Goals as goal

pub returns-clause-played : goal.returns-clause-played
returns-clause-played c = λ earlier stands.
    subst (λ (events : List Event). HasPlayed c.args.world.now.config c.args.name.now c.args.place earlier events c.loop-event.world (string_bytes c.args.text.now) (string_bytes c.loop-event.text))
    (take_all c.loop-event.event-index c.args.journal.now c.loop-event-test.false) (c.loop-event.invariant.played earlier stands)

pub loop-event-preserved : goal.loop-event-preserved
loop-event-preserved c =
    let i = c.loop-event.event-index in
    let journal = c.args.journal.now in
    let item = c.event-item.result in
    let one : take (i + 1) journal ≡ take i journal ++ item ∷ [] =
    take_more journal i item c.loop-event-test.true ∙ ap (λ (event : Event). take i journal ++ event ∷ []) (sym c.event-item.is) in
    record {
      config = c.in_ok-play.ensures.config ∙ c.loop-event.invariant.config;
      played = λ earlier stands.
          subst (λ (events : List Event). HasPlayed c.args.world.now.config c.args.name.now c.args.place earlier events c.play.new.world (string_bytes c.args.text.now) (string_bytes c.play.new.text))
          (sym one)
          (played_more c.args.world.now.config c.loop-event.world.config c.args.name.now c.args.place earlier (take i journal) item c.loop-event.world c.play.new.world
          (string_bytes c.args.text.now) (string_bytes c.loop-event.text) (string_bytes c.play.new.text) c.loop-event.invariant.config
          (c.loop-event.invariant.played earlier stands) c.in_ok-play.ensures.played);
    }
