use Rattle.std.specs.Prelude.{string_bytes}
use Rattle.journal_recording.proofs.StepFacts.{played_one}
use Rattle.journal_recording.proofs.script.play.Goals as goal

pub returns-clause-played : goal.returns-clause-played
returns-clause-played c = λ earlier stands.
    played_one c.args.world.now c.step.new.world c.take-taken.new.self c.args.name.now c.args.place c.args.event.now c.in_ok-given.given earlier c.in_ok-_done._done
    c.take-taken.result c.is_some.result (string_bytes c.args.text.now) (string_bytes c.push_event.new.text) (string_bytes c.push_told.new.text)
    c.in_ok-given.ensures stands (c.in_ok-_done.ensures.answered earlier stands) (c.in_ok-_done.ensures.stands earlier stands)
    c.take-taken.ensures.same c.take-taken.ensures.stands c.is_some.ensures c.in_ok-push_event.ensures.added c.in_ok-push_told.ensures
