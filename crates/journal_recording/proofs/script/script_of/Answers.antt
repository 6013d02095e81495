use Rattle.std.proofs.Common.{[], ◌∙◌, sym}
use Rattle.std.specs.Prelude.{string_bytes}
use Rattle.journal_recording.proofs.StepFacts.{script_made}
use Rattle.journal_recording.proofs.script.script_of.Goals as goal

pub returns : goal.returns
returns c =
    script_made c.args.config c.in_ok-config.config c.args.first c.args.place c.args.journal.now c.as_str.result.now (string_bytes c.in_ok-text.text) (string_bytes c.begin.new.text)
    (string_bytes c.play_all.new.text) c.in_ok-world.world c.play_all.new.world c.take.result c.in_ok-config.ensures.begins c.in_ok-world.ensures.config
    (c.as_str.ensures.value ∙ c.in_ok-name.ensures.name) c.in_ok-play_all.ensures.config
    (c.in_ok-play_all.ensures.played [] c.in_ok-world.ensures.stands) c.in_ok-text.ensures.bytes c.in_ok-config.ensures.text c.take.ensures.none
    (sym c.is_some.ensures ∙ c.if-is_some.false)
