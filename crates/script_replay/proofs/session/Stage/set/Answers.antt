use Rattle.std.proofs.Common.{sym, subst, Bool}
use Rattle.script_replay.specs.declared.session.Stage.{Stage}
use Rattle.script_replay.specs.declared.session.Stage.TheVariants.{Configured}
use Rattle.script_replay.specs.Running.{StandsAt, SetsTo}
use Rattle.script_replay.proofs.SessionFacts.{set_either}
use Rattle.script_replay.proofs.session.Stage.set.Goals as goal

pub returns-in-Configured : goal.returns-in-Configured
returns-in-Configured c = λ played stands.
    subst (λ (good : Bool). SetsTo good played c.args.setting (Configured c.set.new.self)) (sym c.is_ok.ensures.value)
    (set_either played c.args.setting c.in-Configured.config c.set.new.self c.set.result
    (subst (λ (stage : Stage). StandsAt stage played) c.in-Configured.is stands) c.set.ensures.ok c.set.ensures.refused)
