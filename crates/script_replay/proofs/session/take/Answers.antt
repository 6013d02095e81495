use Rattle.std.proofs.Common.{◌<◌, ◌++◌, ◌∙◌, ℕ, List, ap, length, rules}
use Rattle.std.specs.Prelude.{string_bytes}
use Rattle.config_reading.specs.Values.{ConfigValue}
use Rattle.script_replay.specs.Texts.{taken_text, user_name}
use Rattle.script_replay.proofs.SessionFacts.{taken}
use Rattle.script_replay.proofs.session.take.Goals as goal

pub returns : goal.returns
returns c = λ played runs.
    let may : c.args.user < length c.args.world.now.config.users = search rules in
    taken c.args.world.now c.take-taken.new.self c.args.user c.take-taken.result played (string_bytes c.args.text.now)
    (string_bytes c.push_taken.new.text) runs may
    c.take-taken.ensures.none c.take-taken.ensures.same c.take-taken.ensures.front c.take-taken.ensures.stands c.take-taken.ensures.config
    (c.in_ok-push_taken.ensures ∙ ap (λ (name : List ℕ). string_bytes c.args.text.now ++ taken_text name c.take-taken.result)
    (c.user_name.ensures ∙ ap (λ (config : ConfigValue). user_name config c.args.user) c.config.ensures))
