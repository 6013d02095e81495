use Rattle.std.proofs.Common.{ap, ◌++◌, ◌∙◌, rules, Bool}
use Rattle.std.specs.Prelude.{string_bytes}
use Rattle.world_core.specs.Worlds.{MayCome}
use Rattle.script_replay.specs.Texts.{answer_text}
use Rattle.script_replay.proofs.SessionFacts.{told}
use Rattle.script_replay.proofs.session.tell.Goals as goal

pub returns : goal.returns
returns c = λ played runs.
    let may : MayCome c.args.world.now.config c.args.event.now = search rules in
    let before = string_bytes c.args.text.now in
    told c.args.world.now c.step-answer.new.self c.args.event.now c.step-answer.result played before (string_bytes c.push_answer.new.text) runs may
    c.step-answer.ensures.answered c.step-answer.ensures.stands c.step-answer.ensures.config
    (c.in_ok-push_answer.ensures ∙ ap (λ (b : Bool). before ++ answer_text b c.step-answer.result) c.is_put.ensures)
