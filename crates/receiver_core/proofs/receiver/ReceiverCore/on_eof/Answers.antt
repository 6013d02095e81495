use Rattle.std.proofs.Common.{◌≡◌, true, [], sym, ◌∙◌}
use Rattle.receiver_table.specs.Reception.{is_closing}
use Rattle.receiver_table.specs.Answers.{tells}
use Rattle.receiver_parts.specs.Response.{IsResponse}
use Rattle.receiver_core.specs.Core.{shown, reception_of}
use Rattle.receiver_parts.proofs.ResponseLemmas.{only_is, acknowledged_alone}
use Rattle.receiver_core.proofs.receiver.ReceiverCore.on_eof.Goals as goal

pub returns-then-is_closing : goal.returns-then-is_closing
returns-then-is_closing c =
    let closing : is_closing (shown c.args.self.now) ≡ true = sym c.is_closing.ensures ∙ c.if-is_closing.true in
    let telling : IsResponse c.of-response.result (tells []) = rw (c.of-response.ensures, c.new.ensures) (only_is []) in
    rw closing (acknowledged_alone (reception_of c.args.self.now) c.args.eof.condition c.acknowledges.new.response (c.acknowledges.ensures (tells []) telling))
