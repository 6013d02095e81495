use Rattle.std.proofs.Common.{◌≡◌, ap, sym, ◌∙◌}
use Rattle.receiver_table.specs.Answers.{examines}
use Rattle.receiver_parts.specs.FileChange.{metadata_after, received_after, covered_after, word_after}
use Rattle.receiver_core.specs.Core.{reception_of, now_state}
use Rattle.receiver_parts.specs.Finding.{found_response}
use Rattle.receiver_parts.specs.declared.examine.Finding.{Finding}
use Rattle.receiver_parts.proofs.FindingLemmas.{examined}
use Rattle.receiver_core.proofs.receiver.ReceiverCore.examine.Goals as goal

pub returns-clause-response : goal.returns-clause-response
returns-clause-response c =
    let core = c.args.self.now in
    let state = now_state core c.args.current.now c.args.change.now in
    let same : examines (reception_of core) state ≡ found_response (reception_of core) state c.look-finding.result =
    examined (reception_of core) c.args.current.now (metadata_after core.metadata c.args.change.now) (received_after core.file c.args.change.now)
    (covered_after core.file c.args.change.now) (word_after core.file c.args.change.now)
    c.requires.came c.requires.reached c.requires.summed
    (sym c.is_suspended.ensures ∙ c.if-is_suspended.false)
    ∙ ap (λ (f : Finding). found_response (reception_of core) state f)
    (sym (rw c.checksum_type_after.ensures at c.look-finding.ensures)) in
    rw same (c.answers_finding.ensures.response (metadata_after core.metadata c.args.change.now) (received_after core.file c.args.change.now))
