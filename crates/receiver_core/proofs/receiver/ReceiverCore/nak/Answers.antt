use Rattle.std.proofs.Common.{◌≡◌, List, sym, ap, ◌∙◌, take}
use Rattle.gap_list.specs.declared.run.Run.{Run}
use Rattle.gap_list.specs.Runs.{missing_runs}
use Rattle.pdu_values.specs.declared.pdu.Body.{Body}
use Rattle.pdu_values.specs.declared.pdu.Body.TheVariants as body
use Rattle.receiver_table.specs.Answers.{pdu_to_sender, missing_below}
use Rattle.receiver_parts.specs.FileChange.{metadata_after, received_after, covered_after}
use Rattle.receiver_core.specs.Core.{reception_of, now_state}
use Rattle.receiver_parts.specs.Naks.{nak_with}
use Rattle.receiver_parts.proofs.FindingLemmas.{missing_same}
use Rattle.receiver_parts.proofs.NakLemmas.{nak_front, nak_is}
use Rattle.receiver_core.proofs.receiver.ReceiverCore.nak.Goals as goal

pub returns : goal.returns
returns c =
    let core = c.args.self.now in
    let state = now_state core c.args.current.now c.args.change.now in
    let runs : List Run = missing_runs (covered_after core.file c.args.change.now) c.scope-scope.result in
    let front : c.as_slice.result.now ≡ take 65 runs = c.as_slice.ensures ∙ c.in_ok-runs.ensures in
    let missing : runs ≡ missing_below state c.scope-scope.result =
    sym (missing_same c.args.current.now (metadata_after core.metadata c.args.change.now) (received_after core.file c.args.change.now)
    (covered_after core.file c.args.change.now) c.scope-scope.result c.requires.came) in
    c.nak-2.ensures ∙ sym (c.reply_header.ensures.value (body.Nak c.in_ok-nak.nak))
    ∙ ap (λ (b : Body). pdu_to_sender (reception_of core) b)
    (ap body.Nak (c.in_ok-nak.ensures.value ∙ ap (λ (l : List Run). nak_with c.has_metadata_after.result c.scope-scope.result l) front ∙ nak_front c.has_metadata_after.result c.scope-scope.result runs)
    ∙ nak_is state c.has_metadata_after.result c.scope-scope.result runs c.has_metadata_after.ensures c.scope-scope.ensures missing)
