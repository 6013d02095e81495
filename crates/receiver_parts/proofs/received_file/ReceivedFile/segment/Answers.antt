use Rattle.std.proofs.Common.{◌≡◌, ℕ, Some, sym, ap, ◌∙◌}
use Rattle.std.specs.Prelude.{is_some}
use Rattle.cfdp_types.specs.Steps.{newer_or}
use Rattle.gap_list.specs.Covered.{covered}
use Rattle.gap_list.specs.Runs.{new_runs}
use Rattle.modular_sum.proofs.PieceLemmas.{IsSumOf-same}
use Rattle.receiver_parts.specs.Offsets.{octet_in}
use Rattle.receiver_parts.specs.ReceivedFile.{received_of, with_segment}
use Rattle.receiver_parts.proofs.LayLemmas.{came_with}
use Rattle.receiver_parts.proofs.SumLemmas.{with_parts}
use Rattle.receiver_parts.proofs.received_file.ReceivedFile.segment.Goals as goal

pub returns-clause-runs : goal.returns-clause-runs
returns-clause-runs c = c.in_ok-runs.ensures ∙ ap (λ n. new_runs (covered c.args.self.now.gaps) c.args.file_data.now.offset n) c.requires

pub returns-clause-received : goal.returns-clause-received
returns-clause-received c i =
    let file = c.args.self.now in
    rw (c.in_ok-pieces.ensures, c.as_slice.ensures, c.in_ok-runs.ensures, c.requires)
    (with_parts file.pieces.items (covered file.gaps) c.args.file_data.now i (file.came i))

pub returns-clause-segment : goal.returns-clause-segment
returns-clause-segment c =
    let file = c.args.self.now in
    let d = c.args.file_data.now in
    let received : (i : ℕ) → newer_or (octet_in c.in_ok-pieces.pieces.items i) (received_of file i) ≡ with_segment (received_of file) (Some d) i =
    λ i. rw (c.in_ok-pieces.ensures, c.as_slice.ensures, c.in_ok-runs.ensures, c.requires) (with_parts file.pieces.items (covered file.gaps) d i (file.came i)) in
    record {
      came = λ i.
          ap is_some (received i)
          ∙ rw c.requires (came_with (received_of file) (covered file.gaps) d i (file.came i));
      sum = IsSumOf-same (with_segment (received_of file) (Some d)) (λ i. newer_or (octet_in c.in_ok-pieces.pieces.items i) (received_of file i)) c.sum_with-sum.result
          (λ i. sym (received i)) c.sum_with-sum.ensures;
    }
