use Rattle.std.proofs.Common.{inl, inr}
use Rattle.gap_list.specs.Covered.{covered}
use Rattle.gap_list.specs.Runs.{with_range}
use Rattle.receiver_parts.proofs.FindingLemmas.{full_test}
use Rattle.receiver_parts.proofs.received_file.ReceivedFile.is_full_after.Goals as goal

pub returns-in-NewSegment : goal.returns-in-NewSegment
returns-in-NewSegment c =
    let segment = c.in-NewSegment.segment in
    rw c.in-NewSegment.is
    (full_test (with_range (covered c.args.self.now.gaps) segment.start segment.end) c.args.size c.is_full_with.result c.is_full_with.ensures)

pub returns-in-Nothing : goal.returns-in-Nothing
returns-in-Nothing c =
    elim c.in-Nothing.is [
      | inl is ↦ rw is (full_test (covered c.args.self.now.gaps) c.args.size c.is_full.result c.is_full.ensures)
      | inr (metadata, is) ↦ rw is (full_test (covered c.args.self.now.gaps) c.args.size c.is_full.result c.is_full.ensures)
    ]
