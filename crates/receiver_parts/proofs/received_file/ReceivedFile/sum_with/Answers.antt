use Rattle.std.proofs.Common.{◌+◌, length}
use Rattle.gap_list.specs.Covered.{covered}
use Rattle.receiver_parts.specs.ReceivedFile.{received_of}
use Rattle.receiver_parts.proofs.LayLemmas.{runs_inside}
use Rattle.receiver_parts.proofs.SumLemmas.{sum_of_segment}
use Rattle.receiver_parts.proofs.received_file.ReceivedFile.sum_with.Goals as goal

pub sum_with_runs-requires : goal.sum_with_runs-requires
sum_with_runs-requires c =
    let file_data = c.args.file_data.now in
    record { inside = rw (c.requires.starts, c.requires.runs, c.as_slice.ensures) (runs_inside (covered c.args.self.now.gaps) file_data.offset (file_data.offset + length file_data.octets)) }

pub returns : goal.returns
returns c =
    let file = c.args.self.now in
    rw (c.sum_with_runs.ensures, c.requires.starts, c.requires.runs, c.as_slice.ensures) (sum_of_segment (received_of file) (covered file.gaps) file.sum c.args.file_data.now file.came file.summed)
