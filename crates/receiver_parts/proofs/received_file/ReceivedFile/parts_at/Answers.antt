use Rattle.std.proofs.Common.{◌+◌, length}
use Rattle.gap_list.specs.Covered.{covered}
use Rattle.receiver_parts.proofs.LayLemmas.{runs_inside}
use Rattle.receiver_parts.proofs.received_file.ReceivedFile.parts_at.Goals as goal

pub parts_of-requires : goal.parts_of-requires
parts_of-requires c =
    let file_data = c.args.file_data.now in
    record { inside = rw (c.requires.starts, c.requires.runs) (runs_inside (covered c.args.self.now.gaps) file_data.offset (file_data.offset + length file_data.octets)) }
