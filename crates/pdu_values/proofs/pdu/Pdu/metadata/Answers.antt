use Rattle.std.proofs.Common.{arith, ap}
use Rattle.pdu_values.proofs.FitLaws.{put_metadata_fits}
use Rattle.pdu_values.proofs.pdu.Pdu.metadata.Goals as goal

pub new-requires : goal.new-requires
new-requires c =
    let kept = ap (λ m. m.checksum_type) c.get-content.ensures in
    put_metadata_fits c.args.header c.args.metadata c.requires.header (omega (arith, kept, c.number-number.ensures.value, c.number-number.ensures.below)) c.requires.size
    c.requires.source_name c.requires.destination_name c.requires.messages
