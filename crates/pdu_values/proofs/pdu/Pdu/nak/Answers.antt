use Rattle.pdu_values.proofs.FitLaws.{short_nak_fits}
use Rattle.pdu_values.proofs.pdu.Pdu.nak.Goals as goal

pub new-requires : goal.new-requires
new-requires c = short_nak_fits c.args.header c.args.nak c.requires.header c.requires.fits c.requires.few
