use Rattle.program_udp.proofs.AddressFacts.{behind_first}
use Rattle.program_udp.proofs.addresses.+place_of_address.Goals as goal

pub returns-else-fits : goal.returns-else-fits
returns-else-fits t c =
    behind_first c.args.compared c.args.peers.now c.args.address c.place_of_address.result _ c.fits.result c.in-len1-up.len_at_least c.fits.ensures c.if-fits.false c.place_of_address.ensures
