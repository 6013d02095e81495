use Rattle.std.proofs.Common.{sym, subst}
use Rattle.pdu_codec.specs.Writing.{HasRoom, Writes}
use Rattle.pdu_codec.proofs.WriteLaws.{last_octets}
use Rattle.pdu_codec.proofs.writing.put_number.Goals as goal

pub put_octets-requires : goal.put_octets-requires
put_octets-requires c =
    subst (HasRoom c.args.out.now)
    (sym (last_octets c.args.width c.args.number c.from.result c.to_be_bytes-octets.result c.from.ensures c.to_be_bytes-octets.ensures c.requires.short c.requires.fits))
    c.requires.room

pub returns : goal.returns
returns c =
    subst (Writes c.args.out.now c.put_octets.new.out)
    (last_octets c.args.width c.args.number c.from.result c.to_be_bytes-octets.result c.from.ensures c.to_be_bytes-octets.ensures c.requires.short c.requires.fits)
    c.put_octets.ensures
