-- What the file store is given while a deposit waits.
use Rattle.std.proofs.Common.{◌≡◌, ℕ, true, Option, Some, None, refl, ap, arith}
use Rattle.std.specs.Prelude.{is_some}
use Rattle.std.proofs.lemmas.Bool.Decides.{nat_tests}
use Rattle.cfdp_types.specs.Steps.{is_stamp}
use Rattle.receiver_table.specs.Reception.{State, state_of}
use Rattle.receiver_table.specs.Answers.{octets_from}
use Rattle.receiver_table.proofs.FileOctets.{octets_from-at, octets_from-length}
use Rattle.receiver_laws.specs.ReceptionLaws.{IsGiven, DepositsGood}
use Rattle.receiver_laws.proofs.ReceptionFacts.{IsGoodFile}
use Rattle.receiver_laws.proofs.ReceptionLegal.{holds}

own_stamp : (o : Option ℕ) (stamp : ℕ) → o ≡ Some stamp → is_stamp o stamp ≡ true
own_stamp None stamp is = absurd cc
own_stamp (Some kept) stamp is = let e : kept ≡ stamp = cc in grind (arith, nat_tests)

given : (state : State) (stamp : ℕ) → state.waiting ≡ Some stamp → IsGoodFile state.metadata state.eof state.received → IsGiven state stamp
given state stamp waits good = record {
  good = record {
    metadata = good.metadata;
    eof = good.eof;
    metadata_came = good.metadata_came;
    eof_came = good.eof_came;
    supported = good.supported;
    none_missing = good.none_missing;
    none_beyond = good.none_beyond;
    agrees = good.agrees;
  };
  image = record {
    source_name = good.metadata.source_name;
    destination_name = good.metadata.destination_name;
    octets = octets_from state.received 0 good.eof.size;
  };
  given = rw (own_stamp state.waiting stamp waits, good.metadata_came, good.eof_came) refl;
  source_name = refl;
  destination_name = refl;
  size = octets_from-length state.received 0 good.eof.size;
  octets = λ i below. octets_from-at state.received 0 good.eof.size i i (omega arith) below (good.none_missing i below);
}

pub deposits_good : DepositsGood
deposits_good reception log stamp legal waits =
    given (state_of log) stamp waits ((holds reception log legal).fits.waits (ap is_some waits)).0
