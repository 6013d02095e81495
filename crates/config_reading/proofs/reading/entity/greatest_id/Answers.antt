use Rattle.std.proofs.Common.{arith}
use Rattle.config_reading.proofs.Numbers.{greatest_id-few, power_fits, power_some}
use Rattle.config_reading.proofs.reading.entity.greatest_id.Goals as goal

pub pow-requires : goal.pow-requires
pow-requires c =
    let fits = power_fits c.from.result (omega arith) in
    omega arith

pub overflow_sub-result : goal.overflow_sub-result
overflow_sub-result c = rw c.pow.ensures (power_some c.from.result)

pub returns-then-octets-lt-ID_OCTETS : goal.returns-then-octets-lt-ID_OCTETS
returns-then-octets-lt-ID_OCTETS c = rw (c.pow.ensures, c.from.ensures) (greatest_id-few c.args.octets (omega arith))
