use Rattle.std.proofs.Common.{◌≤◌, ◌^◌, lit<, arith}
use Rattle.std.proofs.Math.Nat.{pow-le-pow_right}
use Rattle.station_config.proofs.addresses.number_of.Goals as goal

pub overflow_mul-number : goal.overflow_mul-number
overflow_mul-number c =
    let power : 10 ^ c.loop-digit.digit-index ≤ 10 ^ 5 = pow-le-pow_right (lit< tt) {i = c.loop-digit.digit-index} {j = 5} (omega arith) in
    omega arith
