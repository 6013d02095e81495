-- The greatest IDs of so many octets.
use Rattle.std.proofs.Common.{◌≡◌, ℕ, ◌-◌, ◌^◌, ◌<◌, ◌≤◌, lit<, arith}
use Rattle.std.proofs.Math.Nat.{one-le-pow, pow-le-pow_right}
use Rattle.config_reading.specs.Walk.{greatest_id}

-- IDs of less than eight octets
pub power_fits : (octets : ℕ) → octets < 8 → 256 ^ octets ≤ 72057594037927936
power_fits octets few = pow-le-pow_right (lit< tt) {i = octets} {j = 7} (omega arith)

pub power_some : (octets : ℕ) → 1 ≤ 256 ^ octets
power_some octets = one-le-pow octets 256 (lit< tt)

pub greatest_id-few : (octets : ℕ) → octets < 8 → 256 ^ octets - 1 ≡ greatest_id octets
greatest_id-few octets few =
    let fits = power_fits octets few in
    omega arith
