use Rattle.std.proofs.Common.{◌≤◌, arith}
use Rattle.std.proofs.Math.Nat.{mul-le-mul_left}
use Rattle.policy.proofs.leg_resends.percent.Goals as goal

pub overflow_mul-result : goal.overflow_mul-result
overflow_mul-result c =
    let small : c.from-2.result ≤ 4294967295 = omega arith in
    omega (arith, mul-le-mul_left c.from.result small)
