use Rattle.std.proofs.Common.{◌*◌, ◌≤◌, arith, mul-le-mul}
use Rattle.cli.proofs.plan.product.Goals as goal

pub overflow_mul-packets : goal.overflow_mul-packets
overflow_mul-packets c =
    let n : c.args.count ≤ 65535 = omega arith in
    let m : c.args.each ≤ 65535 = omega arith in
    let both : c.args.count * c.args.each ≤ 65535 * 65535 = mul-le-mul n m in
    omega (arith, both)

pub overflow_mul-result : goal.overflow_mul-result
overflow_mul-result c =
    let n : c.args.count ≤ 65535 = omega arith in
    let m : c.args.each ≤ 65535 = omega arith in
    let b : c.args.bytes ≤ 1048575 = omega arith in
    let both : c.args.count * c.args.each ≤ 65535 * 65535 = mul-le-mul n m in
    let all : c.args.count * c.args.each * c.args.bytes ≤ 65535 * 65535 * 1048575 = mul-le-mul both b in
    omega (arith, all)

pub returns-clause-bound : goal.returns-clause-bound
returns-clause-bound c =
    let n : c.args.count ≤ 65535 = omega arith in
    let m : c.args.each ≤ 65535 = omega arith in
    let b : c.args.bytes ≤ 1048575 = omega arith in
    let both : c.args.count * c.args.each ≤ 65535 * 65535 = mul-le-mul n m in
    let all : c.args.count * c.args.each * c.args.bytes ≤ 65535 * 65535 * 1048575 = mul-le-mul both b in
    omega (arith, all)
