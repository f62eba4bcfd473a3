use Rattle.std.proofs.Common.{◌+◌, ◌^◌, ◌<◌, ◌≤◌, arith}
use Rattle.std.proofs.lemmas.Nat.{one_shl}
use Rattle.std.proofs.Math.Pow.{pow_mono}
use Rattle.rv_cost.proofs.circuit.quantum_flip_cost.Goals as goal

pub overflow_sub-result : goal.overflow_sub-result
overflow_sub-result c =
    let fits : c.args.controls + 1 < 128 = omega arith in
    let two : 2 ≤ c.args.controls + 1 = omega arith in
    let value = one_shl (c.args.controls + 1) 128 fits in
    let low : 2 ^ 2 ≤ 2 ^ (c.args.controls + 1) = pow_mono two in
    omega arith

pub returns-clause-few : goal.returns-clause-few
returns-clause-few c =
    let fits : c.args.controls + 1 < 128 = omega arith in
    let top : c.args.controls + 1 ≤ 66 = omega arith in
    let value = one_shl (c.args.controls + 1) 128 fits in
    let high : 2 ^ (c.args.controls + 1) ≤ 2 ^ 66 = pow_mono top in
    omega arith
