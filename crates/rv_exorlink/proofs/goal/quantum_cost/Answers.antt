use Rattle.std.proofs.Common.{◌≡◌, ◌<◌, ◌+◌, ◌*◌, ◌^◌, ◌%◌, arith}
use Rattle.std.proofs.lemmas.Nat.{one_shl, pow_below}
use Rattle.rv_exorlink.proofs.goal.quantum_cost.Goals as goal

pub overflow_sub-result : goal.overflow_sub-result
overflow_sub-result c =
    let controls = c.args.controls in
    let e : 1 * 2 ^ (controls + 1) % 2 ^ 64 ≡ 2 ^ (controls + 1) = one_shl (controls + 1) 64 (omega arith) in
    let low : 2 ^ 1 < 2 ^ (controls + 1) = pow_below 1 (controls + 1) (omega arith) in
    omega arith

pub returns-else-controls-lt2-clause-bound : goal.returns-else-controls-lt2-clause-bound
returns-else-controls-lt2-clause-bound c =
    let controls = c.args.controls in
    let e : 1 * 2 ^ (controls + 1) % 2 ^ 64 ≡ 2 ^ (controls + 1) = one_shl (controls + 1) 64 (omega arith) in
    let high : 2 ^ (controls + 1) < 2 ^ 18 = pow_below (controls + 1) 18 (omega arith) in
    omega arith
