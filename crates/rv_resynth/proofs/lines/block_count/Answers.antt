use Rattle.std.proofs.Common.{◌≡◌, ◌+◌, ◌-◌, ◌^◌, ◌≤◌, ℕ, arith, ap}
use Rattle.std.proofs.Math.Nat.{pow-le-pow_right}
use Rattle.std.proofs.Common.{pow-add}
use Rattle.rv_resynth.proofs.lines.block_count.Goals as goal

pub returns-else-lines-le8 : goal.returns-else-lines-le8
returns-else-lines-le8 c =
    let k : ℕ = c.args.lines - 8 in
    let e : k + 8 ≡ c.args.lines = omega arith in
    let few : k ≤ 8 = omega arith in
    let small : 2 ^ k ≤ 2 ^ 8 = pow-le-pow_right {n = 2} (omega arith) few in
    omega (arith, ap (λ n. 2 ^ n) e, pow-add 2 k 8)
