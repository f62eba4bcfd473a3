use Rattle.std.proofs.Common.{◌≡◌, ◌<◌, ℕ, suc, ◌+◌, ◌-◌, ◌*◌, ◌%◌, ◌^◌, arith, ◌∙◌, ap, take, drop}
use Rattle.std.proofs.lemmas.Nat.{one_shl}
use Rattle.std.proofs.Math.Nat.{pow-suc}
use Rattle.rv_cube.specs.inside.Transform.{transformed, xor_each}
use Rattle.rv_cube.proofs.inside.ReedMuller.{transformed_halves}
use Rattle.rv_cube.proofs.reed_muller.+transform.Goals as goal

double : (n : ℕ) → 0 < n → 2 ^ n ≡ 2 ^ (n - 1) + 2 ^ (n - 1)
double n h = let p : n ≡ suc (n - 1) = omega arith in ap (λ k. 2 ^ k) p ∙ omega (arith, pow-suc 2 (n - 1))

pub split_at_mut-low-requires : goal.split_at_mut-low-requires
split_at_mut-low-requires t c =
    let e = one_shl (c.args.inputs - 1) 64 (omega arith) in
    let d = double c.args.inputs (omega arith) in
    let f = c.requires.full in
    omega arith

pub xor_each-requires : goal.xor_each-requires
xor_each-requires t c =
    let e = one_shl (c.args.inputs - 1) 64 (omega arith) in
    let d = double c.args.inputs (omega arith) in
    let f = c.requires.full in
    let a = c.split_at_mut-low.ensures.front_len in
    let b = c.split_at_mut-low.ensures.back_len in
    omega arith

pub transform-requires-2 : goal.transform-requires-2
transform-requires-2 t c =
    let e = one_shl (c.args.inputs - 1) 64 (omega arith) in
    let d = double c.args.inputs (omega arith) in
    let f = c.requires.full in
    let a = c.split_at_mut-low.ensures.front_len in
    let b = c.split_at_mut-low.ensures.back_len in
    let l = c.xor_each.auto.high in
    (omega arith, (omega arith, omega arith))

pub returns : goal.returns
returns t c =
    let m : ℕ = c.args.inputs - 1 in
    let e : 1 * 2 ^ (c.args.inputs - 1) % 2 ^ 64 ≡ 2 ^ (c.args.inputs - 1) = one_shl (c.args.inputs - 1) 64 (omega arith) in
    let s = c.split_at_mut-low.ensures in
    let p : c.args.inputs ≡ suc m = omega arith in
    let front = s.front ∙ ap (λ k. take k c.args.table.now) e in
    let back = s.back ∙ ap (λ k. drop k c.args.table.now) e in
    transformed_halves c.args.inputs m c.args.table.now c.transform.new.table c.transform-2.new.table p
    (c.transform.ensures ∙ ap (transformed m) front)
    (c.transform-2.ensures ∙ ap (transformed m) (c.xor_each.ensures ∙ ap (λ x. xor_each x c.split_at_mut-low.result.1.now) front ∙ ap (xor_each (take (2 ^ m) c.args.table.now)) back))
