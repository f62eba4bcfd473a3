use Rattle.std.proofs.Common.{◌≡◌, ◌*◌, ◌%◌, ◌^◌, ap, arith}
use Rattle.std.proofs.lemmas.Nat.{one_shl}
use Rattle.rv_exorlink.proofs.Finds.{right_by_number}
use Rattle.rv_exorlink.proofs.found.is_right.Goals as goal

pub returns : goal.returns
returns c =
    λ on.
    let few = c.inputs.ensures.valid.few_inputs in
    let v = c.inputs.ensures.value in
    let e : 1 * 2 ^ c.inputs.result % 2 ^ 32 ≡ 2 ^ c.inputs.result = one_shl c.inputs.result 32 (omega arith) in
    let p : 2 ^ c.inputs.result ≡ 2 ^ c.args.pla.now.inputs = ap (λ n. 2 ^ n) v in
    let t = c.loop-number-test.false in
    right_by_number c.args.pla.now c.args.list.now.cubes (λ x lt. c.loop-number.invariant x (omega arith))
