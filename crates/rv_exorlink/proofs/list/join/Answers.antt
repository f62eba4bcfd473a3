use Rattle.std.proofs.Common.{◌<◌, length, subst, arith}
use Rattle.rv_pla.specs.declared.cube.Cube.{Cube}
use Rattle.rv_exorlink.specs.Sums.{IsSum}
use Rattle.rv_exorlink.proofs.Steps.{joined, read_same}
use Rattle.rv_exorlink.proofs.list.join.Goals as goal

pub returns : goal.returns
returns c =
    let old = c.args.cubes.now.items in
    let x = c.swap_remove-gone.result in
    let within : c.in-Some.slot < length old = omega arith in
    let P : Cube → Type 0 = λ z. IsSum c.args.inputs c.args.cube z c.in-Some-sum_of.sum in
    let sum : P x =
    subst P (read_same old c.in-Some.slot x c.index.result.now within c.swap_remove-gone.ensures.value c.index.ensures)
    c.in-Some-sum_of.ensures in
    joined c.args.inputs c.args.cube old c.in-Some.slot x c.in-Some-sum_of.sum c.swap_remove-gone.new.self.items
    (record { within = within; read = c.swap_remove-gone.ensures.value; is = c.swap_remove-gone.ensures.items }) sum
    (omega arith)
