use Rattle.std.proofs.Common.{[], refl, subst, arith}
use Rattle.rv_gate.specs.declared.circuit.TheConstants.{MOST_GATES}
use Rattle.rv_cube.specs.Esop.{Esop}
use Rattle.rv_esop.specs.Cascade.{flip_count}
use Rattle.rv_esop.specs.declared.circuit.EsopFault.TheVariants as fault
use Rattle.rv_cmd.specs.declared.product.Product.TheVariants.{Circuit}
use Rattle.rv_cmd.specs.Commands.Esop.{cascade_report}
use Rattle.rv_cmd.specs.inside.Products.{IsRefusalOf}
use Rattle.rv_cmd.proofs.Laws.Esop.{cascade-answers, list-answers, not_listed, not_listed-refused}
use Rattle.rv_cmd.proofs.inside.Limits.{few-by}
use Rattle.rv_cmd.proofs.commands.esop.ReducedOneInput.make.Goals as goal

pub returns-in-Pla-clause-made : goal.returns-in-Pla-clause-made
returns-in-Pla-clause-made c =
    rw c.in-Pla.is (list-answers c.args.pla.now c.in-Ok.list c.in-Ok.ensures.list c.in-Ok.ensures.value c.in-Ok.ensures.settled c.recall_invariant.ensures)

pub returns-in-Ok-cascade-clause-made : goal.returns-in-Ok-cascade-clause-made
returns-in-Ok-cascade-clause-made c =
    let few = few-by fault.TooManyGates (flip_count c.in-Ok.list) MOST_GATES c.in-Ok-cascade.circuit c.in-Ok-cascade.ensures.too_many in
    not_listed c.args.self.now.to c.args.pla.now (Circuit c.in-Ok-cascade.circuit) c.in_default.not-Pla
    (cascade-answers c.args.pla.now c.in-Ok.list c.in-Ok-cascade.circuit c.in-Ok.ensures.list c.in-Ok.ensures.value
    few c.in-Ok-cascade.ensures.circuit c.in-Ok-cascade.ensures.adds c.recall_invariant-in-Ok-cascade.ensures)

pub returns-in-Err-TooManyGates-clause-unmade : goal.returns-in-Err-TooManyGates-clause-unmade
returns-in-Err-TooManyGates-clause-unmade c =
    let e = c.in-Err-TooManyGates in
    let why = (e.ensures.too_many e.count).0 (rw e.field-0-is refl) in
    let P : Esop → Type 0 = λ l. IsRefusalOf 1 (cascade_report l).limits c.too_many_gates.result in
    not_listed-refused c.args.self.now.to c.args.pla.now c.too_many_gates.result c.in_default.not-Pla
    (subst P c.in-Ok.ensures.list (c.too_many_gates.ensures (flip_count c.in-Ok.list) [] [] tt why))
