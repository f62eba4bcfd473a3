use Rattle.rv_real.proofs.inside.OperandLemmas.{flip_kept, swap_kept, peres_kept}
use Rattle.rv_real.proofs.operands.Operands.gate.Goals as goal

pub returns-in-Flip : goal.returns-in-Flip
returns-in-Flip c = λ lines operands takes few gathers once. rw c.in-Flip.is (flip_kept lines operands c.args.self.now c.flip.result (rw c.in-Flip.is at takes) few (rw c.in-Flip.is at gathers) once c.flip.ensures)

pub returns-in-Swap : goal.returns-in-Swap
returns-in-Swap c = λ lines operands takes few gathers once. rw c.in-Swap.is (swap_kept lines operands c.args.self.now c.swap.result (rw c.in-Swap.is at takes) few (rw c.in-Swap.is at gathers) once c.swap.ensures)

pub returns-in-Peres : goal.returns-in-Peres
returns-in-Peres c = λ lines operands takes few gathers once. rw c.in-Peres.is (peres_kept lines operands c.args.self.now c.peres.result (rw c.in-Peres.is at takes) few (rw c.in-Peres.is at gathers) once c.peres.ensures)
