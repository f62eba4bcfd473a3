use Rattle.std.proofs.Common.{ℕ, subst, arith}
use Rattle.rv_compute.proofs.inside.Ends.{HaveFirst, first_stands}
use Rattle.rv_compute.proofs.start.first_held.Goals as goal

pub returns : goal.returns
returns c =
    let P : ℕ → Type 0 = λ n. HaveFirst n c.loop-line.line c.loop-line.held.items in
    let is = c.input_count-inputs.ensures.value in
    first_stands c.args.logic.now c.args.extra c.loop-line.held.items c.loop-line.line
    (omega (arith, is, c.output_count.ensures.value, c.from.ensures))
    (subst P is c.loop-line.invariant)
    (omega (arith, is, c.output_count.ensures.value, c.from.ensures))
