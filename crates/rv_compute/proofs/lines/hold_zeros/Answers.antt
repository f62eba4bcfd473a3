use Rattle.std.proofs.Common.{◌+◌, replicate, set, ◌∙◌, ap, arith}
use Rattle.std.proofs.lemmas.List.{length-replicate}
use Rattle.rv_gate.specs.Circuit.{Cascade}
use Rattle.rv_gate.specs.declared.circuit.Mark.TheVariants.{Input, Zero}
use Rattle.rv_gate.proofs.Prefixes.{mark_none, mark_after}
use Rattle.rv_compute.proofs.Marks.{with_constants}
use Rattle.rv_compute.proofs.lines.hold_zeros.Goals as goal

pub loop-line-init : goal.loop-line-init
loop-line-init c =
    ap (with_constants c.args.circuit.now) (c.requires.fresh ∙ mark_none c.args.first c.args.rest Input)

pub loop-line-preserved : goal.loop-line-preserved
loop-line-preserved c =
    let line = c.args.first + c.loop-line.line in
    c.set_constant.ensures
    ∙ ap (λ (t : Cascade). with_constants t (set t.constants line Zero)) c.loop-line.invariant
    ∙ ap (with_constants c.args.circuit.now)
    (mark_after (replicate c.args.first Input) c.args.first c.args.rest c.loop-line.line Zero Input
    (length-replicate c.args.first Input) (omega arith))
