use Rattle.std.proofs.Common.{◌+◌, replicate, set, ◌∙◌, ap, arith}
use Rattle.std.proofs.lemmas.List.{length-replicate}
use Rattle.rv_gate.specs.Circuit.{Cascade}
use Rattle.rv_gate.specs.declared.circuit.Mark.TheVariants.{Input, Zero}
use Rattle.rv_gate.proofs.Prefixes.{mark_none, mark_after}
use Rattle.rv_esop.proofs.Marks.{with_constants}
use Rattle.rv_esop.proofs.lines.hold_zeros.Goals as goal

pub loop-output-init : goal.loop-output-init
loop-output-init c =
    ap (with_constants c.args.circuit.now) (c.requires.fresh ∙ mark_none c.args.inputs c.args.outputs Input)

pub loop-output-preserved : goal.loop-output-preserved
loop-output-preserved c =
    let line = c.args.inputs + c.loop-output.output in
    c.set_constant.ensures
    ∙ ap (λ (t : Cascade). with_constants t (set t.constants line Zero)) c.loop-output.invariant
    ∙ ap (with_constants c.args.circuit.now)
    (mark_after (replicate c.args.inputs Input) c.args.inputs c.args.outputs c.loop-output.output Zero Input
    (length-replicate c.args.inputs Input) (omega arith))
