use Rattle.std.proofs.Common.{true, false, replicate, set, ◌∙◌, ap, arith}
use Rattle.rv_gate.specs.Circuit.{Cascade}
use Rattle.rv_gate.proofs.Prefixes.{mark_none_before, mark_before}
use Rattle.rv_esop.proofs.Marks.{with_garbage}
use Rattle.rv_esop.proofs.lines.drop_inputs.Goals as goal

pub loop-input-init : goal.loop-input-init
loop-input-init c =
    ap (with_garbage c.args.circuit.now) (c.requires.fresh ∙ mark_none_before c.args.inputs c.args.outputs false)

pub loop-input-preserved : goal.loop-input-preserved
loop-input-preserved c =
    c.set_garbage.ensures
    ∙ ap (λ (t : Cascade). with_garbage t (set t.garbage c.loop-input.input true)) c.loop-input.invariant
    ∙ ap (with_garbage c.args.circuit.now)
    (mark_before c.args.inputs c.loop-input.input true false (replicate c.args.outputs false) (omega arith))
