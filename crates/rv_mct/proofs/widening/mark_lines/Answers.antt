use Rattle.std.proofs.Common.{◌∙◌, ◌++◌, ap, arith, length, refl}
use Rattle.std.proofs.lemmas.List.{length-append}
use Rattle.rv_gate.specs.Circuit.{Cascade}
use Rattle.rv_mct.specs.Widened.{added_names}
use Rattle.rv_mct.proofs.Names.{length-added_names}
use Rattle.rv_mct.proofs.inside.Overlay.{marked-all, marked-next, overlaid, overlaid-all, overlaid-next, overlaid-none}
use Rattle.rv_mct.proofs.widening.mark_lines.Goals as goal

pub loop-line-init : goal.loop-line-init
loop-line-init c = c.requires.fresh ∙ overlaid-none c.args.circuit.now c.args.extra (c.args.circuit.now.names ++ added_names c.args.circuit.now.names c.args.extra) refl

pub mark_line-requires-clause-wide : goal.mark_line-requires-clause-wide
mark_line-requires-clause-wide c =
    omega (arith, c.loop-line-test.true, c.line_count-lines.ensures.value, ap (λ (wide : Cascade). length wide.names) c.loop-line.invariant, length-append c.args.circuit.now.names (added_names c.args.circuit.now.names c.args.extra))

pub loop-line-preserved : goal.loop-line-preserved
loop-line-preserved c =
    c.in_ok-mark_line.ensures
    ∙ overlaid-next c.args.circuit.now c.args.extra c.loop-line.line c.loop-line.wide c.line_count-lines.ensures.valid (omega (arith, c.loop-line-test.true, c.line_count-lines.ensures.value)) c.loop-line.invariant

pub loop-line-2-init : goal.loop-line-2-init
loop-line-2-init c =
    overlaid-all c.args.circuit.now c.args.extra c.line_count-lines.result c.loop-line.wide c.line_count-lines.ensures.valid c.line_count-lines.ensures.value
    (c.loop-line.invariant ∙ ap (overlaid c.args.circuit.now c.args.extra) (omega (arith, c.loop-line-test.false, c.loop-line.auto.line-end)))

pub set_constant-requires : goal.set_constant-requires
set_constant-requires c =
    omega (arith, c.loop-line-2-test.true, c.line_count-lines.ensures.value, ap (λ (wide : Cascade). length wide.names) c.loop-line-2.invariant, length-append c.args.circuit.now.names (added_names c.args.circuit.now.names c.args.extra), length-added_names c.args.circuit.now.names c.args.extra c.requires.few)

pub set_garbage-requires : goal.set_garbage-requires
set_garbage-requires c =
    omega (arith, c.loop-line-2-test.true, c.line_count-lines.ensures.value, ap (λ (wide : Cascade). length wide.names) (c.set_constant.ensures), ap (λ (wide : Cascade). length wide.names) c.loop-line-2.invariant, length-append c.args.circuit.now.names (added_names c.args.circuit.now.names c.args.extra), length-added_names c.args.circuit.now.names c.args.extra c.requires.few)

pub loop-line-2-preserved : goal.loop-line-2-preserved
loop-line-2-preserved c =
    rw (c.set_garbage.ensures, c.set_constant.ensures)
    (marked-next c.args.circuit.now c.args.extra c.loop-line-2.line c.loop-line-2.wide c.line_count-lines.ensures.valid (length-added_names c.args.circuit.now.names c.args.extra c.requires.few) (omega (arith, c.loop-line-2.auto.line, c.line_count-lines.ensures.value)) (omega (arith, c.loop-line-2-test.true, c.line_count-lines.ensures.value)) c.loop-line-2.invariant)

pub returns : goal.returns
returns c =
    marked-all c.args.circuit.now c.args.extra c.loop-line-2.line c.loop-line-2.wide c.line_count-lines.ensures.valid (length-added_names c.args.circuit.now.names c.args.extra c.requires.few) (omega (arith, c.loop-line-2-test.false, c.loop-line-2.auto.line-end, c.line_count-lines.ensures.value)) c.loop-line-2.invariant
