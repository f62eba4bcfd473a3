use Rattle.std.proofs.Common.{◌∙◌, ◌<◌, ap, length, arith}
use mir.Val.{bool_byte}
use Rattle.rv_simulate.proofs.inside.Filling.{outputs_all, outputs_more, outputs_none, outputs_same, outputs_small}
use Rattle.rv_simulate.proofs.answers.outputs.Goals.{then-not-is_garbage, else-not-is_garbage}
use Rattle.rv_simulate.proofs.answers.outputs.Goals as goal
use Rattle.rv_gate.proofs.Bits.{bool_byte-le}

pub loop-line-init : goal.loop-line-init
loop-line-init c = outputs_none c.args.circuit.now.garbage c.args.word

pub overflow_mul-number : goal.overflow_mul-number
overflow_mul-number c =
    let small = outputs_small c.args.circuit.now.garbage c.args.word c.loop-line.line c.loop-line.number c.loop-line.count (omega (arith, c.loop-line-test.true, c.line_count-line-end.ensures.few)) c.loop-line.invariant in
    omega (arith, small)

pub overflow_add-number : goal.overflow_add-number
overflow_add-number c =
    let small = outputs_small c.args.circuit.now.garbage c.args.word c.loop-line.line c.loop-line.number c.loop-line.count (omega (arith, c.loop-line-test.true, c.line_count-line-end.ensures.few)) c.loop-line.invariant in
    omega (arith, small, c.from.ensures, bool_byte-le c.bit.result)

pub loop-line-preserved : goal.loop-line-preserved
loop-line-preserved c =
    let garbage = c.args.circuit.now.garbage in
    let word = c.args.word in
    let line = c.loop-line.line in
    let lt : line < length word = omega arith in
    elim c.if-not-is_garbage.branch [
      | then-not-is_garbage w ↦
          rw (w.number-is, w.count-is)
          (outputs_more garbage word line c.loop-line.number c.loop-line.count w.from.result w.if-not-is_garbage.ensures lt (w.from.ensures ∙ ap bool_byte w.bit.ensures) c.loop-line.invariant)
      | else-not-is_garbage w ↦
          rw (w.number-is, w.count-is)
          (outputs_same garbage word line c.loop-line.number c.loop-line.count w.if-not-is_garbage.ensures lt c.loop-line.invariant)
    ]

pub unreachable-requires : goal.unreachable-requires
unreachable-requires c =
    let lines = c.line_count-line-end.ensures in
    let all = outputs_all c.args.circuit.now.garbage c.args.word c.loop-line.line c.loop-line.number c.loop-line.count
    (omega (arith, lines.valid.garbage, lines.value, c.loop-line-test.false)) (omega (arith, lines.value, c.loop-line-test.false, c.requires)) c.loop-line.invariant in
    c.in_default.ensures (omega (arith, c.loop-line.invariant.few, c.loop-line.auto.line-end, lines.few), all.0)

pub returns : goal.returns
returns c =
    let lines = c.line_count-line-end.ensures in
    let all = outputs_all c.args.circuit.now.garbage c.args.word c.loop-line.line c.loop-line.number c.loop-line.count
    (omega (arith, lines.valid.garbage, lines.value, c.loop-line-test.false)) (omega (arith, lines.value, c.loop-line-test.false, c.requires)) c.loop-line.invariant in
    c.in-Some.ensures.1 ∙ all.1
