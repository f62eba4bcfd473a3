use mir.Val.{bool_byte}
use Rattle.std.proofs.Common.{◌≡◌, ◌∙◌, ◌+◌, ◌<◌, true, false, take, refl, ap, sym, arith}
use Rattle.std.proofs.lemmas.List.{take_all}
use Rattle.rv_gate.specs.Marks.{input_count, with_constants}
use Rattle.rv_gate.proofs.Marks.{length-with_constants}
use Rattle.rv_many.proofs.inside.Numbers.{number_all, number_none, number_small}
use Rattle.rv_gate.specs.declared.circuit.Mark.TheVariants.{Input, Zero, One}
use Rattle.rv_gate.specs.Word.{word_of}
use Rattle.rv_simulate.proofs.inside.Filling.{answered_for, fills_more, input_count-next, input_count-prefix, next_bit}
use Rattle.rv_simulate.proofs.word_line.among_constants.Goals.{in-Zero, in-One, in-Input+else-used-count}
use Rattle.rv_simulate.proofs.word_line.among_constants.Goals as goal
use Rattle.rv_gate.proofs.Bits.{bool_byte-le}

pub loop-line-init : goal.loop-line-init
loop-line-init c = record { number = number_none (with_constants c.args.circuit.now.constants (word_of c.args.count c.args.bits)); used = refl; within = omega arith }

pub returns-then-used-count : goal.returns-then-used-count
returns-then-used-count c =
    let marks = c.args.circuit.now.constants in
    let line = c.loop-line.line in
    λ same. omega (arith, same, c.if-used-count.true, c.loop-line.invariant.used, input_count-next marks line Input c.in-Input.ensures, input_count-prefix marks (line + 1))

pub loop-line-preserved : goal.loop-line-preserved
loop-line-preserved c =
    let marks = c.args.circuit.now.constants in
    let bits = word_of c.args.count c.args.bits in
    let line = c.loop-line.line in
    let used = c.loop-line.used in
    let before = c.loop-line.invariant in
    elim c.match-constant.branch [
      | in-Zero w ↦ record {
        number = fills_more marks bits line used c.loop-line.number c.from.result Zero false w.in-Zero.ensures before.used refl (c.from.ensures ∙ ap bool_byte w.bit-is) before.number;
        used = w.used-is ∙ before.used ∙ sym (input_count-next marks line Zero w.in-Zero.ensures ∙ omega arith);
        within = omega (arith, w.used-is, before.within);
      }
      | in-One w ↦ record {
        number = fills_more marks bits line used c.loop-line.number c.from.result One true w.in-One.ensures before.used refl (c.from.ensures ∙ ap bool_byte w.bit-is) before.number;
        used = w.used-is ∙ before.used ∙ sym (input_count-next marks line One w.in-One.ensures ∙ omega arith);
        within = omega (arith, w.used-is, before.within);
      }
      | in-Input+else-used-count w ↦
          let some : used < c.args.count = omega (arith, w.if-used-count.false, before.within) in
          record {
            number = fills_more marks bits line used c.loop-line.number c.from.result Input w.has-bit.result w.in-Input.ensures before.used (w.has-bit.ensures ∙ next_bit c.args.count c.args.bits used some)
                (c.from.ensures ∙ ap bool_byte w.bit-is) before.number;
            used = w.used-is ∙ ap (λ n. n + 1) before.used ∙ sym (input_count-next marks line Input w.in-Input.ensures ∙ omega arith);
            within = omega (arith, w.used-is, some);
          }
    ]

pub overflow_mul-number : goal.overflow_mul-number
overflow_mul-number c =
    omega (
      arith,
      number_small (with_constants c.args.circuit.now.constants (word_of c.args.count c.args.bits)) c.loop-line.line c.loop-line.number
          (omega (arith, c.loop-line-test.true, c.line_count-lines.ensures.few)) c.loop-line.invariant.number,
    )

pub overflow_add-number : goal.overflow_add-number
overflow_add-number c =
    omega (
      arith,
      c.from.ensures,
      bool_byte-le c.match-constant.bit,
      number_small (with_constants c.args.circuit.now.constants (word_of c.args.count c.args.bits)) c.loop-line.line c.loop-line.number
          (omega (arith, c.loop-line-test.true, c.line_count-lines.ensures.few)) c.loop-line.invariant.number,
    )

pub returns-then-used-count-2 : goal.returns-then-used-count-2
returns-then-used-count-2 c =
    let marks = c.args.circuit.now.constants in
    let bits = word_of c.args.count c.args.bits in
    let lines = c.line_count-lines in
    let count = lines.ensures.valid.constants ∙ sym lines.ensures.value in
    let all : take c.loop-line.line marks ≡ marks = take_all c.loop-line.line marks (omega (arith, count, c.loop-line-test.false)) in
    let size = length-with_constants marks bits ∙ count in
    let made = number_all (with_constants marks bits) c.loop-line.line c.loop-line.number lines.result (omega (arith, size, c.loop-line-test.false)) (sym size) c.loop-line.invariant.number in
    answered_for c.new.result _ _ _ _ c.new.ensures (lines.ensures.few, made.0) (sym c.if-used-count-2.true ∙ c.loop-line.invariant.used ∙ ap input_count all) made.1
