use Rattle.std.proofs.Common.{◌≡◌, ◌+◌, ◌∙◌, ap, sym, slice_range, arith}
use Rattle.rv_qasm.specs.Registers.{register_operand}
use Rattle.rv_qasm.proofs.inside.OperandLaws.{length-slice_range, no_operand, range_of_four, range_of_one}
use Rattle.rv_qasm.proofs.operands.register_operand.Goals as goal

pub returns-then-to-from-eq1 : goal.returns-then-to-from-eq1
returns-then-to-from-eq1 c =
    let one : c.args.to ≡ c.args.from + 1 = omega arith in
    c.whole_operand.ensures ∙ ap register_operand (sym (range_of_one c.args.tokens.now c.args.from c.args.to c.get.result.now one c.get.ensures))

pub returns-then-to-from-eq4 : goal.returns-then-to-from-eq4
returns-then-to-from-eq4 c =
    let four : c.args.to ≡ c.args.from + 4 = omega arith in
    c.one_operand.ensures
    ∙ ap register_operand (sym (range_of_four c.args.tokens.now c.args.from c.args.to _ _ _ _ four c.get-then-to-from-eq4.ensures c.get-then-to-from-eq4-2.ensures c.get-then-to-from-eq4-3.ensures c.get-then-to-from-eq4-4.ensures))

pub returns : goal.returns
returns c =
    let len = length-slice_range c.args.tokens.now c.args.from c.args.to c.requires.order c.requires.within in
    sym (no_operand (slice_range c.args.tokens.now c.args.from c.args.to) (λ e. omega (arith, len, e)) (λ e. omega (arith, len, e)))
