use Rattle.std.proofs.Common.{◌+◌, ◌∙◌, ap, sym, arith, refl, codes, not}
use Rattle.rv_qasm.specs.Registers.{register_operand, is_token}
use Rattle.rv_qasm.proofs.inside.OperandLaws.{range_of_four, when_some, indexed_first, position_here, position_past}
use Rattle.rv_qasm.proofs.operands.indexed_operand.Goals.{then-left-gt4, else-left-gt4}
use Rattle.rv_qasm.proofs.operands.indexed_operand.Goals as goal

pub returns-clause-exact : goal.returns-clause-exact
returns-clause-exact c =
    when_some c.one_operand.result
    (c.one_operand.ensures
    ∙ ap register_operand (sym (range_of_four c.args.tokens.now c.args.at (c.args.at + 4) _ _ _ _ refl c.get-2.ensures c.get-3.ensures c.get-4.ensures c.get-5.ensures)))

pub returns-clause-first : goal.returns-clause-first
returns-clause-first c =
    indexed_first c.args.tokens.now c.args.at _ _ _ _ c.one_operand.result c.get-2.ensures c.get-3.ensures c.get-4.ensures c.get-5.ensures c.one_operand.ensures
    (elim c.if-left-gt4.branch [
      | then-left-gt4 w ↦ position_here (is_token (codes ",")) c.args.tokens.now (c.args.at + 4) w.get.result.now w.get.ensures
          (ap not (sym w.is_mark.ensures) ∙ sym w.value-is ∙ c.if-not-is_mark.false)
      | else-left-gt4 w ↦ position_past (is_token (codes ",")) c.args.tokens.now (c.args.at + 4) (omega arith)
    ])
