use Rattle.std.proofs.Common.{◌∙◌, ap, not, sym, arith}
use Rattle.rv_qasm.proofs.inside.OperandLaws.{position_here, position_on}
use Rattle.rv_qasm.specs.Registers.{is_token}
use Rattle.rv_qasm.proofs.operands.first_of.Goals as goal

pub loop-at-preserved : goal.loop-at-preserved
loop-at-preserved c =
    let more = position_on (is_token c.args.mark.now) c.args.tokens.now c.loop-at.at c.get.result.now c.get.ensures (ap not (sym c.same_bytes.ensures ∙ c.if-not-same_bytes.true)) in
    record { within = omega arith; first = omega (arith, more, c.loop-at.invariant.first) }

pub returns-else-not-same_bytes : goal.returns-else-not-same_bytes
returns-else-not-same_bytes c =
    let here = position_here (is_token c.args.mark.now) c.args.tokens.now c.loop-at.at c.get.result.now c.get.ensures (ap not (sym c.same_bytes.ensures ∙ c.if-not-same_bytes.false)) in
    record { exact = omega (arith, here, c.loop-at.invariant.first); within = c.loop-at.invariant.within }
