use Rattle.std.proofs.Common.{◌∙◌, sym}
use Rattle.rv_qasm.specs.Tokens.{is_open_string}
use Rattle.rv_qasm.proofs.inside.OperandLaws.{any_here, any_more, none_unclosed}
use Rattle.rv_qasm.proofs.operands.has_unclosed.Goals as goal

pub returns-then-not-may_have_string : goal.returns-then-not-may_have_string
returns-then-not-may_have_string c = sym (none_unclosed c.args.tokens.now (c.may_have_string.ensures c.if-not-may_have_string.true))

pub returns-then-is_open_string : goal.returns-then-is_open_string
returns-then-is_open_string c =
    sym (any_here is_open_string c.args.tokens.now c.loop-index.index c.get.result.now c.get.ensures (sym c.is_open_string.ensures ∙ c.if-is_open_string.true))

pub loop-index-preserved : goal.loop-index-preserved
loop-index-preserved c =
    any_more is_open_string c.args.tokens.now c.loop-index.index c.get.result.now c.get.ensures (sym c.is_open_string.ensures ∙ c.if-is_open_string.false) c.loop-index.invariant
