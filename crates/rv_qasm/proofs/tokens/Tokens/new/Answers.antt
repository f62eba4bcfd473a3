use Rattle.std.proofs.Common.{length, ap, ◌∙◌}
use Rattle.rv_qasm.specs.inside.Flat.{cut_at}
use Rattle.rv_qasm.proofs.inside.Flat.{cut_at-none, Ascend-none}
use Rattle.rv_qasm.proofs.tokens.Tokens.new.Goals as goal

pub invariant_of-result : goal.invariant_of-result
invariant_of-result c = rw c.new-2.ensures.items (Ascend-none (length c.new.result.items))

pub returns : goal.returns
returns c = ap (λ starts. cut_at starts c.new.result.items) c.new-2.ensures.items ∙ cut_at-none c.new.result.items
