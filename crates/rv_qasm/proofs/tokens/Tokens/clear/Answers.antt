use Rattle.std.proofs.Common.{length, ap, ◌∙◌}
use Rattle.rv_qasm.specs.inside.Flat.{cut_at}
use Rattle.rv_qasm.proofs.inside.Flat.{cut_at-none, Ascend-none}
use Rattle.rv_qasm.proofs.tokens.Tokens.clear.Goals as goal

pub invariant_of-self : goal.invariant_of-self
invariant_of-self c = rw c.clear-2.ensures.items (Ascend-none (length c.clear.new.self.items))

pub returns : goal.returns
returns c = ap (λ starts. cut_at starts c.clear.new.self.items) c.clear-2.ensures.items ∙ cut_at-none c.clear.new.self.items
