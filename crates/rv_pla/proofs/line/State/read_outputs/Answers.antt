use Rattle.std.proofs.Common.{vec_len, arith}
use Rattle.rv_pla.proofs.inside.Kept.{none_given, with_outputs}
use Rattle.rv_pla.proofs.line.State.read_outputs.Goals as goal

pub invariant_of-self : goal.invariant_of-self
invariant_of-self c = with_outputs _ c.self.invariant c.in_ok-size_of.field-0 c.in_ok-size_of.ensures.size (none_given _ (vec_len c.self.inside.terms) _ (omega arith) c.is_empty.ensures c.if-not-is_empty.false)
