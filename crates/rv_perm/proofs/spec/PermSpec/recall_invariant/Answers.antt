use Rattle.std.proofs.Common.{arith}
use Rattle.std.proofs.lemmas.List.{length-take-le}
use Rattle.rv_perm.proofs.spec.PermSpec.recall_invariant.Goals as goal

pub returns : goal.returns
returns c =
    rw (← c.self.view_is)
    (record {
      permutes = c.self.invariant.0;
      constants = length-take-le c.self.inside.perm.lines c.self.inside.constants (omega arith);
      garbage = length-take-le c.self.inside.perm.lines c.self.inside.garbage (omega arith);
    })
