use Rattle.std.proofs.Common.{List, refl, subst}
use Rattle.rv_terms.specs.declared.sum.Sum.{Sum}
use Rattle.rv_sums.specs.inside.State.{AreCopies}
use Rattle.rv_sums.proofs.inside.Gates.{copy_leads}
use Rattle.rv_sums.proofs.path_sum.PathSum.copy.Goals as goal

pub returns : goal.returns
returns c =
    copy_leads c.args.self.now _ (subst (λ (l : List Sum). AreCopies l c.in_ok-sums.sums.items) c.deref.ensures.value c.in_ok-sums.ensures)
    c.in_ok-phases.ensures refl
