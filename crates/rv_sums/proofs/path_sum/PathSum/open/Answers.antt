use Rattle.std.proofs.Common.{refl}
use Rattle.rv_sums.proofs.inside.Gates.{copy_leads}
use Rattle.rv_sums.proofs.path_sum.PathSum.open.Goals as goal

pub returns : goal.returns
returns c = copy_leads c.args.self.now _ (record { lines = refl; ends = λ x v. refl }) c.in_ok-open.ensures refl
