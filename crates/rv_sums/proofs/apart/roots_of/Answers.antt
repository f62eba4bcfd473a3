use Rattle.std.proofs.Common.{arith}
use Rattle.rv_sums.proofs.Roots.{root_at}
use Rattle.rv_sums.proofs.apart.roots_of.Goals as goal

pub returns : goal.returns
returns c = root_at c.args.count (omega arith)
