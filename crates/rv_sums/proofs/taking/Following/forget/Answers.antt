use Rattle.std.proofs.Common.{refl}
use Rattle.rv_sums.proofs.inside.Taken.{moves_told}
use Rattle.rv_sums.proofs.taking.Following.forget.Goals as goal

pub returns : goal.returns
returns c flips =
    moves_told flips c.args.line c.in_ok-none.none c.args.self.now _ c.in_ok-flip.ensures c.in_ok-none.ensures c.in_ok-lose.ensures refl
