use Rattle.std.proofs.Common.{[], refl}
use Rattle.rv_sums.proofs.inside.Taken.{moves_kept, moves_then}
use Rattle.rv_sums.proofs.taking.Following.take_first.Goals as goal

pub returns : goal.returns
returns c =
    let flips = c.args.flips.now in
    moves_then [] flips c.args.self.now _ c.take.new.self (moves_kept flips c.args.self.now _ refl refl c.in_ok-fill.ensures)
    (c.in_ok-taken.ensures flips)
