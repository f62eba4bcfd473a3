use Rattle.std.proofs.Common.{[], ◌∷◌, refl}
use Rattle.rv_sums.proofs.inside.Taken.{moves_on, moves_op, moves_then}
use Rattle.rv_sums.proofs.taking.Following.operate.Goals as goal

pub returns : goal.returns
returns c =
    let flips = c.args.flips.now in
    moves_on (c.args.op ∷ []) flips c.args.self.now c.keep_up.new.self c.spend.new.self
    (moves_then (c.args.op ∷ []) flips c.args.self.now _ c.keep_up.new.self
    (moves_op flips c.args.op c.args.self.now _ c.in_ok-operate.ensures refl refl) c.in_ok-keep_up.ensures) c.in_ok-spend.ensures.sum c.in_ok-spend.ensures.facts
    c.in_ok-spend.ensures.left
