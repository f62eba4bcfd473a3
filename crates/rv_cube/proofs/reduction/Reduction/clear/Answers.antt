use Rattle.rv_cube.proofs.reduction.Reduction.clear.Goals as goal
use Rattle.rv_cube.proofs.inside.Keeps.{clear_keeps}

pub invariant_of-self : goal.invariant_of-self
invariant_of-self c =
    let s = c.self.inside in
    clear_keeps s.slots c.clear.new.self c.args.i s.merges s.exorlinks c.self.invariant c.clear.ensures
