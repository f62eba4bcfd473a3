use Rattle.std.proofs.Common.{sym, subst, arith}
use Rattle.rv_pla.specs.Cube.{One, Zero, IsCube}
use Rattle.rv_exorlink.proofs.change.difference.Goals as goal
use Rattle.rv_exorlink.proofs.Cubes.{part_cube}
use Rattle.rv_cube.proofs.inside.Merges.{with_cube}

pub returns-then-input-inputs : goal.returns-then-input-inputs
returns-then-input-inputs c = λ outputs v. part_cube c.args.inputs outputs c.args.cube c.args.outs v

pub returns-then-has : goal.returns-then-has
returns-then-has c =
    λ outputs v. subst (IsCube c.args.inputs outputs) (sym c.with_zero.ensures)
    (with_cube c.args.inputs outputs c.args.cube c.args.input Zero (omega arith) v)

pub returns-else-has : goal.returns-else-has
returns-else-has c =
    λ outputs v. subst (IsCube c.args.inputs outputs) (sym c.with_one.ensures)
    (with_cube c.args.inputs outputs c.args.cube c.args.input One (omega arith) v)
