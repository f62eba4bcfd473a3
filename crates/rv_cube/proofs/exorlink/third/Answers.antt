use Rattle.std.proofs.Common.{sym, subst}
use Rattle.rv_pla.specs.Cube.{IsCube}
use Rattle.rv_pla.specs.declared.cube.TheConstants.{MOST_OUTPUTS}
use Rattle.rv_cube.proofs.inside.Merges.{with_third_cube}
use Rattle.rv_cube.proofs.exorlink.third.Goals as goal

pub returns-clause-valid : goal.returns-clause-valid
returns-clause-valid c =
    subst (IsCube c.args.slots.now.inputs MOST_OUTPUTS) (sym c.with_third.ensures)
    (with_third_cube c.args.slots.now.inputs MOST_OUTPUTS c.args.a c.args.b c.args.input c.requires.within c.requires.valid)
