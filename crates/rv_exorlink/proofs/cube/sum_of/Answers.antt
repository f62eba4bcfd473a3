use Rattle.std.proofs.Common.{subst, sym, arith}
use Rattle.rv_pla.specs.declared.cube.Cube.{Cube}
use Rattle.rv_exorlink.specs.Sums.{IsSum}
use Rattle.rv_exorlink.proofs.Cubes.{same_set, one_set}
use Rattle.rv_exorlink.proofs.cube.sum_of.Goals as goal

pub returns-then-apart-eq0 : goal.returns-then-apart-eq0
returns-then-apart-eq0 c =
    same_set c.args.inputs c.args.a c.args.b c.differing_set-apart.result c.differing_set-apart.ensures
    c.if-apart-eq0.true

pub returns-then-apart-input : goal.returns-then-apart-input
returns-then-apart-input c =
    let P : Cube → Type 0 = λ sum. IsSum c.args.inputs c.args.a c.args.b sum in
    subst P (sym c.with_third.ensures)
    (one_set c.args.inputs c.args.a c.args.b c.differing_set-apart.result _ (omega arith) c.requires (omega arith)
    c.differing_set-apart.ensures c.if-apart-input.true)
