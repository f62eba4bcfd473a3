use Rattle.std.proofs.Common.{◌∙◌, below_more}
use Rattle.std.proofs.lemmas.Bool.{eqb-true}
use Rattle.rv_optimal.specs.inside.Alike.{swapped}
use Rattle.rv_optimal.proofs.inside.Walking.{all_stay}
use Rattle.rv_optimal.proofs.alike.stay.Goals as goal

pub loop-step-preserved : goal.loop-step-preserved
loop-step-preserved c =
    let found = c.if-not-contains.ensures.cases in
    below_more _ _ c.loop-step.invariant (found.0, found.1, eqb-true _ _ (found.2 _) ∙ c.swapped.ensures)

pub returns : goal.returns
returns c _ step there =
    all_stay c.args.moves.now (swapped c.args.line) c.loop-step.step-index c.loop-step-test.false c.loop-step.invariant step there
