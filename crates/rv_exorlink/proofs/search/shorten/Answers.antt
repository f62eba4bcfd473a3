use Rattle.std.proofs.Common.{List, subst}
use Rattle.rv_pla.specs.declared.cube.Cube.{Cube}
use Rattle.rv_exorlink.specs.Lists.{IsSameBut}
use Rattle.rv_exorlink.specs.Weight.{IsNoWorse}
use Rattle.rv_exorlink.proofs.Steps.{same_trans}
use Rattle.rv_exorlink.proofs.Finds.{no_worse_trans}
use Rattle.rv_exorlink.proofs.search.shorten.Goals as goal

pub returns-clause-same : goal.returns-clause-same
returns-clause-same c =
    let n = c.args.inputs in
    let free = c.args.free.now in
    let new = c.in_ok-cubes.field-0.items in
    let P : List Cube → Type 0 = λ l. IsSameBut n free l c.in_ok-walked.walked.items in
    let Q : List Cube → Type 0 = λ l. IsSameBut n free l new in
    same_trans n free c.args.cubes.now.items c.in_ok-walked.walked.items new
    (subst P c.deref.ensures.value c.in_ok-walked.ensures.same)
    (subst Q c.deref-2.ensures.value c.in_ok-cubes.ensures.same)

pub returns-clause-better : goal.returns-clause-better
returns-clause-better c =
    let goal = c.args.goal in
    let new = c.in_ok-cubes.field-0.items in
    let P : List Cube → Type 0 = λ l. IsNoWorse goal l c.in_ok-walked.walked.items in
    let Q : List Cube → Type 0 = λ l. IsNoWorse goal l new in
    no_worse_trans goal c.args.cubes.now.items c.in_ok-walked.walked.items new
    (subst P c.deref.ensures.value c.in_ok-walked.ensures.better)
    (subst Q c.deref-2.ensures.value c.in_ok-cubes.ensures.better)
