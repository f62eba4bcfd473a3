use Rattle.std.proofs.Common.{◌≡◌, ◌∙◌, List, ap, subst, sym, arith}
use Rattle.std.specs.List.{sum_by}
use Rattle.rv_pla.specs.declared.cube.Cube.{Cube}
use Rattle.rv_exorlink.specs.Lists.{IsSameBut}
use Rattle.rv_exorlink.specs.Weight.{weight, IsNoWorse}
use Rattle.rv_exorlink.proofs.Steps.{same_trans, same_is}
use Rattle.rv_exorlink.proofs.search.walk.Goals as goal
use Rattle.rv_exorlink.proofs.search.walk.Goals.{then-len-most+then-weight-best_weight+in_ok-best-2, then-len-most+else-weight-best_weight, else-len-most}

pub loop-round-preserved : goal.loop-round-preserved
loop-round-preserved c =
    let old = c.args.cubes.now in
    let now = c.sweep.new.cubes.items in
    let best = c.loop-round.best.items in
    let new = c.if-len-most.best.items in
    let before = c.loop-round.invariant in
    let Better : List Cube → Type 0 = λ l. IsNoWorse c.args.goal old l in
    let here : IsSameBut c.args.inputs c.args.free.now old now =
    same_trans c.args.inputs c.args.free.now old c.loop-round.now.items now before.now_same c.in_ok-sweep.ensures in
    elim c.if-len-most.branch [
      | then-len-most+then-weight-best_weight+in_ok-best-2 w ↦
          let e : new ≡ now =
          ap (λ v. v.items) w.best-is ∙ w.in_ok-best-2.ensures.items ∙ w.deref-then-weight-best_weight.ensures.value in
          let value : w.total-weight.result ≡ sum_by (weight c.args.goal) now =
          w.total-weight.ensures ∙ ap (sum_by (weight c.args.goal)) w.deref.ensures.value in
          let test = w.if-weight-best_weight.true in
          let last = before.weight in
          let lighter = before.better.lighter in
          let few = w.if-len-most.true in
          let count = c.len.ensures in
          let most = c.most_of-most.ensures.value in
          record {
            now_same = here;
            best_same = same_is c.args.inputs c.args.free.now old now new e here;
            better = subst Better (sym e) (record { lighter = omega arith; few = omega arith });
            weight = w.best_weight-is ∙ value ∙ ap (sum_by (weight c.args.goal)) (sym e);
          }
      | then-len-most+else-weight-best_weight w ↦
          let e : new ≡ best = ap (λ v. v.items) w.best-is in
          record {
            now_same = here;
            best_same = same_is c.args.inputs c.args.free.now old best new e before.best_same;
            better = subst Better (sym e) before.better;
            weight = w.best_weight-is ∙ before.weight ∙ ap (sum_by (weight c.args.goal)) (sym e);
          }
      | else-len-most w ↦
          let e : new ≡ best = ap (λ v. v.items) w.best-is in
          record {
            now_same = here;
            best_same = same_is c.args.inputs c.args.free.now old best new e before.best_same;
            better = subst Better (sym e) before.better;
            weight = w.best_weight-is ∙ before.weight ∙ ap (sum_by (weight c.args.goal)) (sym e);
          }
    ]
