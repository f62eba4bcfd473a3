use Rattle.std.proofs.Common.{List, refl, arith, subst}
use Rattle.rv_gate.specs.declared.gate.Shape.TheVariants.{Flip}
use Rattle.rv_terms.specs.declared.sum.Sum.{Sum}
use Rattle.rv_sums.specs.inside.State.{AreTurned}
use Rattle.rv_sums.proofs.inside.Gates.{gate_takes}
use Rattle.rv_sums.proofs.path_sum.PathSum.put_flip.Goals as goal

pub returns : goal.returns
returns c =
    let target = c.args.target in
    let with = c.in_ok-with.with in
    gate_takes c.args.facts.now.sums.items c.len-lines.result (Flip c.args.care c.args.want target) target with c.args.self.now _ c.requires.target
    (omega (arith, c.len-lines.ensures)) c.in_ok-with.ensures
    (subst (λ (l : List Sum). AreTurned target with l c.in_ok-sums.sums.items) c.deref.ensures.value c.in_ok-sums.ensures)
    c.in_ok-phases.ensures refl
