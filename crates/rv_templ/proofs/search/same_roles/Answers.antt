use Rattle.std.proofs.Common.{◌≡◌, true, sym, ◌∙◌, ap, inl, inr, arith}
use Rattle.std.proofs.lemmas.Bool.{cases_eq}
use Rattle.rv_templ.specs.Gates.{gate_in}
use Rattle.rv_templ.specs.Images.{turned}
use Rattle.rv_templ.specs.inside.Pruning.{same_role}
use Rattle.rv_templ.proofs.LoopSteps.{gate_read}
use Rattle.rv_templ.proofs.search.same_roles.Goals as goal

pub loop-j-preserved : goal.loop-j-preserved
loop-j-preserved c k lt =
    let here : same_role (gate_in c.args.window.now c.loop-j.j) c.args.v (gate_in (turned c.args.r c.args.template.now) c.loop-j.j) c.args.i ≡ true =
    ap (λ g. same_role g c.args.v (gate_in (turned c.args.r c.args.template.now) c.loop-j.j) c.args.i) (sym (gate_read c.args.window.now c.loop-j.j c.index-window-j.result c.loop-j-test.true c.index-window-j.is))
    ∙ ap (λ h. same_role c.index-window-j.result c.args.v h c.args.i) (sym c.turned_gate-gate.ensures)
    ∙ sym c.same_role-same.ensures ∙ c.if-not-same.false in
    elim (cases_eq k c.loop-j.j) [
      | inl s ↦ ap (λ n. same_role (gate_in c.args.window.now n) c.args.v (gate_in (turned c.args.r c.args.template.now) n) c.args.i) s ∙ here
      | inr ne ↦ c.loop-j.invariant k (omega arith)
    ]
