use Rattle.std.proofs.Common.{ap, sym, ◌∙◌}
use Rattle.rv_tbs.specs.Synthesis.{applied_in}
use Rattle.rv_tbs.proofs.inside.BothSides.{applied_in-more, applied_in-all}
use Rattle.rv_tbs.proofs.both.apply_to_inputs.Goals as goal

pub loop-gate-preserved : goal.loop-gate-preserved
loop-gate-preserved c = (
  c.apply_in.ensures.lines ∙ c.loop-gate.invariant.0,
  applied_in-more c.args.gates.now c.loop-gate.gate-index c.gate-item.result c.loop-gate.table.lines c.apply_in.new.self.lines _ _ _
      c.loop-gate-test.true c.gate-item.is c.apply_in.ensures.lines c.apply_in.ensures.images
      (c.loop-gate.invariant.1 ∙ ap (λ n. applied_in c.args.gates.now n c.args.table.now.images) (sym c.apply_in.ensures.lines)),
)

pub returns-clause-images : goal.returns-clause-images
returns-clause-images c =
    applied_in-all c.args.gates.now c.loop-gate.gate-index c.loop-gate.table.lines _ _ c.loop-gate-test.false c.loop-gate.invariant.1
    ∙ ap (λ m. applied_in c.args.gates.now m c.args.table.now.images) c.loop-gate.invariant.0
