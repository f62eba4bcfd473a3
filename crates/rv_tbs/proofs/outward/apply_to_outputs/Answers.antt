use Rattle.std.proofs.Common.{ℕ, map, sym, ap, ◌∙◌}
use Rattle.std.proofs.lemmas.List.{drop_all}
use Rattle.rv_gate.specs.Gate.{run_on_number}
use Rattle.rv_tbs.proofs.inside.Loops.{apply_more}
use Rattle.rv_tbs.proofs.inside.OutGates.{map_run_none}
use Rattle.rv_tbs.proofs.outward.apply_to_outputs.Goals as goal

pub loop-gate-preserved : goal.loop-gate-preserved
loop-gate-preserved c = (
  c.apply_out.ensures.lines ∙ c.loop-gate.invariant.0,
  apply_more c.args.gates.now c.loop-gate.gate-index c.gate-item.result c.loop-gate.table.lines c.apply_out.new.self.lines _ _ _
      c.loop-gate-test.true c.gate-item.is c.apply_out.ensures.lines c.apply_out.ensures.images
      (c.loop-gate.invariant.1 ∙ ap (λ n. map (run_on_number c.args.gates.now n) c.args.table.now.images) (sym c.apply_out.ensures.lines)),
)

pub returns-clause-images : goal.returns-clause-images
returns-clause-images c =
    let n : ℕ = c.loop-gate.table.lines in
    sym (map_run_none n c.loop-gate.table.images c.recall_invariant.ensures)
    ∙ ap (λ l. map (run_on_number l n) c.loop-gate.table.images) (sym (drop_all c.loop-gate.gate-index c.args.gates.now c.loop-gate-test.false))
    ∙ c.loop-gate.invariant.1
    ∙ ap (λ m. map (run_on_number c.args.gates.now m) c.args.table.now.images) c.loop-gate.invariant.0
