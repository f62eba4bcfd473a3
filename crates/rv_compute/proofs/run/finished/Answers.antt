use Rattle.std.proofs.Common.{rules, ℕ, ◌+◌, List, length, ap, subst, ◌∙◌}
use Rattle.std.specs.Prelude.{Option}
use Rattle.rv_gate.specs.declared.gate.Shape.{Shape}
use Rattle.rv_compute.specs.inside.Blocks.{AreGates}
use Rattle.rv_compute.specs.inside.Held.{IsDone}
use Rattle.rv_compute.proofs.run.finished.Goals as goal

pub circuit_of-requires-clause-ended : goal.circuit_of-requires-clause-ended
circuit_of-requires-clause-ended c =
    let n = c.input_count.result in
    let o = c.output_count.result in
    let P : List Shape → Type 0 = λ g. AreGates (n + o + c.args.extra) g in
    let Q : List (Option ℕ) → Type 0 = λ h. IsDone c.args.logic.now h in
    record {
      held = c.args.work.held.items;
      stands = c.requires.stands;
      done = subst Q c.deref.ensures.value (c.is_done.ensures (search rules));
      fit =
          subst (λ (l : ℕ). AreGates l c.args.work.gates.items)
          (ap (λ k. k + o + c.args.extra) c.input_count.ensures.value
          ∙ ap (λ k. length c.args.logic.now.inputs + k + c.args.extra) c.output_count.ensures.value)
          (subst P c.deref-2.ensures.value (c.all_fit.ensures (search rules)));
    }
