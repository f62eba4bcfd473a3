-- What `synth` writes: by the definitions alone, it is a circuit that computes the permutation.
use Rattle.std.proofs.Common.{ℕ, List, length, nat_lt, sym, subst, inl, inr, arith}
use Rattle.std.proofs.lemmas.Bool.{cases_Bool, cond-false, cond-true, ltb-false, ltb-true}
use Rattle.rv_gate.specs.declared.gate.Shape.{Shape}
use Rattle.rv_perm.specs.Marked.{IsMarked, Marked}
use Rattle.rv_tbs.specs.Synthesis.{both_gates, fewer, gates_of, out_gates, synthesis_of}
use Rattle.rv_tbs.specs.declared.method.Method.{Method}
use Rattle.rv_tbs.specs.declared.method.Method.TheVariants.{Best, Both, Out}
use Rattle.rv_tbs.proofs.Methods.{gates_of-synthesizes}
use Rattle.rv_cmd.specs.declared.product.Product.TheVariants.{Circuit}
use Rattle.rv_cmd.specs.Commands.Synth.{IsSynthesis, synth_report}
use Rattle.rv_cmd.proofs.inside.Common.{◌≡◌, ◌≤◌, [], Cascade, IsCascade, IsProductOf, circuit-written}

-- the list of fewer gates is no longer than either
fewer-least : (a b : List Shape) → (length (fewer a b) ≤ length a) × (length (fewer a b) ≤ length b)
fewer-least a b =
    let P : List Shape → Type 0 = λ gates. (length gates ≤ length a) × (length gates ≤ length b) in
    elim (cases_Bool (nat_lt (length a) (length b))) [
      | inl less ↦ subst P (sym (cond-true (nat_lt (length a) (length b)) a b less)) (let lt = ltb-true _ _ less in (omega arith, omega (arith, lt)))
      | inr not_less ↦ subst P (sym (cond-false (nat_lt (length a) (length b)) a b not_less)) (let le = ltb-false _ _ not_less in (omega (arith, le), omega arith))
    ]

best-shortest : (n : ℕ) (images : List ℕ) (other : Method) → length (gates_of Best n images) ≤ length (gates_of other n images)
best-shortest n images Out = (fewer-least (both_gates n images) (out_gates n images)).1
best-shortest n images Both = (fewer-least (both_gates n images) (out_gates n images)).0
best-shortest n images Best = omega arith

-- the code found this circuit; nothing is refused
pub synth-answers : (method : Method) (spec : Marked) (circuit : Cascade) → IsMarked spec → circuit ≡ synthesis_of method spec → IsCascade circuit
    → IsProductOf (synth_report method spec) (IsSynthesis method spec) (Circuit circuit)
synth-answers method spec circuit marked is valid =
    let s = gates_of-synthesizes method spec.table.lines spec.table.images marked.permutes in
    let Shortest : Method → Type 0 = λ m. (other : Method) → length (gates_of m spec.table.lines spec.table.images) ≤ length (gates_of other spec.table.lines spec.table.images) in
    circuit-written [] (IsSynthesis method spec) (synthesis_of method spec) circuit tt is valid (λ back. record {
      read_back = back;
      computes = s.computes;
      bound = s.few;
      shortest = λ best. subst Shortest (sym best) (best-shortest spec.table.lines spec.table.images);
    })
