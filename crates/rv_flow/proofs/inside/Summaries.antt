-- What each step makes of a generated permutation is little.
use Rattle.std.proofs.Common.{◌≡◌, ℕ, ◌*◌, ◌^◌, ◌≤◌, false, true, length, refl, sym, ◌∙◌, ap, subst, arith}
use Rattle.std.proofs.Math.Nat.{mul-le-mul_left, one-le-pow, pow-le-pow_right}
use Rattle.std.proofs.lemmas.List.{length-replicate}
use Rattle.rv_gate.specs.Circuit.{Cascade}
use Rattle.rv_gate.specs.declared.circuit.Mark.TheVariants.{Input}
use Rattle.rv_perm.specs.Marked.{IsMarked, Marked, unmarked}
use Rattle.rv_tbs.specs.Synthesis.{synthesis_of}
use Rattle.rv_tbs.specs.declared.method.Method.TheVariants.{Best}
use Rattle.rv_templ.specs.BuiltIn.{built_in}
use Rattle.rv_templ.proofs.BuiltInLaws.{built_in_are}
use Rattle.rv_mct.specs.Blocks.{added}
use Rattle.rv_mct.specs.Widened.{decomposed, gate_count, helper_count, lines_with_helpers}
use Rattle.rv_mct.specs.declared.aux.Aux.TheVariants.{Borrowed}
use Rattle.rv_net.specs.Network.{expanded}
use Rattle.rv_cost.specs.NetCost.{net_cost}
use Rattle.rv_flow.specs.Flow.{circuit_for, simplified_if}
use Rattle.rv_flow.specs.Generator.{generated}
use Rattle.rv_flow.specs.Summary.{summary_by, summary_of}
use Rattle.rv_flow.specs.declared.synthesis.Synthesis.TheVariants.{Rows}
use Rattle.rv_flow.specs.inside.Few.{AreFew}
use Rattle.rv_flow.proofs.inside.Bounds.{borrowed-few, cost-few}
use Rattle.rv_flow.proofs.Circuits.{IsFor, circuit-is, circuit-lines}
use Rattle.rv_flow.proofs.Generated.{generated-perm}
use Rattle.rv_flow.proofs.Kept.{Keeps, by_simplifying}

marked : (lines seed : ℕ) → 1 ≤ lines → lines ≤ 8 → IsMarked (unmarked (generated lines seed))
marked lines seed some few = record {
  permutes = generated-perm lines seed some (omega (arith, few)) (one-le-pow lines 2 (omega arith));
  constants = length-replicate lines Input;
  garbage = length-replicate lines false;
}

are_few : (lines seed : ℕ) → 1 ≤ lines → lines ≤ 8 → AreFew (circuit_for (Rows Best) false (unmarked (generated lines seed))) (circuit_for (Rows Best) true (unmarked (generated lines seed)))
are_few lines seed some few =
    let spec : Marked = unmarked (generated lines seed) in
    let is : IsMarked spec = marked lines seed some few in
    let found : Cascade = circuit_for (Rows Best) false spec in
    let simpler : Cascade = circuit_for (Rows Best) true spec in
    let first : IsFor spec found.gates = circuit-is (Rows Best) false spec is in
    let then : IsFor spec simpler.gates = circuit-is (Rows Best) true spec is in
    let kept : Keeps lines found.gates simpler.gates = by_simplifying lines built_in found.gates built_in_are (omega (arith, few)) first.good in
    let words : 2 ^ lines ≤ 2 ^ 8 = pow-le-pow_right {n = 2} (omega arith) few in
    let all : lines * 2 ^ lines ≤ lines * 256 = mul-le-mul_left lines words in
    let gates : length found.gates ≤ 2048 = omega (arith, first.few, all, few) in
    let width : length simpler.names ≡ lines = circuit-lines (Rows Best) true spec in
    let helpers : helper_count Borrowed simpler ≤ 1 = subst (λ n. added Borrowed n simpler.gates ≤ 1) (sym width) (borrowed-few lines simpler.gates (omega (arith, few)) then.good) in
    let cost : gate_count Borrowed simpler ≤ 32 * length simpler.gates = cost-few lines (lines_with_helpers Borrowed simpler) simpler.gates few then.flips then.good in
    record {
      gates = gates;
      fewer = kept.fewer;
      helpers = helpers;
      lines = omega (arith, helpers, width, few);
      decomposed = omega (arith, cost, kept.fewer, gates);
    }

-- of what the code found
pub found-few : (lines seed : ℕ) (spec : Marked) (found simpler : Cascade) → 1 ≤ lines → lines ≤ 8 → spec ≡ unmarked (generated lines seed)
    → found ≡ synthesis_of Best spec → simpler ≡ simplified_if true found → AreFew found simpler
found-few lines seed spec found simpler some few given made then =
    let found_is : found ≡ circuit_for (Rows Best) false (unmarked (generated lines seed)) = made ∙ ap (synthesis_of Best) given in
    let simpler_is : simpler ≡ circuit_for (Rows Best) true (unmarked (generated lines seed)) = then ∙ ap (simplified_if true) found_is in
    rw (found_is, simpler_is) (are_few lines seed some few)

-- the numbers of what the code found are those of the definition
pub summary-is : (lines seed : ℕ) (found simpler : Cascade) → found ≡ synthesis_of Best (unmarked (generated lines seed)) → simpler ≡ simplified_if true found
    → summary_by lines seed found simpler (net_cost (expanded (decomposed Borrowed simpler))) ≡ summary_of lines seed
summary-is lines seed found simpler found_is simpler_is = rw (simpler_is, found_is) refl
