-- What every caller may know of the circuit of a permutation.
use Rattle.std.proofs.Common.{◌≡◌, ◌≤◌, ◌∙◌, ℕ, ◌+◌, Bool, List, length, ap, arith, subst, sym}
use Rattle.rv_gate.specs.Circuit.{Cascade, IsCascade}
use Rattle.rv_gate.specs.Gate.{run}
use Rattle.rv_gate.specs.declared.word.TheConstants.{MOST_LINES}
use Rattle.rv_perm.specs.Marked.{IsMarked, Marked}
use Rattle.rv_perm.specs.Perm.{permuted}
use Rattle.rv_mct.specs.Widened.{helper_count, lines_with_helpers}
use Rattle.rv_mct.specs.declared.aux.Aux.{Aux}
use Rattle.rv_flow.specs.Flow.{circuit_for}
use Rattle.rv_flow.specs.declared.synthesis.Synthesis.{Synthesis}
use Rattle.rv_flow.proofs.Circuits.{circuit-is, circuit-lines}
use Rattle.rv_flow.proofs.Laws.{circuit-helpers}

module _ (synthesis : Synthesis) (simplify : Bool) (spec : Marked) (c : Cascade) (valid : IsMarked spec) (kept : IsCascade c) (is : c ≡ circuit_for synthesis simplify spec) where
  pub found-lines : length c.names ≡ spec.table.lines
  found-lines = ap (λ (d : Cascade). length d.names) is ∙ circuit-lines synthesis simplify spec

  pub found-computes : (word : List Bool) → length word ≡ spec.table.lines → run c.gates word ≡ permuted spec.table word
  found-computes word len = ap (λ (d : Cascade). run d.gates word) is ∙ (circuit-is synthesis simplify spec valid).computes word len

  pub found-helpers : (aux : Aux) → helper_count aux c ≤ 13
  found-helpers aux = circuit-helpers aux c kept (omega (arith, found-lines, valid.permutes.1))

  pub found-few : (aux : Aux) → lines_with_helpers aux c ≤ MOST_LINES
  found-few aux = omega (arith, found-helpers aux, found-lines, valid.permutes.1)
