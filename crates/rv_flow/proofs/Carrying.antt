-- A network of a circuit that computes a permutation carries the permutation.
use Rattle.std.proofs.Common.{◌≡◌, ℕ, ◌+◌, Bool, List, ◌++◌, length, sym, ◌∙◌, ap}
use Rattle.rv_gate.specs.Circuit.{Cascade}
use Rattle.rv_gate.specs.Gate.{run}
use Rattle.rv_gate.specs.declared.gate.Shape.{Shape}
use Rattle.rv_perm.specs.Marked.{IsMarked, Marked}
use Rattle.rv_mct.specs.Extends.{Extends}
use Rattle.rv_mct.specs.Widened.{helper_count}
use Rattle.rv_mct.specs.declared.aux.Aux.{Aux}
use Rattle.rv_net.specs.Denotes.{Carries, CarriesExtended, amplitude_of_map}
use Rattle.rv_net.specs.declared.op.Op.{Op}
use Rattle.rv_perm.specs.Perm.{permuted}
use Rattle.rv_flow.specs.Flow.{circuit_for}
use Rattle.rv_flow.specs.declared.synthesis.Synthesis.{Synthesis}
use Rattle.rv_flow.proofs.Circuits.{IsFor, circuit-is, circuit-lines}

pub carries-map : (aux : Aux) (n extra lines : ℕ) (ops : List Op) (new old : List Shape) (map : List Bool → List Bool)
    → CarriesExtended lines ops new → n + extra ≡ lines → Extends aux n extra new old → ((word : List Bool) → length word ≡ n → run old word ≡ map word)
    → Carries aux n extra ops map
unfolding CarriesExtended Carries
carries-map aux n extra lines ops new old map carries count extends computes word held y len held_len may y_len =
    carries aux n extra old count extends word held y len held_len may y_len
    ∙ ap (λ w. amplitude_of_map ops (w ++ held) y) (computes word len)

-- of a permutation's circuit
pub carries-permutation : (synthesis : Synthesis) (simplify : Bool) (aux : Aux) (spec : Marked) (ops : List Op) → IsMarked spec
    → Carries aux (length (circuit_for synthesis simplify spec).names) (helper_count aux (circuit_for synthesis simplify spec)) ops (run (circuit_for synthesis simplify spec).gates)
    → Carries aux spec.table.lines (helper_count aux (circuit_for synthesis simplify spec)) ops (permuted spec.table)
unfolding Carries
carries-permutation synthesis simplify aux spec ops is carries word held y len held_len may y_len =
    let c : Cascade = circuit_for synthesis simplify spec in
    let width : length c.names ≡ spec.table.lines = circuit-lines synthesis simplify spec in
    let for : IsFor spec c.gates = circuit-is synthesis simplify spec is in
    carries word held y (len ∙ sym width) held_len may (y_len ∙ ap (λ n. n + helper_count aux c) (sym width))
    ∙ ap (λ w. amplitude_of_map ops (w ++ held) y) (for.computes word len)
