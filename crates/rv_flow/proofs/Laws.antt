-- The network of a circuit of as many lines as a permutation may have, and why there is none.
use Rattle.std.proofs.Common.{◌≡◌, ◌↔◌, ℕ, ◌+◌, ◌<◌, ◌≤◌, List, [], ◌∷◌, length, nat_lt, All, Bool, Result, Ok, Err, ◌⊎◌, refl, sym, ◌∙◌, ap, subst, inl, inr, arith}
use Rattle.std.specs.Prelude.{IfOk, MatchResult}
use Rattle.std.proofs.lemmas.Bool.{cases_lt, cond-false, cond-true, le-ltb, lt-ltb}
use Rattle.std.proofs.lemmas.List.Elements.{All-head, All-tail}
use Rattle.rv_gate.specs.Circuit.{Cascade, IsCascade}
use Rattle.rv_gate.specs.Gate.{FitsIn, IsGate, run}
use Rattle.rv_gate.specs.declared.circuit.TheConstants.{MOST_GATES}
use Rattle.rv_gate.specs.declared.gate.Shape.{Shape}
use Rattle.rv_gate.specs.declared.word.TheConstants.{MOST_LINES}
use Rattle.rv_perm.specs.Marked.{IsMarked, Marked}
use Rattle.rv_templ.specs.Gates.{AreGates}
use Rattle.rv_mct.specs.Extends.{Extends}
use Rattle.rv_mct.specs.Widened.{decomposed, gate_count, helper_count, lines_with_helpers}
use Rattle.rv_mct.specs.declared.aux.Aux.{Aux}
use Rattle.rv_mct.specs.declared.fault.MctFault.{MctFault}
use Rattle.rv_mct.specs.declared.fault.MctFault.TheVariants as decomposing
use Rattle.rv_mct.proofs.Decomposition.{decomposed-lines}
use Rattle.rv_net.specs.Denotes.{Carries, CarriesExtended}
use Rattle.rv_net.specs.Network.{expanded, network_of, operation_count}
use Rattle.rv_net.specs.Op.{Network}
use Rattle.rv_net.specs.declared.expanding.ExpandFault.{ExpandFault}
use Rattle.rv_net.specs.declared.expanding.ExpandFault.TheVariants as expanding
use Rattle.rv_net.specs.declared.net.Net.{Net}
use Rattle.rv_net.specs.declared.net.TheConstants.{MOST_OPS}
use Rattle.rv_perm.specs.Perm.{permuted}
use Rattle.rv_flow.specs.Flow.{circuit_for, network_by}
use Rattle.rv_flow.specs.declared.synthesis.Synthesis.{Synthesis}
use Rattle.rv_flow.specs.declared.flowing.FlowFault.{FlowFault}
use Rattle.rv_flow.specs.declared.flowing.FlowFault.TheVariants.{Gates, Mem, Ops}
use Rattle.rv_flow.proofs.inside.Bounds.{helpers-few}
use Rattle.rv_flow.proofs.Carrying.{carries-map, carries-permutation}
use Rattle.rv_flow.proofs.Circuits.{circuit-lines}
use Rattle.rv_templ.proofs.LinkedGates.{all_gates}

-- ---- lines

pub circuit-helpers : (aux : Aux) (c : Cascade) → IsCascade c → length c.names ≤ 16 → helper_count aux c ≤ 13
circuit-helpers aux c valid few = helpers-few aux (length c.names) c.gates few (all_gates (length c.names) c.gates valid.valid valid.fitting)

-- ---- refused

pub gates-refused : (aux : Aux) (c : Cascade) (count : ℕ) → gate_count aux c ≡ count → MOST_GATES < count → network_by aux c ≡ Err (Gates count)
gates-refused aux c count is many =
    cond-true (nat_lt MOST_GATES (gate_count aux c)) _ _ (lt-ltb MOST_GATES (gate_count aux c) (omega (arith, is, many))) ∙ ap (λ (n : ℕ). Err (Gates n)) is

-- what is not refused is few
few_by : {X E : Type 0} (x : X) (fault : E) (most count : ℕ) → (most < count → ◌≡◌ {A = Result X E} (Ok x) (Err fault)) → count ≤ most
few_by x fault most count refuses = elim (cases_lt most count) [ inl many ↦ absurd (let z = refuses many in cc) | inr few ↦ few ]

module _ {X : Type 0} (aux : Aux) (c made : Cascade) (x : X) (valid : IsCascade c) (few : length c.names ≤ 16) (is : made ≡ decomposed aux c)
    (gates_exact : (n : ℕ) → (◌≡◌ {A = Result X MctFault} (Ok x) (Err (decomposing.TooManyGates n)))
    ↔ ((lines_with_helpers aux c ≤ MOST_LINES) × (gate_count aux c ≡ n) × (MOST_GATES < n))) where
  narrow : lines_with_helpers aux c ≤ MOST_LINES
  narrow = omega (arith, circuit-helpers aux c valid few, few)

  small : gate_count aux c ≤ MOST_GATES
  small = few_by x (decomposing.TooManyGates (gate_count aux c)) MOST_GATES (gate_count aux c) (λ many. (gates_exact (gate_count aux c)).1 (narrow, refl, many))

  pub ops-refused : (count : ℕ) → operation_count made.gates ≡ count → MOST_OPS < count → network_by aux c ≡ Err (Ops count)
  ops-refused count counted many =
      let same : operation_count (decomposed aux c).gates ≡ count = ap (λ (d : Cascade). operation_count d.gates) (sym is) ∙ counted in
      cond-false (nat_lt MOST_GATES (gate_count aux c)) _ _ (le-ltb MOST_GATES (gate_count aux c) small)
      ∙ cond-true (nat_lt MOST_OPS (operation_count (decomposed aux c).gates)) _ _ (lt-ltb MOST_OPS (operation_count (decomposed aux c).gates) (omega (arith, same, many)))
      ∙ ap (λ (n : ℕ). Err (Ops n)) same

  pub network-made : {Y : Type 0} (y : Y) (net : Network) → net ≡ expanded made
      → ((n : ℕ) → (◌≡◌ {A = Result Y ExpandFault} (Ok y) (Err (expanding.TooManyOps n))) ↔ ((operation_count made.gates ≡ n) × (MOST_OPS < n)))
      → network_by aux c ≡ Ok net
  network-made y net expands ops_exact =
      let count : ℕ = operation_count (decomposed aux c).gates in
      let same : operation_count made.gates ≡ count = ap (λ (d : Cascade). operation_count d.gates) is in
      let short : count ≤ MOST_OPS = few_by y (expanding.TooManyOps count) MOST_OPS count (λ many. (ops_exact count).1 (same, many)) in
      cond-false (nat_lt MOST_GATES (gate_count aux c)) _ _ (le-ltb MOST_GATES (gate_count aux c) small)
      ∙ cond-false (nat_lt MOST_OPS count) _ _ (le-ltb MOST_OPS count short)
      ∙ ap (λ (d : Cascade). Ok (expanded d)) (sym is) ∙ ap (λ (n : Network). Ok n) (sym expands)

  pub made-lines : (net : Network) → net ≡ expanded made → net.lines ≡ lines_with_helpers aux c
  made-lines net expands = ap (λ (n : Network). n.lines) expands ∙ ap (λ (d : Cascade). length d.names) is ∙ decomposed-lines aux c narrow

  pub network-few : (net : Network) → net ≡ expanded made → net.lines ≤ length c.names + 13
  network-few net expands = omega (arith, made-lines net expands, circuit-helpers aux c valid few)

  pub network-carries : (net : Network) (extra : ℕ) → net ≡ expanded made → extra ≡ helper_count aux c → Extends aux (length c.names) extra made.gates c.gates
      → CarriesExtended (length made.names) (network_of made.gates) made.gates → Carries aux (length c.names) (helper_count aux c) net.ops (run c.gates)
  network-carries net extra expands added extends given =
      let carries : CarriesExtended net.lines net.ops made.gates = subst (λ (n : Network). CarriesExtended n.lines n.ops made.gates) (sym expands) given in
      let extended : Extends aux (length c.names) (helper_count aux c) made.gates c.gates = subst (λ k. Extends aux (length c.names) k made.gates c.gates) added extends in
      carries-map aux (length c.names) (helper_count aux c) net.lines net.ops made.gates c.gates (run c.gates) carries (sym (made-lines net expands)) extended (λ word len. refl)

-- ---- of a permutation

abbrev Answers : Result Net FlowFault → Aux → Cascade → Type 0
Answers result aux c = MatchResult result (λ net. network_by aux c ≡ Ok net) (λ fault. (fault ≡ Mem) ⊎ (network_by aux c ≡ Err fault))

pub flow-answers : (result : Result Net FlowFault) (aux : Aux) (c made : Cascade) → c ≡ made → Answers result aux c → Answers result aux made
flow-answers result aux c made is answers = subst (λ (d : Cascade). Answers result aux d) is answers

module _ (synthesis : Synthesis) (simplify : Bool) (aux : Aux) (spec : Marked) (c : Cascade) (is : c ≡ circuit_for synthesis simplify spec) where
  pub flow-carries : (result : Result Net FlowFault) → IsMarked spec → IfOk result (λ net. Carries aux (length c.names) (helper_count aux c) net.ops (run c.gates))
      → IfOk result (λ net. Carries aux spec.table.lines (helper_count aux (circuit_for synthesis simplify spec)) net.ops (permuted spec.table))
  flow-carries (Ok net) valid carries =
      let P : Cascade → Type 0 = λ d. Carries aux (length d.names) (helper_count aux d) net.ops (run d.gates) in
      carries-permutation synthesis simplify aux spec net.ops valid (subst P is carries)
  flow-carries (Err fault) valid carries = tt

  pub flow-lines : (result : Result Net FlowFault) → IfOk result (λ net. net.lines ≡ lines_with_helpers aux c)
      → IfOk result (λ net. net.lines ≡ spec.table.lines + helper_count aux (circuit_for synthesis simplify spec))
  flow-lines (Ok net) lines =
      lines ∙ ap (λ (d : Cascade). lines_with_helpers aux d) is ∙ ap (λ n. n + helper_count aux (circuit_for synthesis simplify spec)) (circuit-lines synthesis simplify spec)
  flow-lines (Err fault) lines = tt

  pub flow-few : (result : Result Net FlowFault) → IfOk result (λ net. net.lines ≤ length c.names + 13) → IfOk result (λ net. net.lines ≤ spec.table.lines + 13)
  flow-few (Ok net) few =
      let width : length c.names ≡ spec.table.lines = ap (λ (d : Cascade). length d.names) is ∙ circuit-lines synthesis simplify spec in
      omega (arith, few, width)
  flow-few (Err fault) few = tt
