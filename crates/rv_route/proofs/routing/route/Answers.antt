use Rattle.std.proofs.Common.{◌≡◌, ℕ, List, All, length, ap, ◌∙◌, sym, subst}
use Rattle.std.proofs.lemmas.List.Elements.{All-weaker}
use Rattle.rv_gate.specs.Gate.{run, FitsIn, IsGate}
use Rattle.rv_gate.specs.Circuit.{Cascade}
use Rattle.rv_gate.specs.declared.gate.Shape.{Shape}
use Rattle.rv_route.specs.Placement.{home, IsNear}
use Rattle.rv_route.specs.Routed.{routed_from, routed}
use Rattle.rv_route.proofs.inside.Routes.{IsPlaced, placed, near, same_run}
use Rattle.rv_route.proofs.routing.route.Goals as goal

made : (c : goal.After-routed-2-1) → c.in_ok-gates.gates.items ≡ (routed c.args.circuit.now).gates
made c =
    c.in_ok-gates.ensures ∙ ap (λ n. routed_from (home n) c.gates-2.result.now) c.line_count-lines.ensures.value
    ∙ ap (routed_from (home (length c.args.circuit.now.names))) c.gates-2.ensures

pub set_gates-requires-clause-valid : goal.set_gates-requires-clause-valid
set_gates-requires-clause-valid c =
    let P : List Shape → Type 0 = All IsGate in
    subst P (sym (made c)) (All-weaker (IsPlaced (length c.args.circuit.now.names)) IsGate (λ g p. p.valid) _ (placed c.args.circuit.now c.line_count-lines.ensures.valid))

pub set_gates-requires-clause-fits : goal.set_gates-requires-clause-fits
set_gates-requires-clause-fits c =
    let same = ap (λ (r : Cascade). length r.names) c.in_ok-routed.ensures in
    let Q : ℕ → Type 0 = λ n. All (λ g. FitsIn g n) c.in_ok-gates.gates.items in
    let P : List Shape → Type 0 = All (λ g. FitsIn g (length c.args.circuit.now.names)) in
    subst Q (sym same) (subst P (sym (made c)) (All-weaker (IsPlaced (length c.args.circuit.now.names)) (λ g. FitsIn g (length c.args.circuit.now.names)) (λ g p. p.fits) _ (placed c.args.circuit.now c.line_count-lines.ensures.valid)))

gates_made : (c : goal.After-set_gates) → c.set_gates.new.self.gates ≡ (routed c.args.circuit.now).gates
gates_made c =
    ap (λ (r : Cascade). r.gates) c.set_gates.ensures ∙ c.in_ok-gates.ensures
    ∙ ap (λ n. routed_from (home n) c.gates-2.result.now) c.line_count-lines.ensures.value
    ∙ ap (routed_from (home (length c.args.circuit.now.names))) c.gates-2.ensures

pub returns-clause-same : goal.returns-clause-same
returns-clause-same c = λ word len. ap (λ gates. run gates word) (gates_made c) ∙ same_run c.args.circuit.now c.line_count-lines.ensures.valid word len

pub returns-clause-near : goal.returns-clause-near
returns-clause-near c =
    let P : List Shape → Type 0 = All IsNear in
    subst P (sym (gates_made c)) (near c.args.circuit.now c.line_count-lines.ensures.valid)
