use Rattle.std.proofs.Common.{arith, ◌∷◌, [], ap, ◌∙◌, length, ◌≤◌, ◌<◌, ◌≡◌, get_or, refl}
use Rattle.std.specs.List.{flat_map}
use Rattle.std.proofs.lemmas.List.{take_all}
use Rattle.std.proofs.lemmas.Option.{slice_get_read}
use Rattle.rv_gate.specs.declared.gate.Shape.{Shape}
use Rattle.rv_text.specs.Spelled.{spelled}
use Rattle.rv_io.proofs.Adding.{adds_as}
use Rattle.rv_real.specs.Text.{gate_words}
use Rattle.rv_io.proofs.Pieces.{adds_more}
use Rattle.rv_text.proofs.Pieces.{spelled-map}
use Rattle.rv_real.proofs.write.put_gates.Goals as goal

pub loop-gate-preserved : goal.loop-gate-preserved
loop-gate-preserved g c =
    let names = c.args.circuit.now.names in
    let gates = c.args.circuit.now.gates in
    let gate = c.gate-item.result in
    let lt : c.loop-gate.gate-index < length gates = let e = ap length c.gates-gate-items.ensures in omega arith in
    let here : gate ≡ get_or gates c.loop-gate.gate-index gate = c.gate-item.is ∙ ap (λ items. get_or items c.loop-gate.gate-index gate) c.gates-gate-items.ensures in
    adds_more (λ one. spelled (gate_words names one ∷ [])) gates c.loop-gate.gate-index gate (slice_get_read gates (length gates) c.loop-gate.gate-index gate refl lt here)
    c.loop-gate.invariant
    (adds_as (ap (λ ns. spelled (gate_words ns gate ∷ [])) c.names-names.ensures) c.put_gate.ensures)

pub returns : goal.returns
returns g c =
    let names = c.args.circuit.now.names in
    let gates = c.args.circuit.now.gates in
    let all : length gates ≤ c.loop-gate.gate-index = let e = ap length c.gates-gate-items.ensures in omega arith in
    adds_as (ap (flat_map (λ (gate : Shape). spelled (gate_words names gate ∷ []))) (take_all c.loop-gate.gate-index gates all) ∙ spelled-map (gate_words names) gates)
    c.loop-gate.invariant
