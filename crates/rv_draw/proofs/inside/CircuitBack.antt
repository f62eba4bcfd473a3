-- The drawing of a circuit shows the circuit.
use Rattle.std.proofs.Common.{◌≡◌, ℕ, ◌≤◌, List, [], ◌∷◌, length, Some}
use Rattle.std.specs.Prelude.{All}
use Rattle.std.proofs.lemmas.List.Elements.{All-cons, All-head, All-nil, All-tail}
use Rattle.rv_gate.specs.Circuit.{Cascade, IsCascade}
use Rattle.rv_gate.specs.Gate.{FitsIn, IsGate}
use Rattle.rv_gate.specs.declared.gate.Shape.{Shape}
use Rattle.rv_draw.specs.Drawing.{drawing_of}
use Rattle.rv_draw.specs.Reading.{from_top, gate_of, picture_of, shown}
use Rattle.rv_draw.specs.Symbols.{symbol_on}
use Rattle.rv_draw.proofs.GatesShown.{column_of, gate_back}
use Rattle.rv_draw.proofs.inside.ReadBack.{AreRead, read_back}

pub gates_read : (n : ℕ) (gates : List Shape) → All IsGate gates → All (λ gate. FitsIn gate n) gates → AreRead symbol_on gate_of from_top n gates
gates_read n [] are fit = All-nil (λ g. gate_of (column_of n g) ≡ Some (from_top g))
gates_read n (gate ∷ gates) are fit =
    All-cons (λ g. gate_of (column_of n g) ≡ Some (from_top g)) gate gates
    (gate_back gate n (All-head IsGate gate gates are) (All-head (λ g. FitsIn g n) gate gates fit))
    (gates_read n gates (All-tail IsGate gate gates are) (All-tail (λ g. FitsIn g n) gate gates fit))

pub circuit_back : (per : ℕ) (c : Cascade) → 1 ≤ per → IsCascade c → shown (drawing_of per c) ≡ Some (picture_of c)
circuit_back per c some is = read_back symbol_on gate_of from_top per c c.gates some is (gates_read (length c.names) c.gates is.valid is.fitting)
