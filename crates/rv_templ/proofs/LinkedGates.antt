-- The gates of a linked circuit.
use Rattle.std.proofs.Common.{ℕ, List, [], ◌∷◌, length}
use Rattle.std.specs.Prelude.{All}
use Rattle.std.proofs.lemmas.List.Elements.{All-nil, All-cons, All-head, All-tail}
use Rattle.rv_gate.specs.declared.gate.Shape.{Shape}
use Rattle.rv_gate.specs.Gate.{FitsIn, IsGate}
use Rattle.rv_links.specs.Nodes.{Linkage, IsLinkage, gates_in}
use Rattle.rv_templ.specs.Gates.{AreGates}

pub all_gates : (n : ℕ) (gates : List Shape) → All IsGate gates → All (λ g. FitsIn g n) gates → AreGates n gates
all_gates n [] valid fits = tt
all_gates n (g ∷ rest) valid fits = (
  All-head IsGate g rest valid,
  All-head (λ g. FitsIn g n) g rest fits,
  all_gates n rest (All-tail IsGate g rest valid) (All-tail (λ g. FitsIn g n) g rest fits),
)

pub linked_gates : (l : Linkage) → IsLinkage l → AreGates (length l.frame.names) (gates_in l.nodes)
linked_gates l is = all_gates (length l.frame.names) (gates_in l.nodes) is.circuit.valid is.circuit.fitting

pub all_fit : (n : ℕ) (gates : List Shape) → AreGates n gates → All (λ g. FitsIn g n) gates
all_fit n [] g = All-nil (λ g. FitsIn g n)
all_fit n (g ∷ rest) are = All-cons (λ g. FitsIn g n) g rest are.1 (all_fit n rest are.2)
