-- Linked cascades: nodes in order, each with its gate.
use Rattle.std.specs.Prelude.{◌≡◌, ℕ, zero, suc, ◌+◌, Bool, IsTrue, ◌==◌, if◌then◌else◌, List, [], ◌∷◌, map, take, count_ones, slice_index_or}
use Rattle.rv_gate.specs.declared.gate.Shape.{Shape}
use Rattle.rv_gate.specs.declared.gate.Shape.TheVariants.{Flip}
use Rattle.rv_gate.specs.Gate.{touched}
use Rattle.rv_gate.specs.Circuit.{Cascade, IsCascade}
use Rattle.rv_links.specs.Order.{lists, NoTwice, Rising}

pub record Node : Type 0 where
  pub id : ℕ
  pub gate : Shape

-- names, labels and marks of lines, the nodes, and notes by their numbers
pub record Linkage : Type 0 where
  pub frame : Cascade
  pub nodes : List Node
  pub notes : List ℕ

-- the note of a node
abbrev pub noted : ℕ → List ℕ → ℕ
noted id notes = slice_index_or notes id 0

abbrev pub ids_in : List Node → List ℕ
ids_in nodes = map (λ n. n.id) nodes

abbrev pub gates_in : List Node → List Shape
gates_in nodes = map (λ n. n.gate) nodes

-- the circuit that is linked
abbrev pub circuit_of : Linkage → Cascade
circuit_of l = record l.frame { gates = gates_in l.nodes }

-- what every linked cascade keeps
pub record IsLinkage (l : Linkage) : Type 0 where
  pub circuit : IsCascade (circuit_of l)
  pub once : NoTwice (ids_in l.nodes)
  pub rising : Rising (ids_in l.nodes)

-- a number is that of a node
abbrev pub live : ℕ → List Node → Bool
live id nodes = lists id (ids_in nodes)

-- the gate of a node (a number of no node has a flip of line 0)
unfoldable pub node_gate : ℕ → List Node → Shape
node_gate id [] = Flip 0 0 0
node_gate id (n ∷ rest) = if id == n.id then n.gate else node_gate id rest

-- a node that stays, with its gate
pub record Stays (id : ℕ) (old new : List Node) : Type 0 where
  pub is_live : IsTrue (live id new)
  pub gate : node_gate id new ≡ node_gate id old

-- the list without a node
unfoldable pub erased : ℕ → List Node → List Node
erased id [] = []
erased id (n ∷ rest) = if id == n.id then rest else n ∷ erased id rest

-- a node with another gate
unfoldable pub regated : ℕ → Shape → List Node → List Node
regated id gate [] = []
regated id gate (n ∷ rest) = if id == n.id then (record { id = n.id; gate = gate }) ∷ rest else n ∷ regated id gate rest

-- the first count nodes get other gates, in order; those that get none go
unfoldable pub with_gates : ℕ → List Shape → List Node → List Node
with_gates zero gates nodes = nodes
with_gates (suc count) gates [] = []
with_gates (suc count) [] (n ∷ rest) = with_gates count [] rest
with_gates (suc count) (g ∷ gates) (n ∷ rest) = (record { id = n.id; gate = g }) ∷ with_gates count gates rest

-- the same from a node on
unfoldable pub window_set : ℕ → ℕ → List Shape → List Node → List Node
window_set first count gates [] = []
window_set first count gates (n ∷ rest) =
    if first == n.id then with_gates count gates (n ∷ rest) else n ∷ window_set first count gates rest

-- a node and all after it
unfoldable pub from_node : ℕ → List Node → List Node
from_node id [] = []
from_node id (n ∷ rest) = if id == n.id then n ∷ rest else from_node id rest

-- count nodes from one on, and their gates
abbrev pub window_ids : ℕ → ℕ → List Node → List ℕ
window_ids first count nodes = take count (ids_in (from_node first nodes))

abbrev pub window_gates : ℕ → ℕ → List Node → List Shape
window_gates first count nodes = take count (gates_in (from_node first nodes))

-- how many lines a gate touches
abbrev pub incidence : Shape → ℕ
incidence g = count_ones (touched g)

-- how many lines gates touch, in sum
unfoldable pub incidences : List Shape → ℕ
incidences [] = 0
incidences (g ∷ rest) = incidence g + incidences rest
