-- The order of all nodes.
use Rattle.std.specs.Prelude.{◌≡◌, ℕ, ◌<◌, ◌≤◌, List, [], length, map, slice_index_or, Option, Some, None, IsTrue}
use Rattle.rv_gate.specs.declared.gate.Shape.{Shape}
use Rattle.rv_gate.specs.declared.gate.Shape.TheVariants.{Flip}
use Rattle.rv_gate.specs.declared.word.TheConstants.{MOST_LINES}
use Rattle.rv_gate.specs.declared.circuit.TheConstants.{MOST_GATES}
use Rattle.rv_gate.specs.Gate.{FitsIn, IsGate}
use Rattle.rv_links.specs.Order.{lists, NoTwice}
use Rattle.rv_links.specs.Nodes.{Node, window_set, from_node}
use Rattle.rv_links.specs.inside.Ring.{Order}

abbrev pub blank : Shape
blank = Flip 0 0 0

abbrev pub gate_at : List Shape → ℕ → Shape
gate_at gates id = slice_index_or gates id blank

abbrev pub nodes_of : List Shape → List ℕ → List Node
nodes_of gates ids = map (λ id. let n : Node = record { id = id; gate = gate_at gates id } in n) ids

-- what holds of the fields of a linked cascade
pub record IsLinked (lines : ℕ) (gates : List Shape) (order : Order) : Type 0 where
  pub few : lines ≤ MOST_LINES
  pub most : length gates ≤ MOST_GATES
  pub room : order.room ≡ length gates
  pub once : NoTwice order.ids
  pub below : (id : ℕ) → IsTrue (lists id order.ids) → id < length gates
  pub fits : (id : ℕ) → IsTrue (lists id order.ids) → FitsIn (gate_at gates id) lines
  pub valid : (id : ℕ) → IsTrue (lists id order.ids) → IsGate (gate_at gates id)

-- the window from a node that may be missing
abbrev pub finish : Option ℕ → ℕ → List Shape → List Node → List Node
finish None count gates nodes = nodes
finish (Some a) count gates nodes = window_set a count gates nodes

abbrev pub nodes_from : Option ℕ → List Node → List Node
nodes_from None nodes = []
nodes_from (Some id) nodes = from_node id nodes
