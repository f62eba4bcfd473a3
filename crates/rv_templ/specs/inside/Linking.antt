-- The gates of linked nodes, and places of them.
use Rattle.std.specs.Prelude.{◌≡◌, ℕ, zero, suc, ◌≤◌, List, length, drop, Option, None}
use Rattle.rv_gate.specs.declared.gate.Shape.{Shape}
use Rattle.rv_links.specs.Order.{head}
use Rattle.rv_links.specs.Nodes.{Node, ids_in, gates_in}
use Rattle.rv_links.specs.inside.Chains.{nodes_from}

-- the gates from a node on, which may be missing
abbrev pub coming : Option ℕ → List Node → List Shape
coming at nodes = gates_in (nodes_from at nodes)

-- the node directly before a place
abbrev pub node_before : ℕ → List Node → Option ℕ
node_before zero nodes = None
node_before (suc place) nodes = head (ids_in (drop place nodes))

-- a place, or the end, with the node directly before it
pub record IsCursor (nodes : List Node) (place : ℕ) (before : Option ℕ) : Type 0 where
  pub within : place ≤ length nodes
  pub node : before ≡ node_before place nodes
