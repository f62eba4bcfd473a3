-- The first node that has a gate.
use Rattle.std.specs.Prelude.{◌≡◌, ◌≢◌, ℕ, ◌≤◌, List, IsTrue}
use Rattle.rv_gate.specs.declared.gate.Shape.{Shape}
use Rattle.rv_links.specs.declared.sought.Sought.{Sought}
use Rattle.rv_links.specs.declared.sought.Sought.TheVariants.{Unknown, Nowhere, At}
use Rattle.rv_links.specs.Nodes.{Node, live, node_gate}

-- the node b is the first from a number on that has the gate
pub record IsFirst (nodes : List Node) (gate : Shape) (from b : ℕ) : Type 0 where
  pub on : IsTrue (live b nodes)
  pub gate_is : node_gate b nodes ≡ gate
  pub late : from ≤ b
  pub least : (x : ℕ) → IsTrue (live x nodes) → from ≤ x → node_gate x nodes ≡ gate → b ≤ x

-- what an answer tells of the nodes from a number on
abbrev pub Tells : List Node → Shape → ℕ → Sought → Type 0
Tells nodes gate from Unknown = Unit {0}
Tells nodes gate from Nowhere = (x : ℕ) → IsTrue (live x nodes) → from ≤ x → node_gate x nodes ≢ gate
Tells nodes gate from (At b) = IsFirst nodes gate from b

-- an answer that names a node names none after x; one that knows nothing tells nothing
abbrev pub Reaches : Sought → ℕ → Type 0
Reaches Unknown x = Unit {0}
Reaches Nowhere x = ⊥
Reaches (At b) x = b ≤ x

-- an answer that names a node names one of the nodes, and none before a number
abbrev pub Found : List Node → ℕ → Sought → Type 0
Found nodes from Unknown = Unit {0}
Found nodes from Nowhere = Unit {0}
Found nodes from (At b) = IsTrue (live b nodes) × (from ≤ b)
