-- Functions of a diagram copied into another one.
use Rattle.std.specs.Prelude.{◌≡◌, ℕ, ◌<◌, Bool, false, List, length, get_or}
use Rattle.rv_diagram.specs.declared.edge.Edge.{Edge}
use Rattle.rv_diagram.specs.declared.edge.Node.{Node}
use Rattle.rv_diagram.specs.Diagram.{IsEdge, value}

-- the edge to a node that is not turned
abbrev pub upright : ℕ → Edge
upright number = record { node = number; turned = false }

-- an edge stands for the same function as one of another diagram
pub record IsCopy (old new : List Node) (edge made : Edge) : Type 0 where
  pub within : IsEdge new made
  pub value : (x : List Bool) → value new made x ≡ value old edge x

-- at the number of a node stands its copy, if any edge but a constant does
abbrev pub AreCopies : List Node → List Node → List Edge → Type 0
AreCopies old new copies = (number : ℕ) (d : Edge) → number < length copies → 0 < (get_or copies number d).node → IsCopy old new (upright number) (get_or copies number d)
