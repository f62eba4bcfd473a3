-- Gates in the place of others.
use Rattle.std.specs.Prelude.{ℕ, ◌≡◌, Bool, List, ◌++◌, length}
use Rattle.rv_gate.specs.Circuit.{Cascade}
use Rattle.rv_gate.specs.Gate.{run}
use Rattle.rv_gate.specs.declared.gate.Shape.{Shape}

-- gates make of each word of n bits what others make of it
abbrev pub ActSame : ℕ → List Shape → List Shape → Type 0
ActSame n old new = (word : List Bool) → length word ≡ n → run new word ≡ run old word

-- a circuit has other gates, which act the same
pub record Rewrites (old new : Cascade) : Type 0 where
  pub is : new ≡ record old { gates = new.gates }
  pub same : ActSame (length old.names) old.gates new.gates

-- gates have come to a circuit that act as these do
pub record AppendsSame (gates : List Shape) (old new : Cascade) : Type 0 where
  pub block : List Shape
  pub is : new ≡ record old { gates = old.gates ++ block }
  pub same : ActSame (length old.names) gates block
