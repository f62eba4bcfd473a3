-- Pairs of nodes.
use Rattle.std.specs.Prelude.{◌≡◌, ℕ, ◌-◌, ◌<◌, Bool, true, false, ◌&&◌, List, [], ◌∷◌, ◌++◌, length, Option, Some, None, IsTrue, IfSome}
use Rattle.rv_gate.specs.declared.gate.Shape.{Shape}
use Rattle.rv_gate.specs.declared.circuit.TheConstants.{MOST_GATES}
use Rattle.rv_gate.specs.Commuting.{rule}
use Rattle.rv_links.specs.Doubt.{IsBefore}
use Rattle.rv_links.specs.Nodes.{Node, live, node_gate, gates_in}
use Rattle.rv_templ.specs.Pairs.{paired, partner, pair_step}

-- the node a makes no pair with one after it
pub record NoMate (nodes : List Node) (a : ℕ) : Type 0 where
  pub before : List Node
  pub first : Node
  pub after : List Node
  pub split : nodes ≡ before ++ (first ∷ after)
  pub is : first.id ≡ a
  pub none : partner first.gate (gates_in after) ≡ None

-- the nearest node with which the node a makes a pair is b
pub record Mate (nodes : List Node) (a b : ℕ) : Type 0 where
  pub before : List Node
  pub first : Node
  pub between : List Node
  pub second : Node
  pub after : List Node
  pub split : nodes ≡ before ++ (first ∷ (between ++ (second ∷ after)))
  pub is_first : first.id ≡ a
  pub is_second : second.id ≡ b
  pub gates : List Shape
  pub join : paired first.gate second.gate ≡ Some gates
  pub step : partner first.gate (gates_in (between ++ (second ∷ after)))
      ≡ Some (gates_in between ++ (gates ++ gates_in after))

-- a gate makes no pair with any of these
abbrev pub Joinless : Shape → List Shape → Type 0
Joinless g [] = Unit {0}
Joinless g (h ∷ rest) = (paired g h ≡ None) × Joinless g rest

-- it commutes with each
abbrev pub passes : Shape → List Shape → Bool
passes g [] = true
passes g (h ∷ rest) = rule g h && passes g rest

-- the nearest node that joins with the node a is b: they are a pair if a commutes with what is between
pub record Candidate (nodes : List Node) (a b : ℕ) : Type 0 where
  pub on : IsTrue (live a nodes)
  pub there : IsTrue (live b nodes)
  pub later : a < b
  pub joinless : (x : ℕ) → IsTrue (live x nodes) → a < x → x < b → paired (node_gate a nodes) (node_gate x nodes) ≡ None
  pub gates : List Shape
  pub join : paired (node_gate a nodes) (node_gate b nodes) ≡ Some gates

-- the first node after a with whose gate a gate does not commute, if there is one
pub record IsStop (nodes : List Node) (g : Shape) (a : ℕ) (stop : Option ℕ) : Type 0 where
  pub free : (x : ℕ) → IsTrue (live x nodes) → a < x → IsBefore x stop → rule g (node_gate x nodes) ≡ true
  pub at : IfSome stop (λ s. IsTrue (live s nodes) × (a < s) × (s < MOST_GATES) × (rule g (node_gate s nodes) ≡ false))

-- how many numbers are left from one on
abbrev pub numbers_left : Option ℕ → ℕ
numbers_left None = 0
numbers_left (Some x) = MOST_GATES - x

-- the gates after the pair was made
abbrev pub mated : (nodes : List Node) (a b : ℕ) → Mate nodes a b → List Shape
mated nodes a b m = gates_in m.before ++ (gates_in m.between ++ (m.gates ++ gates_in m.after))

-- the first pair is that of a, whose place this is, and b
pub record IsPairSpot (nodes : List Node) (place a b : ℕ) : Type 0 where
  pub mate : Mate nodes a b
  pub count : length (gates_in mate.before) ≡ place
  pub step : pair_step (gates_in nodes) ≡ Some (mated nodes a b mate)
