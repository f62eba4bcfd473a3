-- What is noted of gates that make no pair.
use Rattle.std.specs.Prelude.{◌≡◌, ◌≢◌, ◌⊎◌, ℕ, zero, suc, ◌+◌, false, List, [], ◌∷◌, ◌++◌, map, take, None}
use Rattle.rv_gate.specs.declared.gate.Shape.{Shape}
use Rattle.rv_gate.specs.Commuting.{rule}
use Rattle.rv_links.specs.Nodes.{Node, noted, gates_in}
use Rattle.rv_templ.specs.Pairs.{paired}
use Rattle.rv_templ.specs.declared.along.Cursor.{Cursor}
use Rattle.rv_templ.specs.inside.Clean.{Clean}
use Rattle.rv_templ.specs.inside.Linking.{IsCursor}
use Rattle.rv_templ.specs.inside.Mates.{Mate, Joinless}

-- what the note of a gate says of the nodes after it: it makes no pair with any of them (1), or with none up to a node
-- with which it does not commute (that node's number + 2); it depends on at most `far` of them
abbrev pub Quiet : ℕ → Shape → List Node → ℕ → Type 0
Quiet note g [] far = note ≡ 1
Quiet note g (n ∷ rest) zero = ⊥
Quiet note g (n ∷ rest) (suc far) =
    (paired g n.gate ≡ None) × (((note ≡ n.id + 2) × (rule g n.gate ≡ false)) ⊎ Quiet note g rest far)

-- each note is right; 0 says nothing
abbrev pub Noted : List ℕ → List Node → ℕ → Type 0
Noted notes [] far = Unit {0}
Noted notes (n ∷ rest) far = ((noted n.id notes ≡ 0) ⊎ Quiet (noted n.id notes) n.gate rest far) × Noted notes rest far

-- each has a note
abbrev pub AllNoted : List ℕ → List Node → Type 0
AllNoted notes [] = Unit {0}
AllNoted notes (n ∷ rest) = (noted n.id notes ≢ 0) × AllNoted notes rest

-- none has a note
abbrev pub NoneNoted : List ℕ → List Node → Type 0
NoneNoted notes [] = Unit {0}
NoneNoted notes (n ∷ rest) = (noted n.id notes ≡ 0) × NoneNoted notes rest

-- some notes are gone, and no other changed
abbrev pub Fewer : List ℕ → List ℕ → Type 0
Fewer old new = (id : ℕ) → (noted id new ≡ 0) ⊎ (noted id new ≡ noted id old)

abbrev pub Others : ℕ → List ℕ → List ℕ → Type 0
Others node old new = (id : ℕ) → id ≢ node → noted id new ≡ noted id old

-- a note does not say of the node that the gate does not commute with it
abbrev pub Unnamed : ℕ → Shape → Node → Type 0
Unnamed note g n = note ≡ n.id + 2 → rule g n.gate ≡ false → ⊥

-- those that have a note make no pair with these gates
abbrev pub Apart : List ℕ → List Shape → List Node → Type 0
Apart notes gates [] = Unit {0}
Apart notes gates (n ∷ rest) = ((noted n.id notes ≡ 0) ⊎ Joinless n.gate gates) × Apart notes gates rest

-- the notes stay right when two nodes go and these gates come in the second one's place
abbrev pub Kept : List ℕ → Node → Node → List Shape → List Node → Type 0
Kept notes first second gates [] = Unit {0}
Kept notes first second gates (n ∷ rest) =
    ((noted n.id notes ≡ 0)
    ⊎ (Unnamed (noted n.id notes) n.gate first × Unnamed (noted n.id notes) n.gate second × Joinless n.gate gates))
    × Kept notes first second gates rest

abbrev pub node_of : ℕ → Shape → Node
node_of a g = record { id = a; gate = g }

-- the nodes after a pair was made: what it comes to is a node of the second one's number
abbrev pub coupled : (nodes : List Node) (a b : ℕ) → Mate nodes a b → List Node
coupled nodes a b m = m.before ++ (m.between ++ (map (node_of b) m.gates ++ m.after))

-- what is known of a list of nodes
pub record IsKnown (library : List (List Shape)) (nodes : List Node) (notes : List ℕ) (clean due : Cursor)
    (far : ℕ) : Type 0 where
  pub windows : Clean library (gates_in nodes) clean.place
  pub clean_at : IsCursor nodes clean.place clean.before
  pub right : Noted notes nodes far
  pub known : AllNoted notes (take due.place nodes)
  pub due_at : IsCursor nodes due.place due.before
