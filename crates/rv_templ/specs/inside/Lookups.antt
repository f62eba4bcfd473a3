-- Gates that join with a flip, as they are looked up.
use Rattle.std.specs.Prelude.{◌≡◌, ◌⊎◌, ℕ, ◌<◌, ◌≤◌, ◌^◌, bit_xor, List, Some, None, IsTrue}
use Rattle.rv_gate.specs.declared.gate.Shape.{Shape}
use Rattle.rv_gate.specs.declared.gate.Shape.TheVariants.{Flip}
use Rattle.rv_links.specs.declared.sought.Sought.{Sought}
use Rattle.rv_links.specs.declared.sought.Sought.TheVariants.{Unknown, Nowhere, At}
use Rattle.rv_links.specs.Nodes.{Node, live, node_gate, noted}
use Rattle.rv_links.specs.Seeking.{Reaches}
use Rattle.rv_templ.specs.Pairs.{paired}
use Rattle.rv_templ.specs.inside.Mates.{NoMate, Candidate}

-- the gate is the flip with another control on a line, or with one more or less
abbrev pub Variant : ℕ → ℕ → ℕ → ℕ → Shape → Type 0
Variant care want target line h =
    (h ≡ Flip (bit_xor care (2 ^ line)) want target) ⊎ (h ≡ Flip care (bit_xor want (2 ^ line)) target)
    ⊎ (h ≡ Flip (bit_xor care (2 ^ line)) (bit_xor want (2 ^ line)) target)

-- what the search by look-ups for the partner of the node a tells
abbrev pub Partner : List Node → ℕ → Sought → Type 0
Partner nodes a Unknown = Unit {0}
Partner nodes a Nowhere = NoMate nodes a
Partner nodes a (At b) = Candidate nodes a b

-- the answer reaches each node from a number on that has the gate
abbrev pub Seen : List Node → ℕ → Sought → Shape → Type 0
Seen nodes from s g = (x : ℕ) → IsTrue (live x nodes) → from ≤ x → node_gate x nodes ≡ g → Reaches s x

-- that has one of the others on a line
abbrev pub SeenOn : List Node → ℕ → Sought → ℕ → ℕ → ℕ → ℕ → Type 0
SeenOn nodes from s care want target line =
    (x : ℕ) → IsTrue (live x nodes) → from ≤ x → Variant care want target line (node_gate x nodes) → Reaches s x

-- that joins with the gate
abbrev pub SeenAll : List Node → ℕ → Sought → Shape → Type 0
SeenAll nodes from s g =
    (x : ℕ) → IsTrue (live x nodes) → from ≤ x → (m : List Shape) → paired g (node_gate x nodes) ≡ Some m → Reaches s x

-- no node before b that has the gate has a note
abbrev pub Loose : List ℕ → List Node → ℕ → Shape → Type 0
Loose notes nodes b g = (x : ℕ) → IsTrue (live x nodes) → x < b → node_gate x nodes ≡ g → noted x notes ≡ 0

-- none that has one of the others on a line
abbrev pub LooseOn : List ℕ → List Node → ℕ → ℕ → ℕ → ℕ → ℕ → Type 0
LooseOn notes nodes b care want target line =
    (x : ℕ) → IsTrue (live x nodes) → x < b → Variant care want target line (node_gate x nodes) → noted x notes ≡ 0

-- none that joins with the gate
abbrev pub LooseAll : List ℕ → List Node → ℕ → Shape → Type 0
LooseAll notes nodes b g =
    (x : ℕ) → IsTrue (live x nodes) → x < b → (noted x notes ≡ 0) ⊎ (paired (node_gate x nodes) g ≡ None)
