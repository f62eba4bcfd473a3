-- Places that have no window, and windows that are to be replaced.
use Rattle.std.specs.Prelude.{◌≡◌, ℕ, ◌<◌, ◌≤◌, List, length, drop, Some, None, IsTrue}
use Rattle.rv_gate.specs.declared.gate.Shape.{Shape}
use Rattle.rv_links.specs.Order.{head}
use Rattle.rv_links.specs.Nodes.{Node, live, ids_in, gates_in}
use Rattle.rv_templ.specs.Choices.{Found, window_at, template_in}
use Rattle.rv_templ.specs.inside.Linking.{coming}

-- no template is longer
abbrev pub Short : ℕ → List (List Shape) → Type 0
Short most library = (t : ℕ) → t < length library → length (template_in library t) ≤ most

-- the places before a place have no window
abbrev pub Clean : List (List Shape) → List Shape → ℕ → Type 0
Clean library gates place = (i : ℕ) → i < place → window_at (drop i gates) library ≡ None

-- the first window is at this place, which has this node
pub record IsSpot (library : List (List Shape)) (nodes : List Node) (place node : ℕ) (found : Found) : Type 0 where
  pub live : IsTrue (live node nodes)
  pub first : Some node ≡ head (ids_in (drop place nodes))
  pub here : coming (Some node) nodes ≡ drop place (gates_in nodes)
  pub within : place < length (gates_in nodes)
  pub clean : Clean library (gates_in nodes) place
  pub exact : window_at (drop place (gates_in nodes)) library ≡ Some found
