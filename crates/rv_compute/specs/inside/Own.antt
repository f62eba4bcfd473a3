-- A circuit in which each input, output and node has a line of its own.
use Rattle.std.specs.Prelude.{ℕ, ◌≡◌, ◌+◌, ◌*◌, ◌^◌, ◌<◌, ◌≤◌, true, List, [], ◌∷◌, ◌++◌, length, map, take, slice_get, slice_index_or, Option, Some, None, if◌then◌else◌, nat_lt}
use Rattle.std.specs.List.{sum_by}
use Rattle.rv_gate.specs.declared.gate.Shape.{Shape}
use Rattle.rv_blif.specs.Logic.{Logic, Node, Output}
use Rattle.rv_blif.specs.declared.product.Product.{Product}
use Rattle.rv_compute.specs.declared.place.Place.{Place}
use Rattle.rv_compute.specs.declared.place.Place.TheVariants.{Line}
use Rattle.rv_compute.specs.Bounds.{line_bound}
use Rattle.rv_compute.specs.inside.Sums.{IsSum}
use Rattle.rv_compute.specs.inside.Blocks.{Adds, AreFew, AreGates}
use Rattle.rv_compute.specs.inside.Held.{held_at, line_count, due, Stands, IsDone}

-- the line of a signal: the nodes come after the outputs
abbrev pub own_line : Logic → ℕ → ℕ
own_line logic signal = if nat_lt signal (length logic.inputs) then signal else signal + length logic.outputs

abbrev pub own_place : Logic → ℕ → Option Place
own_place logic signal = Some (Line (own_line logic signal) true)

abbrev pub own_places : Logic → List ℕ → List (Option Place)
own_places logic signals = map (own_place logic) signals

-- gates more add products of signals to a line
pub record AddsOwn (logic : Logic) (signals : List ℕ) (line : ℕ) (products : List Product) (old new : List Shape)
    : Type 0 where
  pub block : List Shape
  pub adds : Adds (line_bound logic) (own_places logic signals) line products block
  pub few : AreFew (line_bound logic) (length products) block
  pub gates_are : new ≡ old ++ block

-- gates more add a node to its line
pub record AddsNode (logic : Logic) (k : ℕ) (old new : List Shape) : Type 0 where
  pub node : Node
  pub is : node ≡ slice_index_or logic.nodes k node
  pub products : List Product
  pub sum : IsSum node None products
  pub few : length products ≤ 2 ^ length node.operands
  pub adds : AddsOwn logic node.operands (own_line logic (length logic.inputs + k)) products old new

-- gates more add an output's signal to its line
pub record AddsOutput (logic : Logic) (p : ℕ) (old new : List Shape) : Type 0 where
  pub output : Output
  pub is : slice_get logic.outputs p ≡ Some output
  pub product : Product
  pub care : product.care ≡ 1
  pub want : product.want ≡ 1
  pub adds : AddsOwn logic (output.signal ∷ []) (length logic.inputs + p) (product ∷ []) old new

-- so many gates are enough for the first nodes
abbrev pub word_bound : Logic → ℕ → ℕ
word_bound logic made = sum_by (λ (node : Node). 2 ^ length node.operands) (take made logic.nodes)

-- after at most so many gates the first outputs and the first nodes stand on their lines
pub record Own (logic : Logic) (copied made count : ℕ) (gates : List Shape) : Type 0 where
  pub held : List (Option ℕ)
  pub stands : Stands logic (length logic.nodes) held gates
  pub own : (signal : ℕ) → signal < length logic.inputs + made → held_at held (own_line logic signal) ≡ Some signal
  pub copies : (line : ℕ) → length logic.inputs ≤ line → line < length logic.inputs + copied
      → held_at held line ≡ due logic line
  pub no_output : (line : ℕ) → length logic.inputs + copied ≤ line → line < length logic.inputs + length logic.outputs
      → held_at held line ≡ None
  pub no_node : (line : ℕ) → length logic.inputs + length logic.outputs + made ≤ line → line < line_bound logic
      → held_at held line ≡ None
  pub few : AreFew (line_bound logic) count gates

-- of the gates for all nodes, there and back, those are left that take back the first nodes
pub record OwnBack (logic : Logic) (made : ℕ) (gates : List Shape) : Type 0 where
  pub count : ℕ
  pub is : count + word_bound logic made ≡ 2 * word_bound logic (length logic.nodes) + length logic.outputs
  pub stands : Own logic (length logic.outputs) made count gates

-- the gates end in what is due
pub record Ended (logic : Logic) (work : ℕ) (gates : List Shape) : Type 0 where
  pub held : List (Option ℕ)
  pub stands : Stands logic work held gates
  pub done : IsDone logic held
  pub fit : AreGates (line_count logic work) gates
