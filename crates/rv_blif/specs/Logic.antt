-- A logic network: named inputs, nodes in topological order, and named outputs.
--
-- Signals go by numbers: first the inputs, then the nodes.
use Rattle.std.specs.Prelude.{ℕ, ◌+◌, ◌^◌, ◌<◌, ◌≤◌, Bool, false, ◌||◌, List, [], ◌∷◌, ◌++◌, length, map, All}
use Rattle.rv_gate.specs.Word.{bit_of}
use Rattle.rv_gate.specs.Gate.{holds, same, WantsControls}
use Rattle.rv_blif.specs.declared.product.Product.{Product}
use Rattle.rv_blif.specs.declared.product.TheConstants.{MOST_OPERANDS}
use Rattle.rv_blif.specs.declared.logic.TheConstants.{MOST_SIGNALS}

-- a node: one of its products holds of its operands; or none does, where `on` is false
pub record Node : Type 0 where
  pub operands : List ℕ
  pub products : List Product
  pub on : Bool

pub record Output : Type 0 where
  pub name : List ℕ
  pub signal : ℕ

pub record Logic : Type 0 where
  -- the names of the inputs
  pub inputs : List (List ℕ)
  pub nodes : List Node
  pub outputs : List Output

abbrev pub signal_count : Logic → ℕ
signal_count logic = length logic.inputs + length logic.nodes

-- ---- what a network computes

-- one of the products holds
abbrev pub any_holds : List Product → List Bool → Bool
any_holds [] word = false
any_holds (product ∷ rest) word = holds product.care product.want word || any_holds rest word

-- the bits of a node's operands, by the bits of the signals
abbrev pub operand_word : Node → List Bool → List Bool
operand_word node values = map (bit_of values) node.operands

-- the bit of a node
abbrev pub node_value : Node → List Bool → Bool
node_value node values = same (any_holds node.products (operand_word node values)) node.on

-- the bits of the signals before nodes, and then those of the nodes, one after another
abbrev pub with_nodes : List Node → List Bool → List Bool
with_nodes [] values = values
with_nodes (node ∷ rest) values = with_nodes rest (values ++ node_value node values ∷ [])

-- the bits of all signals where a word is put in
unfoldable pub values : Logic → List Bool → List Bool
values logic word = with_nodes logic.nodes word

-- the bits that come out
unfoldable pub outputs_of : Logic → List Bool → List Bool
outputs_of logic word = map (λ output. bit_of (values logic word) output.signal) logic.outputs

-- ---- what every network keeps

-- a product of so many operands
pub record IsProduct (count : ℕ) (product : Product) : Type 0 where
  pub within : product.care < 2 ^ count
  pub wanted : WantsControls product.care product.want

-- what a node keeps by itself
pub record IsCover (node : Node) : Type 0 where
  pub few : length node.operands ≤ MOST_OPERANDS
  pub products : All (IsProduct (length node.operands)) node.products

-- a node whose operands are among so many signals
pub record IsNode (before : ℕ) (node : Node) : Type 0 where
  pub cover : IsCover node
  pub operands : All (λ signal. signal < before) node.operands

-- nodes after so many signals
abbrev pub AreNodes : ℕ → List Node → Type 0
AreNodes before [] = Unit {0}
AreNodes before (node ∷ rest) = IsNode before node × AreNodes (before + 1) rest

pub record IsLogic (logic : Logic) : Type 0 where
  pub few : length logic.inputs + length logic.nodes ≤ MOST_SIGNALS
  pub nodes : AreNodes (length logic.inputs) logic.nodes
  pub some_outputs : 1 ≤ length logic.outputs
  pub few_outputs : length logic.outputs ≤ MOST_SIGNALS
  pub outputs : All (λ output. output.signal < length logic.inputs + length logic.nodes) logic.outputs
