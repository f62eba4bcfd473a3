-- Exclusive sums of products over a node's operands.
use Rattle.std.specs.Prelude.{ℕ, ◌≡◌, ◌^◌, ◌<◌, Bool, false, List, [], ◌∷◌, length, slice_index, Option, Some, None, All}
use Rattle.rv_gate.specs.Word.{bit_of}
use Rattle.rv_gate.specs.Gate.{holds, same, xor}
use Rattle.rv_blif.specs.Logic.{Node, any_holds}
use Rattle.rv_blif.specs.declared.product.Product.{Product}

-- an odd number of the products hold
unfoldable pub sum_of : List Product → List Bool → Bool
sum_of [] word = false
sum_of (product ∷ rest) word = xor (holds product.care product.want word) (sum_of rest word)

-- the bit of an operand, or none
abbrev pub start_value : Option ℕ → List Bool → Bool
start_value None word = false
start_value (Some operand) word = bit_of word operand

-- what a node makes of the bits of its operands
abbrev pub cover_value : Node → List Bool → Bool
cover_value node word = same (any_holds node.products word) node.on

-- a node is an operand, or nothing, and a sum of products together
pub record IsSum (node : Node) (start : Option ℕ) (products : List Product) : Type 0 where
  pub value : (word : List Bool) → length word ≡ length node.operands
      → cover_value node word ≡ xor (start_value start word) (sum_of products word)

-- the products ask for operands of so many
abbrev pub AreWithin : ℕ → List Product → Type 0
AreWithin count products = All (λ product. product.care < 2 ^ count) products

-- a node passes on an operand, or nothing, changed or not
pub record PassesOn (node : Node) (start : Option ℕ) (changed : Bool) : Type 0 where
  pub value : (word : List Bool) → length word ≡ length node.operands
      → cover_value node word ≡ xor (start_value start word) changed

-- the signal of an operand, or none
abbrev pub IsStart : List ℕ → Option ℕ → Option ℕ → Type 0
IsStart operands None source = source ≡ None
IsStart operands (Some operand) source = (operand < length operands) × (source ≡ Some (slice_index operands operand))
