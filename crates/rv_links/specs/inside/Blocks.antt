-- Blocks of numbers, with the lines that their gates read and change.
use Rattle.std.specs.Prelude.{ℕ, ◌<◌, ◌/◌, List, length, slice_index_or, IsTrue}
use Rattle.rv_gate.specs.declared.gate.Shape.{Shape}
use Rattle.rv_links.specs.Order.{lists}
use Rattle.rv_links.specs.declared.used.LineUse.{LineUse}
use Rattle.rv_links.specs.declared.blocks.TheConstants.{SMALL, MIDDLE, LARGE}
use Rattle.rv_links.specs.inside.Chains.{gate_at}
use Rattle.rv_links.specs.inside.Used.{Uses}

abbrev pub used_at : List LineUse → ℕ → LineUse
used_at blocks i = slice_index_or blocks i (record { read = 0; changed = 0 })

-- a block that is there has the lines of the gate
abbrev pub Held : List LineUse → ℕ → Shape → Type 0
Held blocks i g = i < length blocks → Uses (used_at blocks i).read (used_at blocks i).changed g

-- the blocks of a number have the lines of the gate
pub record InBlocks (small middle large : List LineUse) (x : ℕ) (g : Shape) : Type 0 where
  pub in_small : Held small (x / SMALL) g
  pub in_middle : Held middle (x / MIDDLE) g
  pub in_large : Held large (x / LARGE) g

-- those of each number of an order have the lines of its gate
abbrev pub IsCovered : List LineUse → List LineUse → List LineUse → List Shape → List ℕ → Type 0
IsCovered small middle large gates ids =
    (x : ℕ) → IsTrue (lists x ids) → InBlocks small middle large x (gate_at gates x)
