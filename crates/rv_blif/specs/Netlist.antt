-- What the lines of a text say: names, and what drives them.
--
-- A name goes by its number: names are counted in the order in which they first stand in the text.
use Rattle.std.specs.Prelude.{ℕ, List, [], slice_index_or}
use Rattle.rv_blif.specs.declared.port.Port.{Port}
use Rattle.rv_blif.specs.Logic.{Node}

-- a `.names` with its rows, on a line: it drives a name. The operands of its node are names.
pub record Cover : Type 0 where
  pub line : ℕ
  pub node : Node
  pub name : ℕ

pub record Netlist : Type 0 where
  pub names : List (List ℕ)
  pub inputs : List ℕ
  pub outputs : List Port
  pub covers : List Cover

-- the bytes of a name
abbrev pub name_at : List (List ℕ) → ℕ → List ℕ
name_at names name = slice_index_or names name []
