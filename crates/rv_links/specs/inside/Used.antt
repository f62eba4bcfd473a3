-- The lines that gates read and change.
use Rattle.std.specs.Prelude.{◌≡◌, ℕ, ◌<◌, true, if◌then◌else◌, List, length}
use Rattle.rv_gate.specs.declared.gate.Shape.{Shape}
use Rattle.rv_gate.specs.Gate.{controls, targets, touched, is_flip}
use Rattle.rv_gate.specs.Word.{has}
use Rattle.rv_links.specs.inside.Chains.{gate_at}

-- a gate commutes with a flip only if the flip changes none of these lines, or some control is opposed
abbrev pub read_by : Shape → ℕ
read_by g = if is_flip g then controls g else touched g

-- a gate reads and changes only lines of these sets
pub record Uses (read changed : ℕ) (g : Shape) : Type 0 where
  pub reads : (line : ℕ) → has (read_by g) line ≡ true → has read line ≡ true
  pub changes : (line : ℕ) → has (targets g) line ≡ true → has changed line ≡ true

abbrev pub UsesAll : ℕ → ℕ → List Shape → Type 0
UsesAll read changed gates = (id : ℕ) → id < length gates → Uses read changed (gate_at gates id)
