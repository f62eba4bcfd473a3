-- The circuit of a network's lines with gates.
use Rattle.std.specs.Prelude.{ℕ, ◌≡◌, List}
use Rattle.rv_gate.specs.Circuit.{Cascade}
use Rattle.rv_gate.specs.declared.gate.Shape.{Shape}
use Rattle.rv_blif.specs.Logic.{Logic}
use Rattle.rv_compute.specs.Lines.{logic_lines}

abbrev pub with_gates : Cascade → List Shape → Cascade
with_gates c gates = record c { gates = gates }

abbrev pub IsWith : Logic → ℕ → List Shape → Cascade → Type 0
IsWith logic work gates c = c ≡ with_gates (logic_lines logic work) gates
