-- What contracts see of what is kept.
use Rattle.std.specs.Prelude.{◌≡◌, ◌+◌, false, ◌≤◌, ℕ, List, ◌∷◌, map, max, length, min, []}
use Rattle.std.specs.Option.{option_copied}
use Rattle.std.specs.Global.{Vec}
use Rattle.rv_qasm.specs.inside.Written.{gate_qubits}
use Rattle.rv_gate.specs.declared.word.TheConstants.{MOST_LINES}
use Rattle.rv_qasm.specs.Registers.{Register, RegisterOperand as Named, QubitRange as Qubits, size_of_all}
use Rattle.rv_qasm.specs.declared.operands.Declaration.{Declaration}
use Rattle.rv_qasm.specs.declared.operands.RegisterOperand.{RegisterOperand}
use Rattle.rv_qasm.specs.declared.registers.Extent.{Extent}
use Rattle.rv_qasm.specs.declared.registers.TheConstants.{MOST_PLACES}
use Rattle.rv_qasm.specs.declared.registers.QubitRange.{QubitRange}
use Rattle.rv_qasm.specs.declared.written.Written.{Written}

-- an entry of the map of registers
abbrev pub register_of : Vec ℕ × Extent → Register
register_of entry = record { name = entry.0.items; size = entry.1.size }

abbrev pub registers_of : List (Vec ℕ × Extent) → List Register
registers_of entries = map register_of entries

-- Each register lies after those before it, where so many places stand before all; then there are so many. They are
-- counted up to the greatest count.
abbrev pub Follow : ℕ → List (Vec ℕ × Extent) → ℕ → Type 0
Follow before [] total = total ≡ before
Follow before (entry ∷ entries) total =
    (entry.1.before ≡ before) × Follow (min (before + entry.1.size) MOST_PLACES) entries total

abbrev pub named : RegisterOperand → Named
named operand = record { name = operand.name.now; place = option_copied operand.place }

abbrev pub declared : Declaration → Register
declared declaration = record { name = declaration.name.now; size = declaration.size }

abbrev pub named_qubits : QubitRange → Qubits
named_qubits range = record { first = range.first; count = range.count; is_whole = range.is_whole }

-- the lines of a gate's qubits
abbrev pub written_qubits : Written → List ℕ
written_qubits written = gate_qubits written.qubits

-- the quantum registers have so many qubits, and the network as many lines, or one where there is none
pub record IsCounted (count width : ℕ) (registers : List Register) : Type 0 where
  pub sum : size_of_all registers ≡ count
  pub few : count ≤ MOST_LINES
  pub some : length registers ≤ count
  pub lines : width ≡ max 1 count

-- they are some of the first n qubits, and one of them if no whole register was named
pub record IsPart (n : ℕ) (range : QubitRange) : Type 0 where
  pub within : range.first + range.count ≤ n
  pub single : range.is_whole ≡ false → range.count ≡ 1
