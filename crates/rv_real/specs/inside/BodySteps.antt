-- A circuit with a gate more, by the line of the gate.
use Rattle.std.specs.Prelude.{ℕ, not, List, [], ◌∷◌, ◌++◌, length, nat_lt, Result, Ok}
use Rattle.rv_text.specs.Tokens.{Lexeme}
use Rattle.rv_gate.specs.Circuit.{Cascade}
use Rattle.rv_gate.specs.declared.circuit.TheConstants.{MOST_GATES}
use Rattle.rv_gate.specs.declared.gate.Shape.{Shape}
use Rattle.rv_reader.specs.Rules.{◌>>=◌, broken}
use Rattle.rv_real.specs.declared.code.TheConstants as code
use Rattle.rv_real.specs.Body.{gate_of_line, named_gate, gate_of}

abbrev pub with_gate : Cascade → Shape → Result Cascade ℕ
with_gate c gate =
    broken (not (nat_lt (length c.gates) MOST_GATES)) code.TOO_MANY_GATES
    (Ok (record c { gates = c.gates ++ gate ∷ [] }))

-- a gate of a letter, with so many operands
abbrev pub placed : Cascade → ℕ → ℕ → List Lexeme → Result Cascade ℕ
placed c letter count ws = gate_of_line c.names letter count ws >>= with_gate c

-- a gate by its name
abbrev pub with_named : Cascade → List ℕ → List Lexeme → Result Cascade ℕ
with_named c name ws = named_gate c.names name ws >>= with_gate c

-- a gate by its first token
abbrev pub with_body_line : Cascade → Lexeme → List Lexeme → Result Cascade ℕ
with_body_line c w ws = gate_of c.names w ws >>= with_gate c
