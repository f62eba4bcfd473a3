-- A line with a gate on one to three qubits of a register q, as it is mostly written.
use Rattle.std.specs.Prelude.{◌≡◌, ◌≢◌, ◌⊎◌, ◌<◌, ◌≤◌, ℕ, Bool, true, false, List, [], ◌∷◌, ◌++◌, length, take, codes, Ok}
use Rattle.rv_gate.specs.declared.word.TheConstants.{MOST_LINES}
use Rattle.rv_net.specs.declared.net.TheConstants.{MOST_OPS}
use Rattle.rv_qasm.specs.Gates.{is_on_one, is_on_two, is_on_three, op_on}
use Rattle.rv_qasm.specs.Rules.{SoFar, qubit_count, with_ops}
use Rattle.rv_qasm.specs.Text.{gate_on}
use Rattle.rv_qasm.specs.declared.written.GateQubits.{GateQubits}
use Rattle.rv_qasm.specs.declared.written.GateQubits.TheVariants.{One, Two, Three}

-- a register q of n qubits was declared, nothing was measured, and there is room for an operation
pub record IsReadyForGate (so_far : SoFar) (n : ℕ) : Type 0 where
  pub version : so_far.has_version ≡ true
  pub register : so_far.quantum ≡ record { name = codes "q"; size = n } ∷ []
  pub unmeasured : so_far.measured ≡ 0
  pub room : length so_far.ops < MOST_OPS

abbrev pub gate_qubits : GateQubits → List ℕ
gate_qubits (One a) = a ∷ []
gate_qubits (Two a b) = a ∷ b ∷ []
gate_qubits (Three a b c) = a ∷ b ∷ c ∷ []

-- the name of a gate on as many qubits
abbrev pub is_gate_on : List ℕ → List ℕ → Bool
is_gate_on name (a ∷ []) = is_on_one name
is_gate_on name (a ∷ b ∷ []) = is_on_two name
is_gate_on name (a ∷ b ∷ c ∷ []) = is_on_three name
is_gate_on name _ = false

-- some of the first n qubits, which differ
abbrev pub AreApart : ℕ → List ℕ → Type 0
AreApart n (a ∷ []) = a < n
AreApart n (a ∷ b ∷ []) = (a < n) × (b < n) × (a ≢ b)
AreApart n (a ∷ b ∷ c ∷ []) = (a < n) × (b < n) × (c < n) × (a ≢ b) × (a ≢ c) × (b ≢ c)
AreApart n _ = Unit {0}

abbrev pub gate_statement : List ℕ → List ℕ → List ℕ
gate_statement name lines = gate_on name lines ++ codes ";\n"

-- the first n bytes are a line with a gate on qubits
pub record BeginsLine (bytes : List ℕ) (n : ℕ) (name lines : List ℕ) : Type 0 where
  pub text : take n bytes ≡ gate_statement name lines
  pub some : 0 < n
  pub within : n ≤ length bytes
  pub gate : is_gate_on name lines ≡ true

-- the first n bytes are a line with a gate, and were read
pub record ReadsLine (old new : SoFar) (bytes : List ℕ) (n : ℕ) : Type 0 where
  pub name : List ℕ
  pub lines : List ℕ
  pub begins : BeginsLine bytes n name lines
  pub ready : IsReadyForGate old (qubit_count old)
  pub few : qubit_count old ≤ MOST_LINES
  pub apart : AreApart (qubit_count old) lines
  pub gives : with_ops old (op_on name lines) ≡ Ok new

-- or there was no such line
abbrev pub MayReadLine : SoFar → SoFar → List ℕ → ℕ → Type 0
MayReadLine old new bytes n = ((n ≡ 0) × (new ≡ old)) ⊎ ReadsLine old new bytes n
