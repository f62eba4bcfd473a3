-- The exact amplitudes of a gate's operations.
use Rattle.std.specs.Prelude.{◌≡◌, ◌≢◌, ◌<◌, ℕ, zero, suc, Bool, List, [], ◌∷◌, ◌++◌, length}
use Rattle.rv_net.specs.Cyclotomic.{Cyclotomic, plus, root2, times}
use Rattle.rv_net.specs.Amplitude.{amplitude, count_h}
use Rattle.rv_net.specs.declared.op.Op.{Op}
use Rattle.rv_angles.specs.Standard.{gate_sum, qubits_of}
use Rattle.rv_angles.specs.Ops.{ops_on}
use Rattle.rv_angles.specs.declared.gate.Gate.{Gate}
use Rattle.rv_angles.specs.declared.form.Form.{Form}

-- Twice a number that so many H have brought their root of two to: at most two.
abbrev pub twice_over : ℕ → Cyclotomic → Cyclotomic
twice_over zero u = plus u u
twice_over (suc zero) u = times root2 u
twice_over (suc (suc n)) u = u

-- some lines of n, which differ
abbrev pub AreQubits : ℕ → List ℕ → Type 0
AreQubits n [] = Unit {0}
AreQubits n (a ∷ []) = a < n
AreQubits n (a ∷ b ∷ []) = (a < n) × (b < n) × (a ≢ b)
AreQubits n (a ∷ b ∷ c ∷ []) = (a < n) × (b < n) × (c < n) × (a ≢ b) × (a ≢ c) × (b ≢ c)
AreQubits n (a ∷ b ∷ c ∷ d ∷ more) = ⊥

-- Whatever comes after: an amplitude is the sum over the words to which the gate leads, no phase left free.
pub record IsExact (gate : Gate) (form : Form) : Type 0 where
  pub exact : (qubits : List ℕ) (rest : List Op) (x y : List Bool) → length qubits ≡ qubits_of gate
      → AreQubits (length x) qubits
      → twice_over (count_h (ops_on form qubits)) (amplitude (ops_on form qubits ++ rest) x y)
      ≡ gate_sum gate qubits (λ v. amplitude rest v y) x
