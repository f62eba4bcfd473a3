-- Gates on qubits, what they do one after another by the standards' definitions, and their operations.
use Rattle.std.specs.Prelude.{◌≡◌, ℕ, zero, suc, ◌+◌, Bool, true, false, List, [], ◌∷◌, ◌++◌, length, if◌then◌else◌, slice_set, Option, Some, None}
use Rattle.rv_gate.specs.Word.{bit_of}
use Rattle.rv_net.specs.Amplitude.{amplitude, count_h, same_word}
use Rattle.rv_net.specs.Cyclotomic.{Cyclotomic, negated, nought, plus, root2, times, times_w_power, unity}
use Rattle.rv_net.specs.Op.{goes_to, Network, OpFitsIn, phase_of}
use Rattle.rv_net.specs.declared.op.Op.{Op}
use Rattle.rv_net.specs.declared.op.Op.TheVariants.{H}
use Rattle.rv_angles.specs.Exact.{AreQubits, IsExact}
use Rattle.rv_angles.specs.Form.{form_of}
use Rattle.rv_angles.specs.Ops.{ops_on}
use Rattle.rv_angles.specs.Standard.{gate_sum, qubits_of}
use Rattle.rv_angles.specs.declared.gate.Gate.{Gate}
use Rattle.rv_angles.specs.declared.form.Form.{Form}
use Rattle.rv_import.specs.declared.call.Call.{Call}
use Rattle.rv_import.specs.declared.call.Call.TheVariants.{Plain, Standard}
use Rattle.rv_import.specs.declared.call.Qubits.{Qubits}
use Rattle.rv_import.specs.declared.call.Qubits.TheVariants.{One, Two, Three}

abbrev pub qubits_in : Qubits → List ℕ
qubits_in (One a) = a ∷ []
qubits_in (Two a b) = a ∷ b ∷ []
qubits_in (Three a b c) = a ∷ b ∷ c ∷ []

-- ---- what calls do

-- An operation of a network: the sum over the words to which it leads a word, that of H times the root of two. What
-- follows leads each to an amplitude, which `after` tells.
abbrev pub op_sum : Op → (List Bool → Cyclotomic) → List Bool → Cyclotomic
op_sum (H q) after x =
    plus (after (slice_set x q false))
    (if bit_of x q then negated (after (slice_set x q true)) else after (slice_set x q true))
op_sum op after x = times_w_power (phase_of op x) (after (goes_to op x))

-- the same of a call: that of a standard's gate is times 2
abbrev pub call_sum : Call → (List Bool → Cyclotomic) → List Bool → Cyclotomic
call_sum (Plain op) after x = op_sum op after x
call_sum (Standard gate qubits) after x = gate_sum gate (qubits_in qubits) after x

-- how many roots of two that brings
abbrev pub call_roots : Call → ℕ
call_roots (Plain op) = count_h (op ∷ [])
call_roots (Standard gate qubits) = 2

-- the amplitude with which calls take the word x to the word y, times the root of two for each of their roots
unfoldable pub calls_amplitude : List Call → List Bool → List Bool → Cyclotomic
calls_amplitude [] x y = if same_word x y then unity else nought
calls_amplitude (call ∷ calls) x y = call_sum call (λ v. calls_amplitude calls v y) x

unfoldable pub roots_of : List Call → ℕ
roots_of [] = 0
roots_of (call ∷ calls) = call_roots call + roots_of calls

-- ---- their operations

abbrev pub form_ops : Option Form → List ℕ → List Op
form_ops None qubits = []
form_ops (Some form) qubits = ops_on form qubits

abbrev pub call_ops : Call → List Op
call_ops (Plain op) = op ∷ []
call_ops (Standard gate qubits) = form_ops (form_of gate) (qubits_in qubits)

unfoldable pub calls_ops : List Call → List Op
calls_ops [] = []
calls_ops (call ∷ calls) = call_ops call ++ calls_ops calls

-- ---- calls that are right on n lines

-- the gate has an exact form, and the qubits are as many as it has and differ
pub record IsRightGate (n : ℕ) (gate : Gate) (qubits : List ℕ) : Type 0 where
  pub form : Form
  pub form_is : form_of gate ≡ Some form
  pub exact : IsExact gate form
  pub count : length qubits ≡ qubits_of gate
  pub apart : AreQubits n qubits

abbrev pub IsRight : ℕ → Call → Type 0
IsRight n (Plain op) = OpFitsIn op n
IsRight n (Standard gate qubits) = IsRightGate n gate (qubits_in qubits)

-- ---- exact amplitudes

-- times the root of two, so often
unfoldable pub rooted : ℕ → Cyclotomic → Cyclotomic
rooted zero u = u
rooted (suc n) u = times root2 (rooted n u)

-- A network on so many lines has the amplitudes of calls: both are the same over their roots of two, no phase left
-- free.
pub record IsExactNet (lines : ℕ) (calls : List Call) (net : Network) : Type 0 where
  pub lines_are : net.lines ≡ lines
  pub exact : (x y : List Bool) → length x ≡ lines
      → rooted (roots_of calls) (amplitude net.ops x y) ≡ rooted (count_h net.ops) (calls_amplitude calls x y)
