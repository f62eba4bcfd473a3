-- The operations of each form have the amplitudes of its gate.
use Rattle.std.proofs.Common.{◌≡◌, ℕ, List, [], ◌∷◌, ◌++◌, length, Some, sym, ap, ◌∙◌, arith}
use Rattle.rv_net.specs.declared.op.Op.{Op}
use Rattle.rv_net.specs.Cyclotomic.{Cyclotomic}
use Rattle.rv_net.specs.Amplitude.{amplitude, count_h}
use Rattle.rv_net.proofs.Step.{Word, same_amp}
use Rattle.rv_net.proofs.Frame.{through, amp-append}
use Rattle.rv_angles.specs.Standard.{gate_sum, qubits_of}
use Rattle.rv_angles.specs.Form.{turn_of, phased_of}
use Rattle.rv_angles.specs.Ops.{ops_on}
use Rattle.rv_angles.specs.Exact.{twice_over, AreQubits, IsExact}
use Rattle.rv_angles.specs.declared.matrix.Matrix.{Matrix}
use Rattle.rv_angles.specs.declared.gate.Gate.{Gate}
use Rattle.rv_angles.specs.declared.gate.Gate.TheVariants as gate
use Rattle.rv_angles.specs.declared.form.Turn.{Turn}
use Rattle.rv_angles.specs.declared.form.Phased.{Phased}
use Rattle.rv_angles.specs.declared.form.Form.{Form}
use Rattle.rv_angles.specs.declared.form.Form.TheVariants as form
use Rattle.rv_angles.proofs.Turns.{turn-law}
use Rattle.rv_angles.proofs.Pairs.{sx-law, sxdg-law, cy-law, ch-law, phased_of-law, ccz-law}

amplitude-through : (ops rest : List Op) (x y : Word) → amplitude (ops ++ rest) x y ≡ through ops (λ v. amplitude rest v y) x
amplitude-through ops rest x y = sym (same_amp (ops ++ rest) x y) ∙ amp-append ops rest x y ∙ (λ i. through ops (λ v. same_amp rest v y i) x)

-- the same before any amplitudes
abbrev Fits : Gate → Form → Type 0
Fits g f = (qubits : List ℕ) (k : Word → Cyclotomic) (x : Word) → length qubits ≡ qubits_of g → AreQubits (length x) qubits
    → twice_over (count_h (ops_on f qubits)) (through (ops_on f qubits) k x) ≡ gate_sum g qubits k x

exact_by : (g : Gate) (f : Form) → Fits g f → IsExact g f
exact_by g f law = record { exact = λ qubits rest x y n are. ap (twice_over (count_h (ops_on f qubits))) (amplitude-through (ops_on f qubits) rest x y) ∙ law qubits (λ v. amplitude rest v y) x n are }

one-fits : (m : Matrix) (t : Turn) → turn_of m ≡ Some t → Fits (gate.One m) (form.Turned t)
one-fits m t is [] k x n are = absurd (omega (arith, n))
one-fits m t is (q ∷ []) k x n are = turn-law m q k x are t is
one-fits m t is (q ∷ b ∷ more) k x n are = absurd (omega (arith, n))

sx-fits : Fits gate.Sx form.Sx
unfolding count_h
sx-fits [] k x n are = absurd (omega (arith, n))
sx-fits (q ∷ []) k x n are = sx-law k x q are
sx-fits (q ∷ b ∷ more) k x n are = absurd (omega (arith, n))

sxdg-fits : Fits gate.Sxdg form.Sxdg
unfolding count_h
sxdg-fits [] k x n are = absurd (omega (arith, n))
sxdg-fits (q ∷ []) k x n are = sxdg-law k x q are
sxdg-fits (q ∷ b ∷ more) k x n are = absurd (omega (arith, n))

controlled-fits : (m : Matrix) (p : Phased) → phased_of m ≡ Some p → Fits (gate.Controlled m) (form.Phased p)
controlled-fits m p is [] k x n are = absurd (omega (arith, n))
controlled-fits m p is (a ∷ []) k x n are = absurd (omega (arith, n))
controlled-fits m p is (a ∷ b ∷ []) k x n are = phased_of-law m p k x a b are.0 are.1 are.2 is
controlled-fits m p is (a ∷ b ∷ c ∷ more) k x n are = absurd (omega (arith, n))

cy-fits : Fits gate.Cy form.Cy
unfolding count_h
cy-fits [] k x n are = absurd (omega (arith, n))
cy-fits (a ∷ []) k x n are = absurd (omega (arith, n))
cy-fits (a ∷ b ∷ []) k x n are = cy-law x a b are.0 are.1 are.2 k
cy-fits (a ∷ b ∷ c ∷ more) k x n are = absurd (omega (arith, n))

ch-fits : Fits gate.Ch form.Ch
unfolding count_h
ch-fits [] k x n are = absurd (omega (arith, n))
ch-fits (a ∷ []) k x n are = absurd (omega (arith, n))
ch-fits (a ∷ b ∷ []) k x n are = ch-law x a b are.0 are.1 are.2 k
ch-fits (a ∷ b ∷ c ∷ more) k x n are = absurd (omega (arith, n))

ccz-fits : Fits gate.Ccz form.Ccz
unfolding count_h
ccz-fits [] k x n are = absurd (omega (arith, n))
ccz-fits (a ∷ []) k x n are = absurd (omega (arith, n))
ccz-fits (a ∷ b ∷ []) k x n are = absurd (omega (arith, n))
ccz-fits (a ∷ b ∷ c ∷ []) k x n are = ccz-law k x a b c are.0 are.1 are.2 are.3 are.4 are.5
ccz-fits (a ∷ b ∷ c ∷ d ∷ more) k x n are = absurd (omega (arith, n))

pub one-exact : (m : Matrix) (t : Turn) → turn_of m ≡ Some t → IsExact (gate.One m) (form.Turned t)
one-exact m t is = exact_by (gate.One m) (form.Turned t) (one-fits m t is)

pub controlled-exact : (m : Matrix) (p : Phased) → phased_of m ≡ Some p → IsExact (gate.Controlled m) (form.Phased p)
controlled-exact m p is = exact_by (gate.Controlled m) (form.Phased p) (controlled-fits m p is)

pub sx-exact : IsExact gate.Sx form.Sx
sx-exact = exact_by gate.Sx form.Sx sx-fits

pub sxdg-exact : IsExact gate.Sxdg form.Sxdg
sxdg-exact = exact_by gate.Sxdg form.Sxdg sxdg-fits

pub cy-exact : IsExact gate.Cy form.Cy
cy-exact = exact_by gate.Cy form.Cy cy-fits

pub ch-exact : IsExact gate.Ch form.Ch
ch-exact = exact_by gate.Ch form.Ch ch-fits

pub ccz-exact : IsExact gate.Ccz form.Ccz
ccz-exact = exact_by gate.Ccz form.Ccz ccz-fits
