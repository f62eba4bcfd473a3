-- Amplitudes step by step: one operation before what follows, the amplitude of each word by a function.
use Rattle.std.proofs.Common.{◌≡◌, ℕ, Bool, true, false, cond, List, [], ◌∷◌, get_or, set, refl, ap, ap₂, ◌∙◌}
use Rattle.rv_net.specs.declared.op.Op.{Op}
use Rattle.rv_net.specs.declared.op.Op.TheVariants.{X, Y, Z, H, S, Sdg, T, Tdg, Cx, Cz, Ccx, Swap, Cswap}
use Rattle.rv_net.specs.Cyclotomic.{Cyclotomic, nought, unity, plus, negated, times_w, times_w_power}
use Rattle.rv_net.specs.Op.{goes_to, phase_of}
use Rattle.rv_gate.specs.Gate.{same_word}
use Rattle.rv_net.specs.Amplitude.{amplitude}

abbrev pub Word : Type 0
Word = List Bool

abbrev pub bit : Word → ℕ → Bool
bit x q = get_or x q false

-- one operation before what follows, the amplitude of each word by `rest`
abbrev pub step : Op → (Word → Cyclotomic) → Word → Cyclotomic
step (H q) rest x = plus (rest (set x q false)) (times_w_power (cond (bit x q) 4 0) (rest (set x q true)))
step (X q) rest x = times_w_power (phase_of (X q) x) (rest (goes_to (X q) x))
step (Y q) rest x = times_w_power (phase_of (Y q) x) (rest (goes_to (Y q) x))
step (Z q) rest x = times_w_power (phase_of (Z q) x) (rest (goes_to (Z q) x))
step (S q) rest x = times_w_power (phase_of (S q) x) (rest (goes_to (S q) x))
step (Sdg q) rest x = times_w_power (phase_of (Sdg q) x) (rest (goes_to (Sdg q) x))
step (T q) rest x = times_w_power (phase_of (T q) x) (rest (goes_to (T q) x))
step (Tdg q) rest x = times_w_power (phase_of (Tdg q) x) (rest (goes_to (Tdg q) x))
step (Cx a b) rest x = times_w_power (phase_of (Cx a b) x) (rest (goes_to (Cx a b) x))
step (Cz a b) rest x = times_w_power (phase_of (Cz a b) x) (rest (goes_to (Cz a b) x))
step (Ccx a b c) rest x = times_w_power (phase_of (Ccx a b c) x) (rest (goes_to (Ccx a b c) x))
step (Swap a b) rest x = times_w_power (phase_of (Swap a b) x) (rest (goes_to (Swap a b) x))
step (Cswap c a b) rest x = times_w_power (phase_of (Cswap c a b) x) (rest (goes_to (Cswap c a b) x))

-- 1 if the words are the same, else 0
unfoldable pub delta : Word → Word → Cyclotomic
delta x y = cond (same_word x y) unity nought

unfoldable pub amp : List Op → Word → Word → Cyclotomic
amp [] x y = delta x y
amp (o ∷ rest) x y = step o (λ v. amp rest v y) x

-- ---- these are the amplitudes

four-neg : (b : Bool) (u : Cyclotomic) → times_w_power (cond b 4 0) u ≡ cond b (negated u) u
unfolding times_w_power times_w negated
four-neg true u = refl
four-neg false u = refl

pub same_amp : (net : List Op) (x y : Word) → amp net x y ≡ amplitude net x y
unfolding amp amplitude delta
same_amp [] x y = refl
same_amp (H q ∷ r) x y = ap₂ plus (same_amp r _ y) (four-neg (bit x q) _ ∙ ap (λ u. cond (bit x q) (negated u) u) (same_amp r _ y))
same_amp (X q ∷ r) x y = ap (times_w_power _) (same_amp r _ y)
same_amp (Y q ∷ r) x y = ap (times_w_power _) (same_amp r _ y)
same_amp (Z q ∷ r) x y = ap (times_w_power _) (same_amp r _ y)
same_amp (S q ∷ r) x y = ap (times_w_power _) (same_amp r _ y)
same_amp (Sdg q ∷ r) x y = ap (times_w_power _) (same_amp r _ y)
same_amp (T q ∷ r) x y = ap (times_w_power _) (same_amp r _ y)
same_amp (Tdg q ∷ r) x y = ap (times_w_power _) (same_amp r _ y)
same_amp (Cx a b ∷ r) x y = ap (times_w_power _) (same_amp r _ y)
same_amp (Cz a b ∷ r) x y = ap (times_w_power _) (same_amp r _ y)
same_amp (Ccx a b c ∷ r) x y = ap (times_w_power _) (same_amp r _ y)
same_amp (Swap a b ∷ r) x y = ap (times_w_power _) (same_amp r _ y)
same_amp (Cswap c a b ∷ r) x y = ap (times_w_power _) (same_amp r _ y)
