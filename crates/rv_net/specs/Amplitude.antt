-- Amplitudes of networks, as sums over the eighth root of one. The root of two is not divided out:
-- each H brings it once.
use Rattle.std.specs.Prelude.{ℕ, zero, suc, Bool, true, false, List, [], ◌∷◌, if◌then◌else◌, slice_set}
pub use Rattle.rv_gate.specs.Gate.{same_word}
use Rattle.rv_gate.specs.Word.{bit_of}
use Rattle.rv_net.specs.Cyclotomic.{Cyclotomic, nought, unity, plus, negated, times_w_power}
use Rattle.rv_net.specs.Op.{goes_to, phase_of}
use Rattle.rv_net.specs.declared.op.Op.{Op}
use Rattle.rv_net.specs.declared.op.Op.TheVariants.{H}

-- the amplitude with which operations take the word x to the word y
unfoldable pub amplitude : List Op → List Bool → List Bool → Cyclotomic
amplitude [] x y = if same_word x y then unity else nought
amplitude (H q ∷ rest) x y =
    plus (amplitude rest (slice_set x q false) y)
    (if bit_of x q then negated (amplitude rest (slice_set x q true) y) else amplitude rest (slice_set x q true) y)
amplitude (op ∷ rest) x y = times_w_power (phase_of op x) (amplitude rest (goes_to op x) y)

-- the number of H
unfoldable pub count_h : List Op → ℕ
count_h [] = 0
count_h (H q ∷ rest) = suc (count_h rest)
count_h (op ∷ rest) = count_h rest

-- the sum over all words of n bits
unfoldable pub sum_over_words : ℕ → (List Bool → Cyclotomic) → Cyclotomic
sum_over_words zero f = f []
sum_over_words (suc n) f = plus (sum_over_words n (λ v. f (false ∷ v))) (sum_over_words n (λ v. f (true ∷ v)))
