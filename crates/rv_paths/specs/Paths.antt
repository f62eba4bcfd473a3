-- Amplitudes as sums over paths: an H takes a word to the two words with either bit on its line, and a path says which
-- bit each H takes, one after the other.
use Rattle.std.specs.Prelude.{◌≡◌, ℕ, suc, ◌+◌, ◌&&◌, Bool, List, [], ◌∷◌, All, length, if◌then◌else◌, slice_set}
use Rattle.rv_gate.specs.Gate.{same_word}
use Rattle.rv_gate.specs.Word.{bit_of}
use Rattle.rv_net.specs.Amplitude.{amplitude, count_h, sum_over_words}
use Rattle.rv_net.specs.Cyclotomic.{nought, unity, times_w_power}
use Rattle.rv_net.specs.Op.{OpFitsIn, goes_to, phase_of}
use Rattle.rv_net.specs.declared.op.Op.{Op}
use Rattle.rv_net.specs.declared.op.Op.TheVariants.{H}

-- where an operation takes a word, if it takes the bit b should it be an H
abbrev pub goes_by : Op → Bool → List Bool → List Bool
goes_by (H q) b x = slice_set x q b
goes_by op b x = goes_to op x

-- the power of w that it brings
abbrev pub turn_by : Op → Bool → List Bool → ℕ
turn_by (H q) b x = if bit_of x q && b then 4 else 0
turn_by op b x = phase_of op x

-- which bit of the path is next
abbrev pub next_after : Op → ℕ → ℕ
next_after (H q) k = suc k
next_after op k = k

-- where operations take the word x along the path y, whose bit k is next
abbrev pub end_of : List Op → ℕ → List Bool → List Bool → List Bool
end_of [] k y x = x
end_of (op ∷ rest) k y x = end_of rest (next_after op k) y (goes_by op (bit_of y k) x)

-- the power of w that they bring
abbrev pub power_of : List Op → ℕ → List Bool → List Bool → ℕ
power_of [] k y x = 0
power_of (op ∷ rest) k y x = turn_by op (bit_of y k) x + power_of rest (next_after op k) y (goes_by op (bit_of y k) x)

-- the amplitude from x to z is the sum over all paths that end in z
abbrev pub IsSumOverPaths : List Op → Type 0
IsSumOverPaths ops = (x z : List Bool)
    → amplitude ops x z ≡ sum_over_words (count_h ops) (λ y. times_w_power (power_of ops 0 y x) (if same_word (end_of ops 0 y x) z then unity else nought))

-- all amplitudes from words of so many bits are equal
abbrev pub SameSums : ℕ → List Op → List Op → Type 0
SameSums lines a b = (x z : List Bool) → length x ≡ lines → amplitude a x z ≡ amplitude b x z

-- Operations that may stand for others on so many lines: they fit, with as many H and the same amplitudes.
pub record AreSame (lines : ℕ) (a b : List Op) : Type 0 where
  pub sums : SameSums lines a b
  pub hadamards : count_h b ≡ count_h a
  pub fitting : All (λ op. OpFitsIn op lines) b
