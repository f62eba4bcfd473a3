-- Sums over paths: each value of the path bits is a path, which ends at a word with a power of w.
use Rattle.std.specs.Prelude.{ℕ, zero, suc, Bool, true, false, List}
use Rattle.rv_net.specs.Amplitude.{amplitude, sum_over_words}
use Rattle.rv_net.specs.Cyclotomic.{Cyclotomic, root2, times, times_w_power}
use Rattle.rv_net.specs.declared.op.Op.{Op}
use Rattle.rv_net.specs.declared.op.Op.TheVariants.{H}

-- times the root of two, so often
unfoldable pub rooted : ℕ → Cyclotomic → Cyclotomic
rooted zero u = u
rooted (suc d) u = times root2 (rooted d u)

-- The sum over the paths of 64 bits of what the rest of the operations make of where each path ends: the amplitude for
-- the word z.
abbrev pub over_paths : (List Bool → ℕ) → (List Bool → List Bool) → List Op → List Bool → Cyclotomic
over_paths power ends rest z = sum_over_words 64 (λ v. times_w_power (power v) (amplitude rest (ends v) z))

abbrev pub is_h : Op → Bool
is_h (H line) = true
is_h op = false
