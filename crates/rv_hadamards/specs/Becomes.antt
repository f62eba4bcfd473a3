-- Operations that others may stand for, whatever follows.
use Rattle.std.specs.Prelude.{◌≡◌, ℕ, ◌+◌, ◌*◌, ◌≤◌, Bool, List, ◌++◌, All, length, count_by}
use Rattle.rv_net.specs.Amplitude.{amplitude, count_h}
use Rattle.rv_net.specs.Cyclotomic.{doubled}
use Rattle.rv_net.specs.Op.{OpFitsIn, has_three_lines, is_t}
use Rattle.rv_net.specs.declared.op.Op.{Op}

-- On n lines: the same amplitudes, but for a factor of 2 for each pair of H less, and no more operations.
pub record Becomes (n : ℕ) (old new : List Op) : Type 0 where
  pub pairs : ℕ
  pub amplitudes : (rest : List Op) (x y : List Bool) → length x ≡ n → amplitude (old ++ rest) x y ≡ doubled pairs (amplitude (new ++ rest) x y)
  pub hadamards : count_h old ≡ count_h new + 2 * pairs
  pub operations : length new ≤ length old
  pub t_gates : count_by is_t new ≤ count_by is_t old
  pub three_lines : count_by has_three_lines new ≤ count_by has_three_lines old
  pub fitting : All (λ op. OpFitsIn op n) old → All (λ op. OpFitsIn op n) new
